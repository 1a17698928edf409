-- Gear rows: which are written; what is written is read as it was written, with up to t bits turned; 11 is for a word that carries no row, and what
-- the high neutral brings.
use Rattle.std.proofs.Math.Path.{◌≡◌, refl, sym, ap}
use Rattle.std.proofs.Common.{ap₂, ◌∙◌, arith, eq-eqb, le-leb}
use Rattle.std.specs.Prelude.{◌≢◌, ◌↔◌, Bool, true, false, ℕ, ◌≤◌, length}
use Rattle.std.proofs.Math.Bool.{false≢true}
use mathlib.Core.List.{List, [], ◌∷◌}
use Rattle.algebra.specs.Flags.{both_true, both_hold, refuted}
use Rattle.algebra.specs.Lists.{entry_of}
use Rattle.algebra.specs.PlaceLaws.{length-chosen}
use Rattle.refusals.specs.Answered.{done_apart}
use Rattle.refusals.specs.Outcome.{Done, Refused as NotWritten}
use Rattle.refusals.specs.Rules.{◌unless◌, fault}
use Rattle.refusals.specs.RuleLaws.{fault_here, fault_past, fault_empty, refuse, given}
use Rattle.slices.specs.Bits.{Bits, IsBits}
use Rattle.slices.specs.BitLaws.{all_bits_lem}
use Rattle.params.specs.declared.Parameters.{Parameters}
use Rattle.params.specs.Code.{Accepted}
use Rattle.parity.specs.Columns.{is_message_column, dimension, message_of}
use Rattle.shortened.specs.Fits.{Fits}
use Rattle.shortened.specs.Setting.{Setting, places, columns_of}
use Rattle.shortened.proofs.SettingLaws.{setting_leaves, fits_selected}
use Rattle.nearest.proofs.Demand.{repaired_code_word}
use Rattle.nearest.specs.Repair.{distance, is_repairable, repaired_of}
use Rattle.repair.specs.declared.Recovery.TheVariants.{Repaired}
use Rattle.repair.specs.Answers.{word_rules, turned_count, repair_answer, repair_after}
use Rattle.gears.specs.Allowed.{Allowed}
use Rattle.gears.specs.RowLaws.{row_exactly}
use Rattle.gears.specs.Rows.{high_neutral, is_row, row_bits, row_message, gear_in, lamp_in, further_zero, is_row_message, row_of}
use Rattle.gears.specs.Messages.{message_is_row, message_only, high_message}
use Rattle.rows.specs.declared.Reading.TheVariants.{Read, Refused}
use Rattle.rows.specs.Answers.{write_rules, write_fault, write_answer, write_after, carried, read_rules, row_read, read_fault, read_answer, read_after}
use Rattle.rows.proofs.Laws.{chosen_bits, row_written, turned_read, turned_repaired}
use Rattle.demands.specs.CodeWords.{bits_on}
use Rattle.demands.specs.Demand3.{repaired_ends, refused_ends}

same_count : (a b : ℕ) → Repaired a ≡ Repaired b → a ≡ b
same_count a b e = cc

-- an accepted code, or any selection of it, whatever message columns are hidden, with room for a row
module _ {c : Parameters} {h : List ℕ} (A : Accepted c h) (s : Setting) (F : Fits c h s) (wide : row_bits ≤ dimension c h (columns_of c s)) where
  -- A row that is allowed is written, and what is received with at most t bits turned is read as that row, with the number of turned bits; the buffer
  -- then holds what was written.
  pub written_is_read : (gear lamp : ℕ) → is_row gear lamp ≡ true → (word : List ℕ) → length word ≡ places s
      → (write_answer c h s gear lamp word ≡ Done)
      × ((received repaired : List ℕ) → IsBits (places s) received → length repaired ≡ places s
      → distance (places s) received (write_after c h s gear lamp word) ≤ c.t
      → (read_answer c h s received repaired ≡ Read (row_of gear lamp) (distance (places s) received (write_after c h s gear lamp word)))
      × (read_after c h s received repaired ≡ write_after c h s gear lamp word))
  written_is_read gear lamp allowed word lent = (
    row_written A s F wide gear lamp allowed word lent,
    λ received repaired bits lent' near. (
      turned_read A s F wide gear lamp allowed word lent bits repaired lent' near,
      turned_repaired A s F wide gear lamp allowed word lent bits repaired lent' near,
    ),
  )

  -- "green is allowed with 0 and with 7. Dark and amber still go with all": these rows are written, and any other gear and lamp are 11.
  pub written_exactly : (gear lamp : ℕ) (word : List ℕ) → length word ≡ places s
      → ((write_answer c h s gear lamp word ≡ Done) ↔ Allowed gear lamp)
      × ((write_answer c h s gear lamp word ≡ NotWritten 11) ↔ (Allowed gear lamp → ⊥))
  unfolding write_answer write_fault write_rules
  written_exactly gear lamp word lent = decided (is_row gear lamp) refl
    where
      past : write_fault c h s gear lamp word ≡ fault ((11 unless is_row gear lamp) ∷ [])
      past =
          setting_leaves A s F refl (eq-eqb (length word) (places s) lent) (write_rules c h (columns_of c s) gear lamp)
          ∙ fault_past 12 _ (le-leb row_bits (dimension c h (columns_of c s)) wide) refl

      decided : (b : Bool) → is_row gear lamp ≡ b
          → ((write_answer c h s gear lamp word ≡ Done) ↔ Allowed gear lamp)
          × ((write_answer c h s gear lamp word ≡ NotWritten 11) ↔ (Allowed gear lamp → ⊥))
      decided true e =
          let done : write_answer c h s gear lamp word ≡ Done = given NotWritten Done (past ∙ fault_past 11 [] e fault_empty) in
          let allowed = (row_exactly gear lamp).0 e in
          ((λ d. allowed, λ r. done), (λ refused. absurd (done_apart 11 (sym refused ∙ done)), λ none. absurd (none allowed)))
      decided false e =
          let refused : write_answer c h s gear lamp word ≡ NotWritten 11 =
          sym (refuse {k = 11} NotWritten Done (sym (past ∙ fault_here 11 [] e)) (λ z. omega arith)) in
          let none : Allowed gear lamp → ⊥ = λ r. false≢true (sym e ∙ (row_exactly gear lamp).1 r) in
          ((λ done. absurd (done_apart 11 (sym refused ∙ done)), λ r. absurd (none r)), (λ n. none, λ n. refused))

  module _ {received : List ℕ} (bits : IsBits (places s) received) (repaired : List ℕ) (lent : length repaired ≡ places s) where
    -- past 12 and 8 there is 10, and then 11
    pub fault_is : read_fault c h s received repaired
        ≡ fault ((10 unless is_repairable c h (columns_of c s) received) ∷ (11 unless is_row_message (carried c h (columns_of c s) received)) ∷ [])
    unfolding read_fault read_rules word_rules
    fault_is =
        setting_leaves A s F refl (both_hold (eq-eqb (length received) (places s) bits.long) (eq-eqb (length repaired) (places s) lent))
        (read_rules c h (columns_of c s) received)
        ∙ fault_past 12 _ (le-leb row_bits (dimension c h (columns_of c s)) wide) (fault_past 8 _ (all_bits_lem bits) refl)

    module _ (e : is_repairable c h (columns_of c s) received ≡ true) where
      message_is : message_of c h (columns_of c s) (repair_after c h s received repaired) ≡ carried c h (columns_of c s) received
      unfolding carried
      message_is = ap (message_of c h (columns_of c s)) (repaired_ends A s F bits repaired lent e).1

      carried_long : length (carried c h (columns_of c s) received) ≡ dimension c h (columns_of c s)
      unfolding carried message_of dimension
      carried_long =
          length-chosen (length (columns_of c s)) (is_message_column c h (columns_of c s)) (entry_of (repaired_of c h (columns_of c s) received))

      carried_bits : Bits (carried c h (columns_of c s) received)
      unfolding carried message_of
      carried_bits i l =
          chosen_bits (length (columns_of c s)) (is_message_column c h (columns_of c s)) (entry_of (repaired_of c h (columns_of c s) received))
          (repaired_code_word A (fits_selected A s F) (bits_on c s bits) e).bits.bits i

      no_row : is_row_message (carried c h (columns_of c s) received) ≡ false → read_answer c h s received repaired ≡ Refused 11
      unfolding read_answer
      no_row is = sym (refuse {k = 11} Refused _ (sym (fault_is ∙ fault_past 10 _ e (fault_here 11 [] is))) (λ z. omega arith))

      a_row : is_row_message (carried c h (columns_of c s) received) ≡ true
          → read_answer c h s received repaired
          ≡ Read (row_of (gear_in (carried c h (columns_of c s) received)) (lamp_in (carried c h (columns_of c s) received)))
          (turned_count c h (columns_of c s) received)
      unfolding read_answer row_read
      a_row is = given Refused _ (fault_is ∙ fault_past 10 _ e (fault_past 11 [] is fault_empty))

      not_none : is_row_message (carried c h (columns_of c s) received) ≡ true → read_answer c h s received repaired ≢ Refused 11
      not_none is refused =
          let read = sym refused ∙ a_row is in
          let z : ◌≡◌ {A = ℕ} 0 1 = cc in absurd (omega arith)

      -- the message of no allowed row
      none_exactly : (is_row_message (carried c h (columns_of c s) received) ≡ false)
          ↔ ((gear lamp : ℕ) → is_row gear lamp ≡ true → message_of c h (columns_of c s) (repair_after c h s received repaired)
          ≢ row_message (dimension c h (columns_of c s)) gear lamp)
      unfolding is_row_message
      none_exactly = (
        λ is gear lamp allowed same.
            false≢true (sym is ∙ ap is_row_message (sym message_is ∙ same) ∙ message_is_row (dimension c h (columns_of c s)) gear lamp wide allowed),
        λ none. refuted (is_row_message (carried c h (columns_of c s) received))
            (λ is.
            let said = carried c h (columns_of c s) received in
            none (gear_in said) (lamp_in said) (both_true (is_row (gear_in said) (lamp_in said)) (further_zero said) is).0
            (message_is ∙ message_only said carried_bits is ∙ ap (λ (k : ℕ). row_message k (gear_in said) (lamp_in said)) carried_long)),
      )

    far_by : is_repairable c h (columns_of c s) received ≡ false → read_answer c h s received repaired ≢ Refused 11
    unfolding read_answer
    far_by e refused =
        let far = refuse {k = 10} Refused _ (sym (fault_is ∙ fault_here 10 _ e)) (λ z. omega arith) ∙ refused in
        let same : ◌≡◌ {A = ℕ} 10 11 = cc in absurd (omega arith)

    repairable_by : {count : ℕ} → repair_answer c h s received repaired ≡ Repaired count → is_repairable c h (columns_of c s) received ≡ true
    repairable_by done = decided (is_repairable c h (columns_of c s) received) refl
      where
        decided : (b : Bool) → is_repairable c h (columns_of c s) received ≡ b → is_repairable c h (columns_of c s) received ≡ true
        decided true e = e
        decided false e =
            let both = sym done ∙ (refused_ends A s F bits repaired lent e).0 in
            let z : ◌≡◌ {A = ℕ} 0 1 = cc in absurd (omega arith)

    -- 11 is given exactly if the word is repaired and its message is that of no allowed row
    pub no_row_exactly : (read_answer c h s received repaired ≡ Refused 11)
        ↔ ((count : ℕ) × (repair_answer c h s received repaired ≡ Repaired count)
        × ((gear lamp : ℕ) → is_row gear lamp ≡ true → message_of c h (columns_of c s) (repair_after c h s received repaired)
        ≢ row_message (dimension c h (columns_of c s)) gear lamp))
    no_row_exactly = decided (is_repairable c h (columns_of c s) received) refl
      where
        decided : (b : Bool) → is_repairable c h (columns_of c s) received ≡ b
            → (read_answer c h s received repaired ≡ Refused 11)
            ↔ ((count : ℕ) × (repair_answer c h s received repaired ≡ Repaired count)
            × ((gear lamp : ℕ) → is_row gear lamp ≡ true → message_of c h (columns_of c s) (repair_after c h s received repaired)
            ≢ row_message (dimension c h (columns_of c s)) gear lamp))
        decided true e = (
          λ refused. (
            turned_count c h (columns_of c s) received,
            (repaired_ends A s F bits repaired lent e).0,
            (none_exactly e).0 (refuted (is_row_message (carried c h (columns_of c s) received)) (λ is. not_none e is refused)),
          ),
          λ none. no_row e ((none_exactly e).1 none.2),
        )
        decided false e = (
          λ refused. absurd (far_by e refused),
          λ none. absurd (false≢true (sym e ∙ repairable_by none.1)),
        )

    -- the message of what repair leaves in the buffer
    abbrev pub repaired_message : List ℕ
    repaired_message = message_of c h (columns_of c s) (repair_after c h s received repaired)

    -- "A message with gear 7, a lamp of 0 to 2 and further bits 0 … is now read; any other with 7 still brings 11."
    pub high_neutral_lem : {count : ℕ} → repair_answer c h s received repaired ≡ Repaired count → gear_in repaired_message ≡ high_neutral
        → ((lamp_in repaired_message ≤ 2) × (further_zero repaired_message ≡ true)
        → read_answer c h s received repaired ≡ Read (row_of high_neutral (lamp_in repaired_message)) count)
        × (((lamp_in repaired_message ≤ 2) × (further_zero repaired_message ≡ true) → ⊥) → read_answer c h s received repaired ≡ Refused 11)
    high_neutral_lem done high =
        let e = repairable_by done in
        let same : repaired_message ≡ carried c h (columns_of c s) received = message_is e in (
          λ row.
              a_row e (ap is_row_message (sym same) ∙ (high_message repaired_message high).1 row)
              ∙ ap₂ Read (ap₂ row_of (ap gear_in (sym same) ∙ high) (ap lamp_in (sym same)))
              (same_count _ _ (sym (repaired_ends A s F bits repaired lent e).0 ∙ done)),
          λ none. no_row e (ap is_row_message (sym same) ∙ refuted (is_row_message repaired_message) (λ t. none ((high_message repaired_message high).0 t))),
        )
