-- What is written is read again, also with up to t bits turned; and what is read is an allowed row, the one that the repaired word carries.
--
-- Each law is shown for an accepted code and any list of its columns first, and the calls' from it, at any setting.
use Rattle.std.specs.Prelude.{◌≢◌, ◌≡◌, Bool, false, cond, ◌&&◌, ℕ, zero, suc, ◌<◌, ◌≤◌, length}
use Rattle.std.proofs.Math.Path.{refl, ap, ap₂, subst}
use Rattle.std.proofs.Common.{sym, ◌∙◌, subst₂, arith, lit<}
use Rattle.std.proofs.Math.Bool.{true}
use mathlib.Core.List.{List, [], ◌∷◌, ◌++◌}
use Rattle.std.proofs.Math.Dec.{eqb}
use borrow.Author.Tests.{eq-eqb, eqb-true, leb-true, le-leb}
use Rattle.algebra.specs.Flags.{both_true, both_hold}
use Rattle.algebra.specs.Lists.{entry_of}
use Rattle.algebra.specs.Places.{chosen}
use Rattle.algebra.specs.PlaceLaws.{length-chosen}
use Rattle.refusals.specs.Rules.{fault, unless_refused}
use Rattle.refusals.specs.RuleLaws.{fault_none, first_holds, hold, given}
use Rattle.refusals.specs.Outcome.{Done, Refused}
use Rattle.slices.specs.Bits.{Bits, all_bits, IsBits}
use Rattle.slices.specs.BitLaws.{received_bits, all_bits_lem}
use Rattle.params.specs.declared.Parameters.{Parameters}
use Rattle.params.specs.Code.{Accepted}
use Rattle.parity.specs.Columns.{is_message_column, dimension, message_of, encoding_of}
use Rattle.parity.specs.Encoding.{encoding_carries, encoding_only}
use Rattle.parity.specs.Selected.{Selected}
use Rattle.shortened.specs.Fits.{Fits}
use Rattle.shortened.specs.Setting.{Setting, places, columns_of, setting_rules}
use Rattle.shortened.proofs.SettingLaws.{setting_accepted, setting_leaves, fits_selected, length_columns}
use Rattle.nearest.specs.CodeWord.{CodeWord}
use Rattle.nearest.proofs.Demand.{near_unique, repaired_code_word, repaired_within}
use Rattle.nearest.specs.Repair.{distance, is_repairable, repaired_of}
use Rattle.nearest.proofs.Search.{distance_self, near as near_word, repairable as near_repairable}
use Rattle.repair.specs.Answers.{word_rules, turned_count}
use Rattle.gears.specs.declared.Row.{Row}
use Rattle.gears.specs.Rows.{is_row, row_bits, row_message, gear_in, lamp_in, further_zero, is_row_message, lamp_number, row_of}
use Rattle.gears.specs.Messages.{row_lamp, lamp_number_lem, length_message, message_bits, message_gear, message_lamp, message_is_row, message_only}
use Rattle.rows.specs.declared.Reading.{Reading}
use Rattle.rows.specs.declared.Reading.TheVariants.{Read, Refused as NotRead}
use Rattle.rows.specs.Answers.{write_rules, row_word, carried, read_rules, row_read, reading_answer, reading_after}
use Rattle.rows.specs.Answers.{write_fault, write_answer, write_after, read_fault, read_answer, read_after}

-- ---- rules

-- a row was read only where no rule refuses
pub read_is : (k : ℕ) {value : Reading} {row : Row} {turned : ℕ} → unless_refused k NotRead value ≡ Read row turned
    → (k ≡ 0) × (value ≡ Read row turned)
unfolding unless_refused
read_is zero e = (refl, e)
read_is (suc k) e = (cc, cc)

-- a row is no refusal, and refusals tell their numbers
pub read_apart : (row : Row) (n k : ℕ) → NotRead k ≢ Read row n
read_apart row n k e =
    let z : ◌≡◌ {A = ℕ} 0 1 = cc in absurd (omega arith)

pub same_reading : (i j : ℕ) → NotRead i ≡ NotRead j → i ≡ j
same_reading i j e = cc

-- ---- words

-- bits taken out of a word of bits
append_bits : (a b : List ℕ) → ((i : ℕ) → entry_of a i < 2) → ((i : ℕ) → entry_of b i < 2) → (i : ℕ) → entry_of (a ++ b) i < 2
append_bits [] b f g i = g i
append_bits (x ∷ a) b f g zero = f 0
append_bits (x ∷ a) b f g (suc i) = append_bits a b (λ j. f (suc j)) g i

pub chosen_bits : (n : ℕ) (p : ℕ → Bool) (w : ℕ → ℕ) → ((j : ℕ) → j < n → w j < 2) → (i : ℕ) → entry_of (chosen n p w) i < 2
unfolding chosen
chosen_bits zero p w b = λ i. lit< tt
chosen_bits (suc n) p w b =
    append_bits (chosen n p w) (cond (p n) (w n ∷ []) []) (chosen_bits n p w (λ j l. b j (omega arith))) (last (p n) (b n (omega arith)))
  where
    last : (c : Bool) → w n < 2 → (i : ℕ) → entry_of (cond c (w n ∷ []) []) i < 2
    last true l zero = l
    last true l (suc i) = lit< tt
    last false l i = lit< tt

-- ---- an allowed row, for an accepted code and columns that are wide enough

module _ {c : Parameters} {h cols : List ℕ} (A : Accepted c h) (S : Selected c.n cols) (wide : row_bits ≤ dimension c h cols) (gear lamp : ℕ)
    (allowed : is_row gear lamp ≡ true) where
  abbrev k : ℕ
  k = dimension c h cols

  abbrev W : List ℕ
  W = row_word c h cols gear lamp

  write_passes : fault (write_rules c h cols gear lamp) ≡ 0
  unfolding write_rules
  write_passes = fault_none (write_rules c h cols gear lamp) (le-leb row_bits k wide, (allowed, tt))

  row_word_lem : CodeWord c h cols W × (message_of c h cols W ≡ row_message k gear lamp)
  unfolding row_word
  row_word_lem =
      let (b, code, q) =
      encoding_carries c h cols A.limits.width (row_message k gear lamp) (length_message k gear lamp) (message_bits k gear lamp) in
      (record { bits = b; code = code }, q)

  -- reading a word near it
  module _ {r : List ℕ} (received : IsBits (length cols) r) (near : distance (length cols) r W ≤ c.t) where
    repairable : is_repairable c h cols r ≡ true
    repairable = near_repairable c h cols r row_word_lem.0.bits (near_word c h cols r W row_word_lem.0.code near)

    repaired_is : repaired_of c h cols r ≡ W
    repaired_is =
        near_unique A S received (repaired_code_word A S received repairable) row_word_lem.0 (repaired_within A S received repairable) near

    carried_is : carried c h cols r ≡ row_message k gear lamp
    unfolding carried
    carried_is = ap (message_of c h cols) repaired_is ∙ row_word_lem.1

    read_passes : fault (read_rules c h cols r) ≡ 0
    unfolding read_rules word_rules
    read_passes =
        fault_none (read_rules c h cols r) (
          le-leb row_bits k wide,
          (all_bits_lem received, (repairable, (ap is_row_message carried_is ∙ message_is_row k gear lamp wide allowed, tt))),
        )

    -- it is read as that row, with the number of places in which they differ
    pub near_read : reading_answer c h cols r ≡ Read (row_of gear lamp) (distance (length cols) r W)
    unfolding reading_answer row_read turned_count
    near_read =
        given NotRead (row_read c h cols r) read_passes
        ∙ ap₂ Read
        (ap₂ row_of (ap gear_in carried_is ∙ message_gear k gear lamp wide allowed) (ap lamp_in carried_is ∙ message_lamp k gear lamp wide allowed))
        (ap (distance (length cols) r) repaired_is)

    -- and repaired to that word
    pub near_after : (repaired : List ℕ) → reading_after c h cols r repaired ≡ W
    unfolding reading_after
    near_after repaired = given (λ i. repaired) (repaired_of c h cols r) read_passes ∙ repaired_is

-- ---- what is read, over any columns

module _ (c : Parameters) (h cols received : List ℕ) {row : Row} {turned : ℕ} (e : reading_answer c h cols received ≡ Read row turned) where
  abbrev said : List ℕ
  said = carried c h cols received

  -- the rules that reading has passed
  passed : (row_bits ≤ dimension c h cols) × (all_bits received ≡ true) × (is_repairable c h cols received ≡ true) × (is_row_message said ≡ true)
  unfolding reading_answer read_rules word_rules
  passed =
      let H = hold (read_rules c h cols received) tt (read_is (fault (read_rules c h cols received)) e).0 in
      (leb-true row_bits (dimension c h cols) H.0, H.1.0, H.1.1.0, H.1.1.1.0)

  -- the row and the count that it gave
  said_is : (row ≡ row_of (gear_in said) (lamp_in said)) × (turned ≡ turned_count c h cols received)
  unfolding reading_answer row_read
  said_is =
      let q = (read_is (fault (read_rules c h cols received)) e).1 in (cc, cc)

  said_row : is_row (gear_in said) (lamp_in said) ≡ true
  unfolding is_row_message
  said_row = (both_true (is_row (gear_in said) (lamp_in said)) (further_zero said) passed.3).0

  gear_is : row.gear ≡ gear_in said
  unfolding row_of
  gear_is = ap (λ (x : Row). x.gear) said_is.0

  lamp_is : lamp_number row.lamp ≡ lamp_in said
  unfolding row_of
  lamp_is = ap (λ (x : Row). lamp_number x.lamp) said_is.0 ∙ lamp_number_lem (lamp_in said) (row_lamp (gear_in said) (lamp_in said) said_row)

  -- it is an allowed row
  pub reading_allowed : is_row row.gear (lamp_number row.lamp) ≡ true
  reading_allowed = ap₂ is_row gear_is lamp_is ∙ said_row

  module _ (A : Accepted c h) (S : Selected c.n cols) (long : length received ≡ length cols) where
    bits : IsBits (length cols) received
    bits = received_bits long passed.1

    -- at most t bits were repaired
    pub reading_within : turned ≤ c.t
    unfolding turned_count
    reading_within = subst (λ (d : ℕ). d ≤ c.t) (sym said_is.1) (repaired_within A S bits passed.2)

    -- to the word that carries that row
    pub reading_repaired : (repaired : List ℕ) → reading_after c h cols received repaired ≡ row_word c h cols row.gear (lamp_number row.lamp)
    unfolding reading_answer reading_after carried row_word message_of dimension
    reading_repaired repaired =
        let R = repaired_of c h cols received in
        let w = repaired_code_word A S bits passed.2 in
        let s_long = length-chosen (length cols) (is_message_column c h cols) (entry_of R) in
        let s_bits : Bits said = λ i l. chosen_bits (length cols) (is_message_column c h cols) (entry_of R) w.bits.bits i in
        given (λ i. repaired) R (read_is (fault (read_rules c h cols received)) e).0
        ∙ encoding_only c h cols A.limits.width said R s_long s_bits w.bits w.code refl
        ∙ ap (encoding_of c h cols)
        (message_only said s_bits passed.3 ∙ ap (λ (i : ℕ). row_message i (gear_in said) (lamp_in said)) s_long
        ∙ ap₂ (row_message (dimension c h cols)) (sym gear_is) (sym lamp_is))

-- ---- reading by the call, for an accepted code: it ends as for the columns of its setting

module _ {c : Parameters} {h : List ℕ} (A : Accepted c h) (s : Setting) (F : Fits c h s) (received repaired : List ℕ)
    (long : length received ≡ places s) (lent : length repaired ≡ places s) where
  read_rules_lem : read_fault c h s received repaired ≡ fault (read_rules c h (columns_of c s) received)
  unfolding read_fault
  read_rules_lem =
      setting_leaves A s F refl (both_hold (eq-eqb (length received) (places s) long) (eq-eqb (length repaired) (places s) lent))
      (read_rules c h (columns_of c s) received)

  pub answer_is : read_answer c h s received repaired ≡ reading_answer c h (columns_of c s) received
  unfolding read_answer reading_answer
  answer_is = ap (λ (i : ℕ). unless_refused i NotRead (row_read c h (columns_of c s) received)) read_rules_lem

  after_is : read_after c h s received repaired ≡ reading_after c h (columns_of c s) received repaired
  unfolding read_after reading_after
  after_is = ap (λ (i : ℕ). unless_refused i (λ j. repaired) (repaired_of c h (columns_of c s) received)) read_rules_lem

-- ---- what is written is read

module _ {c : Parameters} {h : List ℕ} (A : Accepted c h) (s : Setting) (F : Fits c h s) (wide : row_bits ≤ dimension c h (columns_of c s))
    (gear lamp : ℕ) (allowed : is_row gear lamp ≡ true) (word : List ℕ) (lent : length word ≡ places s) where
  abbrev S : Selected c.n (columns_of c s)
  S = fits_selected A s F

  abbrev written : List ℕ
  written = write_after c h s gear lamp word

  write_none : write_fault c h s gear lamp word ≡ 0
  unfolding write_fault
  write_none =
      setting_leaves A s F refl (eq-eqb (length word) (places s) lent) (write_rules c h (columns_of c s) gear lamp)
      ∙ write_passes A S wide gear lamp allowed

  -- every allowed row is written
  pub row_written : write_answer c h s gear lamp word ≡ Done
  unfolding write_answer
  row_written = given Refused Done write_none

  pub written_is : written ≡ row_word c h (columns_of c s) gear lamp
  unfolding write_after
  written_is = given (λ i. word) (row_word c h (columns_of c s) gear lamp) write_none

  module _ {received : List ℕ} (bits : IsBits (places s) received) (repaired : List ℕ) (lent' : length repaired ≡ places s)
      (near : distance (places s) received written ≤ c.t) where
    bits' : IsBits (length (columns_of c s)) received
    bits' = subst (λ (i : ℕ). IsBits i received) (sym (length_columns c s)) bits

    distances : distance (length (columns_of c s)) received (row_word c h (columns_of c s) gear lamp) ≡ distance (places s) received written
    distances = ap₂ (λ (i : ℕ) (w : List ℕ). distance i received w) (length_columns c s) (sym written_is)

    near' : distance (length (columns_of c s)) received (row_word c h (columns_of c s) gear lamp) ≤ c.t
    near' = subst (λ (d : ℕ). d ≤ c.t) (sym distances) near

    -- a row with at most t bits turned is read as that row, with the number of them
    pub turned_read : read_answer c h s received repaired ≡ Read (row_of gear lamp) (distance (places s) received written)
    turned_read =
        answer_is A s F received repaired bits.long lent' ∙ near_read A S wide gear lamp allowed bits' near'
        ∙ ap (Read (row_of gear lamp)) distances

    -- and the second buffer then holds what was written
    pub turned_repaired : read_after c h s received repaired ≡ written
    turned_repaired =
        after_is A s F received repaired bits.long lent' ∙ near_after A S wide gear lamp allowed bits' near' repaired ∙ sym written_is

  pub written_bits : IsBits (places s) written
  written_bits =
      subst₂ IsBits (length_columns c s) (sym written_is) (row_word_lem A S wide gear lamp allowed).0.bits

  -- a written row is read as it was written
  pub written_read : (repaired : List ℕ) → length repaired ≡ places s → read_answer c h s written repaired ≡ Read (row_of gear lamp) 0
  written_read repaired lent' =
      let none = distance_self (places s) written in
      turned_read written_bits repaired lent' (subst (λ (d : ℕ). d ≤ c.t) (sym none) (omega arith)) ∙ ap (Read (row_of gear lamp)) none

-- ---- what is read

module _ (c : Parameters) (h : List ℕ) (s : Setting) (received repaired : List ℕ) {row : Row} {turned : ℕ}
    (e : read_answer c h s received repaired ≡ Read row turned) where
  abbrev Lengths : Type 0
  Lengths = (length received ≡ places s) × (length repaired ≡ places s)

  -- the code was accepted, and the selection, and both buffers have an entry for each place
  code : Accepted c h × Fits c h s × Lengths
  unfolding read_answer read_fault
  code =
      let B = (eqb (length received) (places s) && eqb (length repaired) (places s)) in
      let none = (read_is (read_fault c h s received repaired) e).0 in
      let (others, words, A, F) =
      setting_accepted c h s true B (first_holds (setting_rules c h s true B) (read_rules c h (columns_of c s) received) none) in
      let (r, w) = both_true (eqb (length received) (places s)) (eqb (length repaired) (places s)) words in
      (A, F, (eqb-true (length received) (places s) r, eqb-true (length repaired) (places s) w))

  reading : reading_answer c h (columns_of c s) received ≡ Read row turned
  reading =
      let (A, F, (r, w)) = code in sym (answer_is A s F received repaired r w) ∙ e

  long : length received ≡ length (columns_of c s)
  long = code.2.0 ∙ sym (length_columns c s)

  -- what is read is an allowed row
  pub read_allowed : is_row row.gear (lamp_number row.lamp) ≡ true
  read_allowed = reading_allowed c h (columns_of c s) received reading

  -- with the number of places in which the word received differs from what the second buffer then holds
  pub read_counted : turned ≡ distance (places s) received (read_after c h s received repaired)
  unfolding turned_count reading_answer reading_after
  read_counted =
      let (A, F, (r, w)) = code in
      let none = (read_is (fault (read_rules c h (columns_of c s) received)) reading).0 in
      (said_is c h (columns_of c s) received reading).1
      ∙ ap₂ (λ (n : ℕ) (x : List ℕ). distance n received x) (length_columns c s)
      (sym (after_is A s F received repaired r w ∙ given (λ i. repaired) (repaired_of c h (columns_of c s) received) none))

  -- and at most t bits were repaired, of an accepted code
  pub read_within : Accepted c h × (turned ≤ c.t)
  read_within = (code.0, reading_within c h (columns_of c s) received reading code.0 (fits_selected code.0 s code.1) long)

  -- the second buffer then holds the word that is written for that row
  pub read_repaired : (word : List ℕ) → length word ≡ places s
      → read_after c h s received repaired ≡ write_after c h s row.gear (lamp_number row.lamp) word
  read_repaired word lent =
      let (A, F, (r, w)) = code in
      after_is A s F received repaired r w
      ∙ reading_repaired c h (columns_of c s) received reading A (fits_selected A s F) long repaired
      ∙ sym (written_is A s F (passed c h (columns_of c s) received reading).0 row.gear (lamp_number row.lamp) read_allowed word lent)
