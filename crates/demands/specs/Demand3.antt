-- Demand 3: "Whatever bits the spark turns: under every accepted card, for every word of n bits received and every buffer of that length, repair ends
-- in one of two ways. Either the buffer for the repaired word then holds a code word that differs from the word received in at most t places, the
-- count given is the number of those places, and every other code word differs from the word received in more than t places; or the buffer is
-- unchanged and the number is 10. It is 10 exactly when every code word differs from the word received in more than t places."
--
-- It is said at every setting s. At `short_code hidden` the places of a word are those of the n columns of the card that are sent, and `Fits` asks for
-- what 20 asks for, and for a mark for each column. At `short_selection blocks shifts hidden` they are those of the ℓ·t that are sent, and `Fits` asks
-- for what 2, 14 and 15 ask for too: "Encoding, repair and rows must hold for such words exactly as for whole cards."
use Rattle.std.specs.Prelude.{◌≡◌, ◌≢◌, ◌↔◌, ◌⊎◌, Bool, true, false, ℕ, ◌<◌, ◌≤◌, length}
use Rattle.std.proofs.Math.Path.{refl, sym, ap, subst}
use Rattle.std.proofs.Common.{◌∙◌, inl, inr, arith, eq-eqb}
use mathlib.Core.List.{List, [], ◌∷◌}
use Rattle.algebra.specs.Flags.{both_hold}
use Rattle.refusals.specs.Rules.{◌unless◌, fault}
use Rattle.refusals.specs.RuleLaws.{fault_here, fault_past, fault_empty, refuse, given}
use Rattle.slices.specs.Bits.{IsBits}
use Rattle.slices.specs.BitLaws.{all_bits_lem}
use Rattle.params.specs.declared.Parameters.{Parameters}
use Rattle.params.specs.Code.{Accepted}
use Rattle.shortened.specs.Fits.{Fits}
use Rattle.shortened.specs.Setting.{Setting, places, columns_of}
use Rattle.shortened.proofs.SettingLaws.{setting_leaves, fits_selected, length_columns}
use Rattle.nearest.proofs.Demand.{repaired_code_word, repaired_within, others_beyond, too_far_exactly}
use Rattle.nearest.specs.Repair.{distance, is_repairable, repaired_of}
use Rattle.repair.specs.declared.Recovery.TheVariants.{Repaired, Refused}
use Rattle.repair.specs.Answers.{word_rules, turned_count, repair_fault, repair_answer, repair_after}
use Rattle.demands.specs.CodeWords.{CodeWord, bits_on, code_word_on, code_word_lem}

-- the first of the two ways
pub record Nearest (c : Parameters) (h : List ℕ) (s : Setting) (received word : List ℕ) (count : ℕ) : Type 0 where
  -- "holds a code word"
  pub is_code_word : CodeWord c h s word
  -- "the count given is the number of those places"
  pub counted : count ≡ distance (places s) received word
  -- "in at most t places"
  pub within : count ≤ c.t
  -- "every other code word differs from the word received in more than t places"
  pub others : (w : List ℕ) → CodeWord c h s w → w ≢ word → c.t < distance (places s) received w

-- "every code word differs from the word received in more than t places"
abbrev pub FarFromAll : Parameters → List ℕ → Setting → List ℕ → Type 0
FarFromAll c h s received = (w : List ℕ) → CodeWord c h s w → c.t < distance (places s) received w

-- the whole sentence: how repair ends, and when it is refused
abbrev pub Ends : Parameters → List ℕ → Setting → List ℕ → List ℕ → Type 0
Ends c h s received buffer =
    (((count : ℕ) × (repair_answer c h s received buffer ≡ Repaired count) × Nearest c h s received (repair_after c h s received buffer) count)
    ⊎ ((repair_answer c h s received buffer ≡ Refused 10) × (repair_after c h s received buffer ≡ buffer)))
    × ((repair_answer c h s received buffer ≡ Refused 10) ↔ FarFromAll c h s received)

-- ---- the definitions for the columns of the setting

abbrev pub repairable : Parameters → List ℕ → Setting → List ℕ → Bool
repairable c h s received = is_repairable c h (columns_of c s) received

abbrev pub found : Parameters → List ℕ → Setting → List ℕ → List ℕ
found c h s received = repaired_of c h (columns_of c s) received

abbrev pub turned : Parameters → List ℕ → Setting → List ℕ → ℕ
turned c h s received = turned_count c h (columns_of c s) received

module _ {c : Parameters} {h : List ℕ} (A : Accepted c h) (s : Setting) (F : Fits c h s) {received : List ℕ} (bits : IsBits (places s) received)
    (buffer : List ℕ) (lent : length buffer ≡ places s) where
  counted_on : (w : List ℕ) → c.t < distance (length (columns_of c s)) received w → c.t < distance (places s) received w
  counted_on w l = subst (λ (n : ℕ). c.t < distance n received w) (length_columns c s) l

  -- of the call's rules only 10 is left
  fault_is : repair_fault c h s received buffer ≡ fault ((10 unless repairable c h s received) ∷ [])
  unfolding repair_fault word_rules
  fault_is =
      setting_leaves A s F refl (both_hold (eq-eqb (length received) (places s) bits.long) (eq-eqb (length buffer) (places s) lent))
      (word_rules c h (columns_of c s) received)
      ∙ fault_past 8 _ (all_bits_lem bits) refl

  pub repaired_ends : repairable c h s received ≡ true
      → (repair_answer c h s received buffer ≡ Repaired (turned c h s received)) × (repair_after c h s received buffer ≡ found c h s received)
  unfolding repair_answer repair_after
  repaired_ends e =
      let none = fault_is ∙ fault_past 10 [] e fault_empty in
      (given Refused (Repaired (turned c h s received)) none, given (λ k. buffer) (found c h s received) none)

  pub refused_ends : repairable c h s received ≡ false
      → (repair_answer c h s received buffer ≡ Refused 10) × (repair_after c h s received buffer ≡ buffer)
  unfolding repair_answer repair_after
  refused_ends e =
      let due : 10 ≡ repair_fault c h s received buffer = sym (fault_is ∙ fault_here 10 [] e) in
      (sym (refuse Refused _ due (λ z. omega arith)), sym (refuse (λ k. buffer) _ due (λ z. omega arith)))

  nearest : repairable c h s received ≡ true → Nearest c h s received (repair_after c h s received buffer) (turned c h s received)
  unfolding turned_count
  nearest e =
      let on = bits_on c s bits in
      let S = fits_selected A s F in
      let after = (repaired_ends e).1 in
      record {
        is_code_word = subst (CodeWord c h s) (sym after) (code_word_lem c h s (found c h s received) (repaired_code_word A S on e));
        counted = ap (λ (n : ℕ). distance n received (found c h s received)) (length_columns c s) ∙ ap (distance (places s) received) (sym after);
        within = repaired_within A S on e;
        others = λ w C other. counted_on w (others_beyond A S on e (code_word_on c h s w C) (λ same. other (same ∙ sym after)));
      }

  far_exactly : (repairable c h s received ≡ false) ↔ FarFromAll c h s received
  far_exactly = (
    λ e w C. counted_on w ((too_far_exactly A (fits_selected A s F) (bits_on c s bits)).0 e w (code_word_on c h s w C)),
    λ far. (too_far_exactly A (fits_selected A s F) (bits_on c s bits)).1
        (λ w C. subst (λ (n : ℕ). c.t < distance n received w) (sym (length_columns c s)) (far w (code_word_lem c h s w C))),
  )

  pub demand_3 : Ends c h s received buffer
  demand_3 = decided (repairable c h s received) refl
    where
      decided : (b : Bool) → repairable c h s received ≡ b → Ends c h s received buffer
      decided true e = (
        inl (turned c h s received, (repaired_ends e).0, nearest e),
        (
          λ refused.
              let both : Refused 10 ≡ Repaired (turned c h s received) = sym refused ∙ (repaired_ends e).0 in
              let z : ◌≡◌ {A = ℕ} 0 1 = cc in absurd (omega arith),
          λ far.
              let refuted : true ≡ false = sym e ∙ far_exactly.1 far in (refused_ends (e ∙ refuted)).0,
        ),
      )
      decided false e = (inr (refused_ends e), (λ refused. far_exactly.0 e, λ far. (refused_ends e).0))
