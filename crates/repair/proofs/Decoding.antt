-- How decoding ends, over plain numbers and lists, and what is copied of it.
use mathlib.Core.Path.{◌≡◌, refl, sym, ap, ◌∙◌, subst}
use mathlib.Core.Logic.{◌≢◌, ◌⊎◌, inl, inr}
use mathlib.Core.Bool.{true, false}
use mathlib.Core.List.{List, [], ◌∷◌}
use Prim.Native.Nat.{ℕ, zero, suc, ◌<◌, ◌≤◌}
use native.Mathlib.Omega.{arith}
use lib.ListN.{length}
use Rattle.algebra.specs.PlaceLaws.{count-le}
use Rattle.refusals.specs.Rules.{◌unless◌, fault, unless_refused}
use Rattle.refusals.specs.RuleLaws.{fault_none, fault_here, fault_past, refuse, accept}
use Rattle.slices.specs.Bits.{IsBits, all_bits}
use Rattle.slices.specs.BitLaws.{bits_are}
use Rattle.params.specs.declared.Parameters.{Parameters}
use Rattle.parity.specs.Selected.{OnColumns}
use Rattle.parity.specs.Word.{is_code_word}
use Rattle.nearest.specs.Decoding.{is_error, Candidate}
use Rattle.nearest.proofs.Demand.{near_unique, repaired_code_word, repaired_within}
use Rattle.nearest.proofs.Found.{repaired_found, not_found}
use Rattle.nearest.specs.Repair.{distance, is_repairable, repaired_of}
use Rattle.nearest.proofs.Search.{near, repairable, distance_self}
use Rattle.nearest.proofs.TurnedLaws.{length-turned, turned_bits}
use Rattle.repair.specs.declared.Recovery.{Recovery}
use Rattle.repair.specs.declared.Recovery.TheVariants.{Repaired, Refused}
use Rattle.repair.specs.Answers.{word_rules, turned_count}
use Rattle.repair.specs.Decoding.{word_answer, word_after, Decoded}

-- ---- how decoding ends

module _ {c : Parameters} {h cols : List ℕ} (O : OnColumns c h cols) where
  module _ (received : List ℕ) where
    due_refused : {k : ℕ} (word : List ℕ) → suc k ≡ fault (word_rules c h cols received) → Decoded c h cols received (Refused (suc k)) word
    unfolding word_answer
    due_refused word f = record { answer_is = refuse Refused _ f (λ q. omega arith); word_is = λ z. absurd (omega arith) }

    pub no_word : (word : List ℕ) → all_bits received ≡ false → Decoded c h cols received (Refused 8) word
    unfolding word_rules
    no_word word e = due_refused word (sym (fault_here 8 ((10 unless is_repairable c h cols received) ∷ []) e))

    module _ (bits : IsBits (length cols) received) where
      all_bits_lem : all_bits received ≡ true
      all_bits_lem = (bits_are received).1 (λ j l. bits.bits j (subst (λ (k : ℕ). j < k) bits.long l))

      far : (word : List ℕ) → is_repairable c h cols received ≡ false → Decoded c h cols received (Refused 10) word
      unfolding word_rules
      far word e = due_refused word (sym (fault_past 8 ((10 unless is_repairable c h cols received) ∷ []) all_bits_lem (fault_here 10 [] e)))

      repaired : {number : ℕ} {word : List ℕ} → is_repairable c h cols received ≡ true → word ≡ repaired_of c h cols received
          → number ≡ distance (length cols) received (repaired_of c h cols received) → Decoded c h cols received (Repaired number) word
      unfolding word_answer word_rules turned_count
      repaired e word_is number_is =
          let f = sym (fault_none (word_rules c h cols received) (all_bits_lem, (e, tt))) in
          record { answer_is = ap Repaired number_is ∙ accept {k = 0} Refused _ f refl; word_is = λ z. word_is }

      -- a code word is its own repair
      pub code_word_decoded : {word : List ℕ} → word ≡ received → is_code_word c h cols received ≡ true → Decoded c h cols received (Repaired 0) word
      code_word_decoded copied code =
          let A = O.accepted in
          let S = O.selected in
          let none : distance (length cols) received received ≡ 0 = distance_self (length cols) received in
          let close : distance (length cols) received received ≤ c.t = omega arith in
          let e = repairable c h cols received bits (near c h cols received received code close) in
          let same : received ≡ repaired_of c h cols received =
          near_unique A S bits (record { bits = bits; code = code }) (repaired_code_word A S bits e) close (repaired_within A S bits e) in
          repaired e (copied ∙ same) (sym none ∙ ap (distance (length cols) received) same)

      -- the candidate is the repair, or there is none
      module _ {number : ℕ} {word : List ℕ} (K : Candidate c h cols received number word) where
        pub candidate_refused : (is_code_word c h cols word ≡ false) ⊎ (c.t < number) → Decoded c h cols received (Refused 10) word
        candidate_refused (inl no_code) =
            far word
            (not_found O.accepted O.selected bits K.invariant K.least (inl (ap (is_code_word c h cols) (sym K.word_is) ∙ no_code)))
        candidate_refused (inr many) =
            far word
            (not_found O.accepted O.selected bits K.invariant K.least (inr (subst (λ (k : ℕ). c.t < k) K.number_is many)))

        pub candidate_decoded : is_code_word c h cols word ≡ true → number ≤ c.t → Decoded c h cols received (Repaired number) word
        candidate_decoded code few =
            let (e, same, count-is) =
            repaired_found O.accepted O.selected bits K.invariant K.least (ap (is_code_word c h cols) (sym K.word_is) ∙ code)
            (subst (λ (k : ℕ). k ≤ c.t) K.number_is few) in
            repaired e (K.word_is ∙ sym same) (K.number_is ∙ sym count-is)

        pub candidate_bits : IsBits (length cols) word
        candidate_bits =
            subst (IsBits (length cols)) (sym K.word_is)
            (record {
              long = length-turned (length cols) (is_error c h cols K.pair) received;
              bits = turned_bits (length cols) (is_error c h cols K.pair) received bits.bits;
            })

        pub candidate_few : number ≤ length cols
        candidate_few = subst (λ (k : ℕ). k ≤ length cols) (sym K.number_is) (count-le (length cols) (is_error c h cols K.pair))

-- ---- what is copied of it: nothing where the answer is a refusal, and else the repaired word

none_due : {number : ℕ} (x : Recovery) (k : ℕ) → Repaired number ≡ unless_refused k Refused x → k ≡ 0
unfolding unless_refused
none_due x zero e = refl
none_due x (suc k) e =
    let z : ◌≡◌ {A = ℕ} 0 1 = cc in absurd (omega arith)

some_due : {number : ℕ} (value k : ℕ) → Refused number ≡ unless_refused k Refused (Repaired value) → k ≢ 0
unfolding unless_refused
some_due value zero e =
    let z : ◌≡◌ {A = ℕ} 0 1 = cc in absurd (omega arith)
some_due value (suc k) e = λ z. omega arith

module _ {c : Parameters} {h cols received word : List ℕ} where
  pub repaired_copied : {number : ℕ} → Decoded c h cols received (Repaired number) word → (old : List ℕ) {new : List ℕ} → new ≡ word
      → new ≡ word_after c h cols received old
  unfolding word_answer word_after
  repaired_copied D old e =
      let z = none_due _ (fault (word_rules c h cols received)) D.answer_is in
      e ∙ D.word_is z ∙ accept {k = 0} (λ k. old) _ (sym z) refl

  pub refused_left : {number : ℕ} → Decoded c h cols received (Refused number) word → (old : List ℕ) → old ≡ word_after c h cols received old
  unfolding word_answer word_after
  refused_left D old = refuse (λ k. old) _ refl (some_due _ (fault (word_rules c h cols received)) D.answer_is)
