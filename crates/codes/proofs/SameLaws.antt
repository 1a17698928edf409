-- What the test of two codes says.
use Rattle.std.specs.Prelude.{◌≡◌, ◌↔◌, Bool, true, false, ◌&&◌, List, ℕ, Ok}
use Rattle.std.proofs.Common.{refl, sym, ap}
use Rattle.std.specs.Cmp.Lexicographic.{same_text, other_text}
use lib.Pointwise.{pointwise}
use Rattle.std.proofs.Math.Dec.{eqb}
use borrow.Author.Tests.{eqb-true, eq-eqb}
use Rattle.algebra.specs.Flags.{both_true, both_hold, refuted}
use Rattle.algebra.specs.Lists.{same_list}
use Rattle.algebra.specs.ListLaws.{same_list_is}
use Rattle.params.specs.declared.Parameters.{Parameters}
use Rattle.codes.specs.Agree.{Agree}
use Rattle.codes.specs.Answers.{compared}
use Rattle.codes.specs.Same.{same_code}

module _ (c₁ : Parameters) (h₁ hidden₁ : List ℕ) (c₂ : Parameters) (h₂ hidden₂ : List ℕ) where
  pub same_code_is : (same_code c₁ h₁ hidden₁ c₂ h₂ hidden₂ ≡ true) ↔ Agree c₁ h₁ hidden₁ c₂ h₂ hidden₂
  unfolding same_code
  same_code_is =
      let m? = eqb c₁.m c₂.m in
      let n? = eqb c₁.n c₂.n in
      let t? = eqb c₁.t c₂.t in
      let ω? = eqb c₁.omega c₂.omega in (
        λ every.
            let (entries, marks_same) = both_true (m? && n? && t? && ω? && same_list h₁ h₂) (same_list hidden₁ hidden₂) every in
            let (numbers, h_same) = both_true (m? && n? && t? && ω?) (same_list h₁ h₂) entries in
            let (shape, ω_same) = both_true (m? && n? && t?) ω? numbers in
            let (lengths, t_same) = both_true (m? && n?) t? shape in
            let (m_same, n_same) = both_true m? n? lengths in
            record {
              m_same = eqb-true c₁.m c₂.m m_same;
              n_same = eqb-true c₁.n c₂.n n_same;
              t_same = eqb-true c₁.t c₂.t t_same;
              ω_same = eqb-true c₁.omega c₂.omega ω_same;
              h_same = (same_list_is h₁ h₂).0 h_same;
              marks_same = (same_list_is hidden₁ hidden₂).0 marks_same;
            },
        λ e.
            let lengths = both_hold (eq-eqb c₁.m c₂.m e.m_same) (eq-eqb c₁.n c₂.n e.n_same) in
            let shape = both_hold lengths (eq-eqb c₁.t c₂.t e.t_same) in
            let numbers = both_hold shape (eq-eqb c₁.omega c₂.omega e.ω_same) in
            both_hold (both_hold numbers ((same_list_is h₁ h₂).1 e.h_same)) ((same_list_is hidden₁ hidden₂).1 e.marks_same),
      )

-- `==` on slices is that test of two lists
pub lists_compared : (a b : List ℕ) {same : Bool} → same ≡ pointwise eqb a b → same ≡ same_list a b
lists_compared a b {same = true} e = sym ((same_list_is a b).1 (same_text a b e))
lists_compared a b {same = false} e = sym (refuted (same_list a b) (λ t. other_text a b e ((same_list_is a b).0 t)))

-- and `==` on the numbers of a code compares one after another
pub numbers_compared : (m n t ω : Bool) → (m && (n && (t && ω))) ≡ (m && n && t && ω)
numbers_compared false n t ω = refl
numbers_compared true false t ω = refl
numbers_compared true true false ω = refl
numbers_compared true true true ω = refl

-- the answer about two codes that are accepted
pub compared_is : {b same : Bool} → b ≡ same → Ok b ≡ compared same
unfolding compared
compared_is {b = true} e = ap compared e
compared_is {b = false} e = ap compared e
