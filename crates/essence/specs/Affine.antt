-- 01's rule for 1/h fixes a function by its values at 0 and at the powers of two.
use Rattle.std.specs.Prelude.{◌≡◌, ℕ, zero, suc, ◌+◌, ◌-◌, ◌^◌, ◌<◌, ◌≤◌}
use Rattle.std.proofs.Common.{sym, ap, ap₂, ◌∙◌, subst, one-mul, arith}
use Rattle.std.proofs.Math.Nat.{two-pow-succ}
use Rattle.std.proofs.Math.Decide.{dec_lt}
use Rattle.std.proofs.Math.Arith.{lt-one}
use Rattle.std.proofs.Math.Pow.{pow-lt}
use Rattle.algebra.specs.Xor.{◌⊕◌}
use Rattle.algebra.specs.XorLaws.{⊕_shifted}
use Rattle.signature.specs.TestLaws.{Affine}

-- a bit above a number is added to it
pub top_bit : (e i : ℕ) → i < 2 ^ e → 2 ^ e + i ≡ 2 ^ e ⊕ i
top_bit e i l = sym (subst (λ (x : ℕ). x ⊕ i ≡ x + i) (one-mul (2 ^ e)) (⊕_shifted 1 e i l))

module _ (e : ℕ) (f g : ℕ → ℕ) (F : Affine (2 ^ e) f) (G : Affine (2 ^ e) g) (first : f 0 ≡ g 0)
    (powers : (s : ℕ) → s < e → f (2 ^ s) ≡ g (2 ^ s)) where
  -- one bit more
  with_top : (k j : ℕ) → k < e → j < 2 ^ k → f j ≡ g j → f (2 ^ k + j) ≡ g (2 ^ k + j)
  with_top k j lk lj same =
      ap f (top_bit k j lj) ∙ F (2 ^ k) j top below
      ∙ ap₂ (λ (x y : ℕ). x ⊕ y) (ap₂ (λ (x y : ℕ). x ⊕ y) (powers k lk) same) first
      ∙ sym (ap g (top_bit k j lj) ∙ G (2 ^ k) j top below)
    where
      top : 2 ^ k < 2 ^ e
      top = pow-lt lk

      below : j < 2 ^ e
      below = omega (arith, top)

  agree_below : (k : ℕ) → k ≤ e → (i : ℕ) → i < 2 ^ k → f i ≡ g i
  agree_below zero h i l = ap f (lt-one l) ∙ first ∙ sym (ap g (lt-one l))
  agree_below (suc k) h i l = decided (dec_lt i (2 ^ k)) (agree_below k (omega arith))
    where
      rest : 2 ^ k ≤ i → i - 2 ^ k < 2 ^ k
      rest high = omega (arith, two-pow-succ k)

      decided : Dec (i < 2 ^ k) → ((j : ℕ) → j < 2 ^ k → f j ≡ g j) → f i ≡ g i
      decided (yes low) ih = ih i low
      decided (no nl) ih =
          let split : 2 ^ k + (i - 2 ^ k) ≡ i = omega arith in
          subst (λ (x : ℕ). f x ≡ g x) split (with_top k (i - 2 ^ k) (omega arith) (rest (omega arith)) (ih (i - 2 ^ k) (rest (omega arith))))

  pub affine_agree : (i : ℕ) → i < 2 ^ e → f i ≡ g i
  affine_agree = agree_below e (omega arith)
