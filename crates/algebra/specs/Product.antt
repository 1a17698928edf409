-- Finite products, and how one inverse gives the inverses of all factors: with P n the product of the first n of them, P n · 1/P (n + 1) is that of
-- factor n, and 1/P (n + 1) times factor n is 1/P n.
-- Assumes nothing.
use Rattle.std.specs.Prelude.{◌≡◌, ◌≢◌}
use Rattle.std.proofs.Common.{◌∙◌, lt-suc_self}
use Prim.Native.Nat.{ℕ, zero, suc, ◌<◌}
use Rattle.std.proofs.Math.Nat.{le_step}
use Rattle.algebra.specs.Field.{Ops, Laws}
use Rattle.algebra.specs.FieldLaws.{ring, no_zero_divisors, inv_unique}

unfoldable pub prod : {A : Type 0} → Ops A → ℕ → (ℕ → A) → A
prod K zero f = K.one
prod K (suc n) f = K.mul (prod K n f) (f n)

module _ {A : Type 0} (K : Ops A) (F : Laws K) where
  infixl 70 ◌·◌
  open K use {In, nought, one, inv, add as ◌+◌, mul as ◌·◌}

  -- factors that have inverses
  pub record Units (n : ℕ) (f : ℕ → A) : Type 0 where
    pub inside : (i : ℕ) → i < n → In (f i)
    pub nonzero : (i : ℕ) → i < n → f i ≢ nought

  fewer : {n : ℕ} {f : ℕ → A} → Units (suc n) f → Units n f
  fewer U = record { inside = λ i l. U.inside i (le_step l); nonzero = λ i l. U.nonzero i (le_step l) }

  pub in_prod : (n : ℕ) (f : ℕ → A) → In (prod K n f)
  unfolding prod
  in_prod zero f = F.in_one
  in_prod (suc n) f = F.in_mul (prod K n f) (f n)

  pub prod≢nought : (n : ℕ) (f : ℕ → A) → Units n f → prod K n f ≢ nought
  unfolding prod
  prod≢nought zero f U = F.one≢nought
  prod≢nought (suc n) f U =
      no_zero_divisors K F (prod K n f) (f n) (in_prod n f) (U.inside n (lt-suc_self n)) (prod≢nought n f (fewer U)) (U.nonzero n (lt-suc_self n))

  module _ (n : ℕ) (f : ℕ → A) (U : Units (suc n) f) where
    cancelled : prod K (suc n) f · inv (prod K (suc n) f) ≡ one
    cancelled = F.mul_inv (prod K (suc n) f) (in_prod (suc n) f) (prod≢nought (suc n) f U)

    pub factor_inverse : prod K n f · inv (prod K (suc n) f) ≡ inv (f n)
    unfolding prod
    factor_inverse =
        inv_unique K F (f n) (prod K n f · inv (prod K (suc n) f)) (U.inside n (lt-suc_self n)) (F.in_mul (prod K n f) (inv (prod K (suc n) f)))
        (U.nonzero n (lt-suc_self n)) (regrouped (f n) (prod K n f) (inv (prod K n f · f n)) ∙ cancelled)
      where
        regrouped : (a b c : A) → a · (b · c) ≡ (b · a) · c
        regrouped a b c = simp ring

    pub rest_inverse : inv (prod K (suc n) f) · f n ≡ inv (prod K n f)
    unfolding prod
    rest_inverse =
        inv_unique K F (prod K n f) (inv (prod K (suc n) f) · f n) (in_prod n f) (F.in_mul (inv (prod K (suc n) f)) (f n))
        (prod≢nought n f (fewer U)) (regrouped (prod K n f) (inv (prod K n f · f n)) (f n) ∙ cancelled)
      where
        regrouped : (a b c : A) → a · (b · c) ≡ (a · c) · b
        regrouped a b c = simp ring
