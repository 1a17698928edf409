-- Horner's rule over any field of characteristic two: sums of polynomials, and the product with y + r, by their coefficients.
use mathlib.Core.Path.{◌≡◌, refl, sym, ap, ap₂, ◌∙◌}
use Prim.Native.Nat.{ℕ, zero, suc}
use Rattle.algebra.specs.Field.{Ops, Laws}
use Rattle.algebra.specs.FieldLaws.{ring}
use Rattle.locator.specs.Halves.{horner}

-- the coefficients one place up, with a new lowest one
unfoldable pub shifted : {A : Type 0} → A → (ℕ → A) → ℕ → A
shifted a c zero = a
shifted a c (suc k) = c k

shifted-suc : {A : Type 0} (a : A) (c : ℕ → A) (k : ℕ) → shifted a c (suc k) ≡ shifted (c 0) (λ j. c (suc j)) k
unfolding shifted
shifted-suc a c zero = refl
shifted-suc a c (suc k) = refl

module _ {A : Type 0} (K : Ops A) (F : Laws K) where
  infixl 65 ◌+◌
  infixl 70 ◌·◌
  open K use {In, nought, add as ◌+◌, mul as ◌·◌}

  pub horner_cong : (n : ℕ) {c d : ℕ → A} → ((k : ℕ) → c k ≡ d k) → (y : A) → horner K n c y ≡ horner K n d y
  unfolding horner
  horner_cong zero e y = refl
  horner_cong (suc n) e y = ap₂ (λ (a v : A). a + y · v) (e 0) (horner_cong n (λ k. e (suc k)) y)

  pub horner-nought : (n : ℕ) {c : ℕ → A} → ((k : ℕ) → c k ≡ nought) → (y : A) → horner K n c y ≡ nought
  unfolding horner
  horner-nought zero e y = refl
  horner-nought (suc n) e y = ap₂ (λ (a v : A). a + y · v) (e 0) (horner-nought n (λ k. e (suc k)) y) ∙ plain y
    where
      plain : (y : A) → nought + y · nought ≡ nought
      plain y = simp ring

  pub horner_constant : (n : ℕ) (c : ℕ → A) → ((k : ℕ) → c (suc k) ≡ nought) → (y : A) → horner K (suc n) c y ≡ c 0
  unfolding horner
  horner_constant n c e y = ap (λ (v : A). c 0 + y · v) (horner-nought n e y) ∙ plain (c 0) y
    where
      plain : (a y : A) → a + y · nought ≡ a
      plain a y = simp ring

  pub horner_combine : (n : ℕ) (a b : A) (c d : ℕ → A) (y : A)
      → horner K n (λ k. a · c k + b · d k) y ≡ a · horner K n c y + b · horner K n d y
  unfolding horner
  horner_combine zero a b c d y = plain a b
    where
      plain : (a b : A) → nought ≡ a · nought + b · nought
      plain a b = simp ring
  horner_combine (suc n) a b c d y =
      ap (λ (v : A). (a · c 0 + b · d 0) + y · v) (horner_combine n a b (λ k. c (suc k)) (λ k. d (suc k)) y)
      ∙ sorted a b (c 0) (d 0) y (horner K n (λ k. c (suc k)) y) (horner K n (λ k. d (suc k)) y)
    where
      sorted : (a b c d y u v : A) → (a · c + b · d) + y · (a · u + b · v) ≡ a · (c + y · u) + b · (d + y · v)
      sorted a b c d y u v = simp ring

  -- The last coefficient is nought, so that the product has room. A lowest coefficient stands for what the places below would carry up.
  pub horner_raise : (n : ℕ) (a r : A) (c : ℕ → A) → c n ≡ nought → (y : A)
      → horner K (suc n) (λ k. shifted a c k + r · c k) y ≡ a + (y + r) · horner K (suc n) c y
  unfolding horner shifted
  horner_raise zero a r c e y =
      ap (λ (v : A). (a + r · v) + y · nought) e ∙ plain a r y ∙ ap (λ (v : A). a + (y + r) · (v + y · nought)) (sym e)
    where
      plain : (a r y : A) → (a + r · nought) + y · nought ≡ a + (y + r) · (nought + y · nought)
      plain a r y = simp ring
  horner_raise (suc n) a r c e y =
      ap (λ (v : A). (a + r · c 0) + y · v)
      (horner_cong (suc n) (λ k. ap (λ (v : A). v + r · c (suc k)) (shifted-suc a c k)) y ∙ horner_raise n (c 0) r (λ k. c (suc k)) e y)
      ∙ sorted a r (c 0) y (horner K (suc n) (λ k. c (suc k)) y)
    where
      sorted : (a r c y v : A) → (a + r · c) + y · (c + (y + r) · v) ≡ a + (y + r) · (c + y · v)
      sorted a r c y v = simp ring
