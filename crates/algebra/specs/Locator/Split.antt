-- A polynomial P of x by its halves: P(x) = even(x²) + x·odd(x²). In characteristic two its derivative is odd(x²).
--
-- Repair looks for a pair of halves that solves one linear equation for each root z of the code: its `discrepancy` at z, under the syndrome s
-- that belongs to z, is to be nought. Two pairs that both solve it are dependent at z² (`orthogonal`), and `det` measures that.
-- Assumes nothing.
use Rattle.std.specs.Prelude.{◌≡◌}
use Rattle.std.proofs.Math.Path.{sym, ap}
use Rattle.std.proofs.Common.{◌∙◌}
use Prim.Native.Nat.{ℕ, suc, ◌+◌ as ◌+ℕ◌, ◌*◌, ◌/◌, ◌≤◌}
use native.Mathlib.Omega.{arith}
use Rattle.algebra.specs.Field.{Ops, Laws}
use Rattle.algebra.specs.FieldLaws.{ring, lin}
use Rattle.algebra.specs.Poly.{Poly, poly_cong, poly_weaken, poly_in, poly_add, poly_mul}

pub record Halves (A : Type 0) : Type 0 where
  pub even : A → A
  pub odd : A → A

-- P has degree d at most: ⌊d/2⌋ + 1 even coefficients, ⌊(d+1)/2⌋ odd ones
pub record Bounded {A : Type 0} (K : Ops A) (d : ℕ) (P : Halves A) : Type 0 where
  pub even_poly : Poly K (suc (d / 2)) P.even
  pub odd_poly : Poly K (suc d / 2) P.odd

unfoldable pub value : {A : Type 0} → Ops A → Halves A → A → A
value K P x = K.add (P.even (K.mul x x)) (K.mul x (P.odd (K.mul x x)))

unfoldable pub discrepancy : {A : Type 0} → Ops A → A → A → Halves A → A
discrepancy K z s P = K.add (K.mul (K.add K.one (K.mul s z)) (P.odd (K.mul z z))) (K.mul s (P.even (K.mul z z)))

unfoldable pub det : {A : Type 0} → Ops A → Halves A → Halves A → A → A
det K P Q y = K.add (K.mul (P.odd y) (Q.even y)) (K.mul (P.even y) (Q.odd y))

module _ {A : Type 0} (K : Ops A) (F : Laws K) where
  infixl 65 ◌+◌
  infixl 70 ◌·◌
  open K use {In, nought, one, add as ◌+◌, mul as ◌·◌}

  pub in_value : {d : ℕ} {P : Halves A} → Bounded K d P → (x : A) → In (value K P x)
  unfolding value
  in_value {P} b x =
      F.in_add (P.even (x · x)) (x · P.odd (x · x)) (poly_in K F b.even_poly (x · x)) (F.in_mul x (P.odd (x · x)))

  pub in_discrepancy : (z s : A) (P : Halves A) → In (discrepancy K z s P)
  unfolding discrepancy
  in_discrepancy z s P = F.in_add ((one + s · z) · P.odd (z · z)) (s · P.even (z · z)) (F.in_mul _ _) (F.in_mul _ _)

  pub det_comm : (P Q : Halves A) (y : A) → det K P Q y ≡ det K Q P y
  unfolding det
  det_comm P Q y = sorted (P.odd y) (P.even y) (Q.odd y) (Q.even y)
    where
      sorted : (a b c d : A) → a · d + b · c ≡ c · b + d · a
      sorted a b c d = simp ring

  pub det_poly : {d k t : ℕ} {P Q : Halves A} → Bounded K d P → Bounded K k Q → d +ℕ k ≤ 2 * t → Poly K t (det K P Q)
  unfolding det
  det_poly {d} {k} {t} {P} {Q} hP hQ l =
      poly_cong (λ y. ap (λ (x : A). P.odd y · Q.even y + x) (F.mul_comm (P.even y) (Q.odd y)))
      (poly_add K F (poly_weaken left (poly_mul K F hP.odd_poly hQ.even_poly))
      (poly_weaken right (poly_mul K F hQ.odd_poly hP.even_poly)))
    where
      left : suc d / 2 +ℕ k / 2 ≤ t
      left = omega arith

      right : suc k / 2 +ℕ d / 2 ≤ t
      right = omega arith

  -- the equation's two factors, 1 + s·z and s, never vanish together, since the first and z times the second add up to one
  pub orthogonal : (z s : A) (P Q : Halves A) → discrepancy K z s P ≡ nought → discrepancy K z s Q ≡ nought → det K P Q (z · z) ≡ nought
  unfolding discrepancy det
  orthogonal z s P Q hP hQ = over_values (one + s · z) (P.odd (z · z)) (P.even (z · z)) (Q.odd (z · z)) (Q.even (z · z)) unit hP hQ
    where
      unit : (one + s · z) + z · s ≡ one
      unit = simp ring

      over_values : (u a b c d : A) → u + z · s ≡ one → u · a + s · b ≡ nought → u · c + s · d ≡ nought → a · d + b · c ≡ nought
      over_values u a b c d h hp hq =
          sym (F.one-mul (a · d + b · c) (F.in_add (a · d) (b · c) (F.in_mul a d) (F.in_mul b c)))
          ∙ ap (λ (x : A). x · (a · d + b · c)) (sym h) ∙ lin K F (d + z · c) hp (lin K F (b + z · a) hq (simp ring))

  -- dependent pairs have their roots in common, but for the roots of a derivative
  pub common_root : (P Q : Halves A) (x : A) → det K P Q (x · x) ≡ nought → value K P x ≡ nought → P.odd (x · x) · value K Q x ≡ nought
  unfolding value det
  common_root P Q x h v = over_values (P.odd (x · x)) (P.even (x · x)) (Q.odd (x · x)) (Q.even (x · x)) h v
    where
      over_values : (a b c d : A) → a · d + b · c ≡ nought → b + x · a ≡ nought → a · (d + x · c) ≡ nought
      over_values a b c d h v = lin K F c v (sorted a b c d ∙ h ∙ sym (padded c))
        where
          sorted : (a b c d : A) → a · (d + x · c) + c · (b + x · a) ≡ a · d + b · c
          sorted a b c d = simp ring

          padded : (c : A) → nought + c · nought ≡ nought
          padded c = simp ring

  -- at a root that is not simple both halves are nought, so the pair is dependent on any other
  pub simple_root : (P Q : Halves A) (x : A) → value K P x ≡ nought → P.odd (x · x) ≡ nought → det K P Q (x · x) ≡ nought
  unfolding value det
  simple_root P Q x v o = over_values (P.odd (x · x)) (P.even (x · x)) (Q.odd (x · x)) (Q.even (x · x)) v o
    where
      over_values : (a b c d : A) → b + x · a ≡ nought → a ≡ nought → a · d + b · c ≡ nought
      over_values a b c d v o = lin K F c v (lin K F (d + x · c) o (simp ring))
