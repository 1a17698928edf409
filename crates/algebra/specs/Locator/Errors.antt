-- The error locator σ: the polynomial whose roots are the w points e in error, by its halves.
--
-- What repair uses of it: its degree is w; it is nought exactly at the errors; its derivative is nought at none of them; and its halves solve
-- the equation of each root z, under the syndrome that the errors give (`key_equation`).
-- Assumes nothing.
use Rattle.std.specs.Prelude.{◌≡◌, refl, ◌≢◌}
use Rattle.std.proofs.Math.Path.{sym, ap}
use Rattle.std.proofs.Common.{◌∙◌, subst, not-suc-le-zero}
use Prim.Native.Nat.{ℕ, zero, suc, ◌<◌, ◌/◌, ◌≤◌}
use Rattle.std.proofs.Math.Nat.{le-suc}
use Rattle.std.proofs.Math.Decide.{ℕ_discrete}
use native.Mathlib.Omega.{arith}
use Rattle.algebra.specs.Field.{Ops, Laws}
use Rattle.algebra.specs.FieldLaws.{ring, lin, add_eq, nought-mul, no_zero_divisors}
use Rattle.algebra.specs.Sum.{sum}
use Rattle.algebra.specs.Poly.{poly_weaken, poly_in, poly_const, poly_add, poly_scale, poly_shift, Poly.vanish}
use Rattle.algebra.specs.Locator.Split.{Halves, Bounded, value, discrepancy}
use Rattle.algebra.specs.Locator.Nodal.{Points, fewer_points, nodal, in_nodal, nodal_point, nodal_root}

-- times x + e: the square of x is the halves' variable
unfoldable pub locator : {A : Type 0} → Ops A → ℕ → (ℕ → A) → Halves A
locator K zero e = record { even = λ y. K.one; odd = λ y. K.nought }
locator K (suc w) e = let σ = locator K w e in
    record {
      even = λ y. K.add (K.mul (e w) (σ.even y)) (K.mul y (σ.odd y));
      odd = λ y. K.add (σ.even y) (K.mul (e w) (σ.odd y));
    }

module _ {A : Type 0} (K : Ops A) (F : Laws K) where
  infixl 65 ◌+◌
  infixl 70 ◌·◌
  open K use {In, nought, one, inv, add as ◌+◌, mul as ◌·◌}

  pub locator_bounded : (w : ℕ) (e : ℕ → A) → Bounded K w (locator K w e)
  unfolding locator
  locator_bounded zero e = record { even_poly = poly_const K F F.in_one; odd_poly = vanish (λ y. refl) }
  locator_bounded (suc w) e = let b = locator_bounded w e in
      record {
        even_poly = poly_add K F (poly_weaken even_grows (poly_scale K F (e w) b.even_poly)) (poly_shift K F b.odd_poly);
        odd_poly = poly_add K F (poly_weaken crossing b.even_poly) (poly_weaken odd_grows (poly_scale K F (e w) b.odd_poly));
      }
    where
      even_grows : suc (w / 2) ≤ suc (suc w / 2)
      even_grows = omega arith

      odd_grows : suc w / 2 ≤ suc (suc w) / 2
      odd_grows = omega arith

      crossing : suc (w / 2) ≤ suc (suc w) / 2
      crossing = omega arith

  locator-value : (w : ℕ) (e : ℕ → A) (x : A) → value K (locator K w e) x ≡ nodal K w e x
  unfolding locator value nodal
  locator-value zero e x = padded x
    where
      padded : (x : A) → one + x · nought ≡ one
      padded x = simp ring
  locator-value (suc w) e x = let σ = locator K w e in
      sorted x (e w) (σ.even (x · x)) (σ.odd (x · x)) ∙ ap (λ (v : A). (x + e w) · v) (locator-value w e x)
    where
      sorted : (x r a b : A) → (r · a + x · x · b) + x · (a + r · b) ≡ (x + r) · (a + x · b)
      sorted x r a b = simp ring

  pub locator_error : (w : ℕ) (e : ℕ → A) (k : ℕ) → k < w → value K (locator K w e) (e k) ≡ nought
  locator_error w e k l = locator-value w e (e k) ∙ nodal_point K F w e k l

  pub locator_root : {w : ℕ} {e : ℕ → A} → Points K w e → (x : A) → In x → value K (locator K w e) x ≡ nought
      → (k : ℕ) × (k < w) × (x ≡ e k)
  locator_root {w} {e} p x hx z = nodal_root K F p x hx (sym (locator-value w e x) ∙ z)

  -- the rule of the derivative of a product, at the last factor
  derivative : (w : ℕ) (e : ℕ → A) (x : A)
      → (locator K (suc w) e).odd (x · x) ≡ nodal K w e x + (x + e w) · (locator K w e).odd (x · x)
  unfolding locator value
  derivative w e x = let σ = locator K w e in
      sorted x (e w) (σ.even (x · x)) (σ.odd (x · x)) ∙ ap (λ (v : A). v + (x + e w) · σ.odd (x · x)) (locator-value w e x)
    where
      sorted : (x r a b : A) → a + r · b ≡ (a + x · b) + (x + r) · b
      sorted x r a b = simp ring

  -- the errors are different, so they are simple roots
  pub locator_simple : {w : ℕ} {e : ℕ → A} → Points K w e → (k : ℕ) → k < w → (locator K w e).odd (e k · e k) ≢ nought
  locator_simple {w = zero} p k l = absurd (not-suc-le-zero l)
  locator_simple {w = suc w} {e} p k l = decided (ℕ_discrete w k) (locator_simple (fewer_points (le-suc w) p) k)
    where
      last : (locator K (suc w) e).odd (e w · e w) ≢ nought
      last z =
          let (i, m, q) =
          nodal_root K F (fewer_points (le-suc w) p) (e w) (p.inside w (omega arith))
          (padded (nodal K w e (e w)) (e w) ((locator K w e).odd (e w · e w)) ∙ sym (derivative w e (e w)) ∙ z)
          in p.distinct i w m (omega arith) (sym q)
        where
          padded : (a b c : A) → a ≡ a + (b + b) · c
          padded a b c = simp ring

      earlier : k < w → (locator K w e).odd (e k · e k) ≢ nought → (locator K (suc w) e).odd (e k · e k) ≢ nought
      earlier m ne z =
          no_zero_divisors K F (e k + e w) ((locator K w e).odd (e k · e k)) (F.in_add (e k) (e w) (p.inside k l) (p.inside w (omega arith)))
          (poly_in K F (locator_bounded w e).odd_poly (e k · e k)) (λ q. p.distinct k w m (omega arith) (add_eq K F (e k) (e w) q)) ne
          (sym (F.nought_add _) ∙ ap (λ (v : A). v + (e k + e w) · (locator K w e).odd (e k · e k)) (sym (nodal_point K F w e k m))
          ∙ sym (derivative w e (e k)) ∙ z)

      decided : Dec (w ≡ k) → (k < w → (locator K w e).odd (e k · e k) ≢ nought) → (locator K (suc w) e).odd (e k · e k) ≢ nought
      decided (yes q) ih = subst (λ (i : ℕ). (locator K (suc w) e).odd (e i · e i) ≢ nought) q last
      decided (no nq) ih = let m : k < w = omega arith in earlier m (ih m)

  -- the derivative over the polynomial is the sum of the factors' inverses
  logarithmic : {w : ℕ} {e : ℕ → A} → Points K w e → (z : A) → In z → ((k : ℕ) → k < w → z ≢ e k)
      → (locator K w e).odd (z · z) ≡ sum K w (λ k. inv (z + e k)) · nodal K w e z
  unfolding locator sum nodal
  logarithmic {w = zero} p z hz ne = sym (nought-mul K F one)
  logarithmic {w = suc w} {e} p z hz ne =
      derivative w e z
      ∙ ap (λ (v : A). nodal K w e z + (z + e w) · v) (logarithmic (fewer_points (le-suc w) p) z hz (λ k l. ne k (omega arith)))
      ∙ sorted (z + e w) (sum K w (λ k. inv (z + e k))) (inv (z + e w)) (nodal K w e z) (in_nodal K F w e z)
      (F.mul_inv (z + e w) (F.in_add z (e w) hz (p.inside w (omega arith))) (λ q. ne w (omega arith) (add_eq K F z (e w) q)))
    where
      sorted : (d s i n : A) → In n → d · i ≡ one → n + d · (s · n) ≡ (s + i) · (d · n)
      sorted d s i n hn h = lin K F n h (simp ring)

  pub key_equation : {w : ℕ} {e : ℕ → A} → Points K w e → (z : A) → In z → ((k : ℕ) → k < w → z ≢ e k)
      → discrepancy K z (sum K w (λ k. inv (z + e k))) (locator K w e) ≡ nought
  unfolding discrepancy value
  key_equation {w} {e} p z hz ne =
      over_values (sum K w (λ k. inv (z + e k))) ((locator K w e).even (z · z)) ((locator K w e).odd (z · z))
      (poly_in K F (locator_bounded w e).odd_poly (z · z))
      (logarithmic p z hz ne ∙ ap (λ (v : A). sum K w (λ k. inv (z + e k)) · v) (sym (locator-value w e z)))
    where
      over_values : (s a b : A) → In b → b ≡ s · (a + z · b) → (one + s · z) · b + s · a ≡ nought
      over_values s a b hb h = sorted s a b hb ∙ ap (λ (v : A). b + v) (sym h) ∙ F.add_self b
        where
          sorted : (s a b : A) → In b → (one + s · z) · b + s · a ≡ b + s · (a + z · b)
          sorted s a b hb = simp ring
