-- The locator theorem: the pair of smaller degree that the pass of repair leaves has the errors for its roots, and no other ones.
--
-- It holds for every set of at most t errors that explains the syndromes. So there is at most one such set, and where there is one, the pass
-- finds it.
-- Assumes nothing.
pub mod Split
pub mod Nodal
pub mod Errors
pub mod Pass
use Rattle.std.specs.Prelude.{◌≡◌, ◌≢◌, ℕ, ◌+◌, ◌*◌, ◌<◌, ◌≤◌}
use Rattle.std.proofs.Common.{ap, ◌∙◌, arith}
use Rattle.algebra.specs.Field.{Ops, Laws}
use Rattle.algebra.specs.FieldLaws.{mul_cancel}
use Rattle.algebra.specs.Sum.{sum}
use Rattle.algebra.specs.Poly.{poly_in, poly_roots}
use Rattle.algebra.specs.Locator.Split.{Halves, value, in_value, discrepancy, det, det_comm, det_poly, orthogonal, common_root, simple_root}
use Rattle.algebra.specs.Locator.Nodal.{Points, square_points}
use Rattle.algebra.specs.Locator.Errors.{locator, locator_bounded, locator_error, locator_root, locator_simple, key_equation}
use Rattle.algebra.specs.Locator.Pass.{Invariant, pass_independent}

-- the w points e are a set of at most t errors that explains the syndromes s at the roots z
pub record Explains {A : Type 0} (K : Ops A) (t : ℕ) (z s : ℕ → A) (w : ℕ) (e : ℕ → A) : Type 0 where
  pub roots : Points K t z
  pub errors : Points K w e
  pub few : w ≤ t
  pub apart : (i k : ℕ) → i < t → k < w → z i ≢ e k
  pub syndrome : (i : ℕ) → i < t → s i ≡ sum K w (λ k. K.inv (K.add (z i) (e k)))

module _ {A : Type 0} (K : Ops A) (F : Laws K) {t : ℕ} {z s : ℕ → A} {w : ℕ} {e : ℕ → A} (E : Explains K t z s w e)
    {S R : Halves A} {d f : ℕ} (h : Invariant K z s t S d R f) (least : d ≤ f) where
  infixl 70 ◌·◌
  open K use {In, nought, mul as ◌·◌}

  abbrev σ : Halves A
  σ = locator K w e

  -- The determinant has at most t coefficients, since the two degrees add up to at most 2t, and it is nought at the t squares of the roots.
  dependent : (y : A) → det K σ S y ≡ nought
  dependent =
      poly_roots K F t (det K σ S) (λ i. z i · z i) (det_poly K F (locator_bounded K F w e) h.first_bounded small)
      squares.distinct squares.inside (λ i l. orthogonal K F (z i) (s i) σ S (solved i l) (h.first_solves i l))
    where
      squares : Points K t (λ i. z i · z i)
      squares = square_points K F E.roots

      small : w + d ≤ 2 * t
      small = omega (arith, E.few, h.bounds)

      solved : (i : ℕ) → i < t → discrepancy K (z i) (s i) σ ≡ nought
      solved i l =
          ap (λ (v : A). discrepancy K (z i) v σ) (E.syndrome i l)
          ∙ key_equation K F E.errors (z i) (E.roots.inside i l) (λ k m. E.apart i k l m)

  pub errors_are_roots : (k : ℕ) → k < w → value K S (e k) ≡ nought
  errors_are_roots k l =
      mul_cancel K F (σ.odd (e k · e k)) (value K S (e k)) (poly_in K F (locator_bounded K F w e).odd_poly (e k · e k))
      (in_value K F h.first_bounded (e k)) (locator_simple K F E.errors k l)
      (common_root K F σ S (e k) (dependent (e k · e k)) (locator_error K F w e k l))

  pub roots_are_errors : (x : A) → In x → ((i : ℕ) → i < t → x ≢ z i) → value K S x ≡ nought → (k : ℕ) × (k < w) × (x ≡ e k)
  roots_are_errors x hx new v = locator_root K F E.errors x hx located
    where
      located : value K σ x ≡ nought
      located =
          mul_cancel K F (S.odd (x · x)) (value K σ x) (poly_in K F h.first_bounded.odd_poly (x · x))
          (in_value K F (locator_bounded K F w e) x)
          (λ o. pass_independent K F E.roots h x hx new (simple_root K F S R x v o))
          (common_root K F S σ x (det_comm K F S σ (x · x) ∙ dependent (x · x)) v)
