-- The pass can always be made: for every t roots and whatever syndromes there is a pair that it leaves.
--
-- The locator theorem speaks about a pair that satisfies the pass's invariant. That there is one lets the laws of repair be stated without it.
use Rattle.std.specs.Prelude.{◌≡◌, ℕ, zero, suc, ◌+◌, ◌<◌, ◌≤◌}
use Rattle.std.proofs.Math.Path.{refl}
use Rattle.std.proofs.Common.{subst, add-one, arith}
use Rattle.std.proofs.Math.Decide.{dec_lt}
use Rattle.algebra.specs.Field.{Ops, Laws}
use Rattle.algebra.specs.Locator.Nodal.{Points}
use Rattle.algebra.specs.Locator.Pass.{Invariant, Raised, Reduced, pass_start, pass_step, pass_swap}
use Rattle.algebra.specs.Locator.Pass.{Pivot.smaller, Pivot.remaining, Step.first_pivot, Step.second_pivot}
use Rattle.algebra.specs.Locator.Split.{Halves, discrepancy}

module _ {A : Type 0} (K : Ops A) (F : Laws K) where
  -- (y + r)·P
  raised : A → Halves A → Halves A
  raised r P = record { even = λ y. K.mul (K.add y r) (P.even y); odd = λ y. K.mul (K.add y r) (P.odd y) }

  -- a·Q + b·P
  reduced : A → A → Halves A → Halves A → Halves A
  reduced a b P Q =
      record {
        even = λ y. K.add (K.mul a (Q.even y)) (K.mul b (P.even y));
        odd = λ y. K.add (K.mul a (Q.odd y)) (K.mul b (P.odd y));
      }

  is_raised : (r : A) (P : Halves A) → Raised K r P (raised r P)
  unfolding raised
  is_raised r P = record { even_raised = λ y. refl; odd_raised = λ y. refl }

  is_reduced : (a b : A) (P Q : Halves A) → Reduced K a b P Q (reduced a b P Q)
  unfolding reduced
  is_reduced a b P Q = record { even_reduced = λ y. refl; odd_reduced = λ y. refl }

  module _ {t : ℕ} {z : ℕ → A} (roots : Points K t z) (s : ℕ → A) where
    -- what the pass has after i roots, the pair of the smaller bound first
    abbrev pub Passed : ℕ → Type 0
    Passed i = (S : Halves A) × (d : ℕ) × (R : Halves A) × (f : ℕ) × Invariant K z s i S d R f × (d ≤ f)

    ordered : (i : ℕ) {P Q : Halves A} {p q : ℕ} → Invariant K z s i P p Q q → Passed i
    ordered i {P} {Q} {p} {q} I = decided (dec_lt q p)
      where
        decided : Dec (q < p) → Passed i
        decided (yes l) = (Q, q, P, p, pass_swap K F I, omega arith)
        decided (no nl) = (P, p, Q, q, I, omega arith)

    step : (i : ℕ) → i < t → Passed i → Passed (i + 1)
    step i l (S, d, R, f, I, least) = decided (F.nought? a)
      where
        a : A
        a = discrepancy K (z i) (s i) S

        b : A
        b = discrepancy K (z i) (s i) R

        decided : Dec (a ≡ K.nought) → Passed (i + 1)
        decided (yes e) =
            ordered (i + 1) (pass_step K F roots l I (second_pivot (remaining e) (is_raised (K.mul (z i) (z i)) R) (is_reduced b a R S)))
        decided (no ne) =
            ordered (i + 1) (pass_step K F roots l I (first_pivot (smaller least ne) (is_raised (K.mul (z i) (z i)) S) (is_reduced a b S R)))

    after : (i : ℕ) → i ≤ t → Passed i
    after zero l =
        ordered 0 (pass_start K F {P = record { even = λ y. K.one; odd = λ y. K.nought }} {Q = record { even = λ y. K.nought; odd = λ y. K.one }}
        (record { first_even = λ y. refl; first_odd = λ y. refl; second_even = λ y. refl; second_odd = λ y. refl }))
    after (suc i) l = subst Passed (add-one i) (step i l (after i (omega arith)))

    pub pass_exists : Passed t
    pass_exists = after t (omega arith)
