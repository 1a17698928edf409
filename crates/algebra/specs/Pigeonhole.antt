-- Distinct numbers below b: there are at most b of them.
use Rattle.std.specs.Prelude.{◌≡◌, ◌≢◌, ℕ, zero, suc, ◌<◌, ◌≤◌}
use Rattle.std.proofs.Math.Path.{sym}
use Rattle.std.proofs.Common.{◌∙◌, not-suc-le-zero, arith}
use Rattle.std.proofs.Math.Decide.{ℕ_discrete}
use Rattle.algebra.specs.Distinct.{Distinct}

-- x, but v in the place of b
instead : {x b : ℕ} → Dec (x ≡ b) → ℕ → ℕ
instead (yes e) v = v
instead {x} (no ne) v = x

-- The last of n + 1 numbers below b + 1 takes the place of b, if that is among the n others: they are then distinct and below b.
module _ (n b : ℕ) (f : ℕ → ℕ) (d : Distinct (suc n) f) (below : (i : ℕ) → i < suc n → f i < suc b) where
  moved : ℕ → ℕ
  moved i = instead (ℕ_discrete (f i) b) (f n)

  moved_below : (i : ℕ) → i < n → moved i < b
  unfolding moved instead
  moved_below i l = decided (ℕ_discrete (f i) b)
    where
      decided : (t : Dec (f i ≡ b)) → instead t (f n) < b
      decided (yes e) = let last : f n ≢ b = λ q. d i n l (omega arith) (e ∙ sym q) in omega (arith, below n (omega arith))
      decided (no ne) = omega (arith, below i (omega arith))

  moved_distinct : Distinct n moved
  unfolding moved instead
  moved_distinct i j l lj = decided (ℕ_discrete (f i) b) (ℕ_discrete (f j) b)
    where
      decided : (s : Dec (f i ≡ b)) (t : Dec (f j ≡ b)) → instead s (f n) ≢ instead t (f n)
      decided (yes e) (yes e') q = d i j l (omega arith) (e ∙ sym e')
      decided (yes e) (no ne) q = d j n lj (omega arith) (sym q)
      decided (no ne) (yes e) q = d i n (omega arith) (omega arith) q
      decided (no ne) (no ne') q = d i j l (omega arith) q

pub pigeonhole : (b n : ℕ) (f : ℕ → ℕ) → Distinct n f → ((i : ℕ) → i < n → f i < b) → n ≤ b
pigeonhole b zero f d below = omega arith
pigeonhole zero (suc n) f d below = absurd (not-suc-le-zero (below 0 (omega arith)))
pigeonhole (suc b) (suc n) f d below =
    let fewer : n ≤ b = pigeonhole b n (moved n b f d below) (moved_distinct n b f d below) (moved_below n b f d below) in
    omega arith
