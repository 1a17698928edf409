-- "n above q/2 is therefore never accepted": the 2n elements of a Cauchy pair are distinct numbers below q = 2^m, so there are at most q of them.
use Rattle.std.specs.Prelude.{◌≢◌, ℕ, ◌-◌, ◌*◌, ◌^◌, ◌≤◌, ◌<◌}
use Rattle.std.proofs.Math.Decide.{dec_lt}
use Rattle.std.proofs.Common.{arith}
use Rattle.algebra.specs.Pigeonhole.{pigeonhole}
use Rattle.algebra.specs.Distinct.{Distinct}
use Rattle.field.specs.Gf.{gf}
use Rattle.signature.specs.Signature.{Cauchy}

-- f below n, and g from there on
joined : {i n : ℕ} → Dec (i < n) → (ℕ → ℕ) → (ℕ → ℕ) → ℕ
joined {i} (yes l) f g = f i
joined {i} {n} (no nl) f g = g (i - n)

module _ (m n : ℕ) (h z L : ℕ → ℕ) (P : Cauchy (gf m) n h z L) where
  both : ℕ → ℕ
  both i = joined (dec_lt i n) z L

  both_below : (i : ℕ) → i < 2 * n → both i < 2 ^ m
  unfolding both joined
  both_below i l = decided (dec_lt i n)
    where
      decided : (t : Dec (i < n)) → joined t z L < 2 ^ m
      decided (yes h) = P.z_in i h
      decided (no nh) = P.L_in (i - n) (omega arith)

  both_distinct : Distinct (2 * n) both
  unfolding both joined
  both_distinct i j l lj = decided (dec_lt i n) (dec_lt j n)
    where
      decided : (s : Dec (i < n)) (t : Dec (j < n)) → joined s z L ≢ joined t z L
      decided (yes h) (yes h') = P.z_distinct i j l h'
      decided (yes h) (no nh) = P.disjoint i (j - n) h (omega arith)
      decided (no nh) (yes h) = absurd (omega arith)
      decided (no nh) (no nh') = P.L_distinct (i - n) (j - n) (omega arith) (omega arith)

  pub cauchy_short : 2 * n ≤ 2 ^ m
  cauchy_short = pigeonhole (2 ^ m) (2 * n) both both_distinct both_below
