-- A loop that tests one number after the other, and stops at the first that fails.
use Rattle.std.specs.Prelude.{◌≡◌, Bool, true, false, ℕ, ◌+◌, ◌≤◌, ◌<◌}
use Rattle.std.proofs.Common.{sym, not-suc-le-zero, arith}
use Rattle.algebra.specs.All.{all}
use Rattle.algebra.specs.AllLaws.{below_suc, all_true, all-false}

-- what holds when i have passed
pub record Scanning (n : ℕ) (p : ℕ → Bool) (i : ℕ) : Type 0 where
  pub bound : i ≤ n
  pub passed : (k : ℕ) → k < i → p k ≡ true

pub scanning_start : (n : ℕ) (p : ℕ → Bool) → Scanning n p 0
scanning_start n p = record { bound = omega arith; passed = λ k l. absurd (not-suc-le-zero l) }

module _ {n : ℕ} {p : ℕ → Bool} {i : ℕ} (S : Scanning n p i) where
  pub scanning_turn : i < n → p i ≡ true → Scanning n p (i + 1)
  scanning_turn l t = record { bound = omega arith; passed = λ k lk. below_suc (λ (k : ℕ). p k ≡ true) i S.passed t k (omega arith) }

  pub scanning_fails : i < n → p i ≡ false → false ≡ all n p
  scanning_fails l e = sym (all-false n p i l e)

  pub scanning_end : n ≤ i → true ≡ all n p
  scanning_end h = sym (all_true n p (λ k l. S.passed k (omega arith)))
