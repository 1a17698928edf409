-- What the test of a power of two says, and that such powers are no longer than the longest.
use Rattle.std.specs.Prelude.{◌≡◌, true, ℕ, suc, ◌^◌, ◌≤◌, eqb}
use Rattle.std.proofs.Common.{sym, subst, arith, pow_mono, eqb-true, eq-eqb}
use Rattle.algebra.specs.AllLaws.{some_is, some-true}
use Rattle.slices.specs.Lengths.{longest_log, longest, is_power}

pub power_is : (s : ℕ) → is_power s ≡ true → (e : ℕ) × (e ≤ longest_log) × (s ≡ 2 ^ e)
unfolding is_power
power_is s t =
    let (e, l, h) = some_is (suc longest_log) (λ e. eqb s (2 ^ e)) t in (e, omega arith, eqb-true s (2 ^ e) h)

pub power : (s e : ℕ) → e ≤ longest_log → s ≡ 2 ^ e → is_power s ≡ true
unfolding is_power
power s e l h = some-true (suc longest_log) (λ e. eqb s (2 ^ e)) e (omega arith) (eq-eqb s (2 ^ e) h)

pub power_short : (s e : ℕ) → e ≤ longest_log → s ≡ 2 ^ e → s ≤ longest
power_short s e l v = subst (λ (x : ℕ). x ≤ longest) (sym v) (pow_mono l)
