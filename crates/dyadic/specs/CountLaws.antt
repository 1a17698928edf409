-- The number of products of elements: one for blocks of one element, what three products of halves take, and 19,683 for the longest blocks.
use Rattle.std.specs.Prelude.{◌≡◌, refl, ℕ, zero, suc, ◌+◌, ◌*◌, ◌^◌, ◌<◌, ◌≤◌}
use Rattle.std.proofs.Common.{sym, ◌∙◌, subst, pow-suc, arith, lit<, pow_pos, pow_mono}
use Rattle.std.proofs.Math.Nat.{two-pow-succ, pow-le-pow_right}
use Rattle.std.proofs.Math.Decide.{dec_lt}
use Rattle.slices.specs.Lengths.{longest_log, longest}
use Rattle.dyadic.specs.Count.{Counted}

pub counted_one : {s n : ℕ} → s ≡ 1 → n ≡ 1 → Counted s n
counted_one ls ln zero l = ln
counted_one ls ln (suc e) l = absurd (two (sym ls ∙ l) (two-pow-succ e) (pow_pos e))
  where
    two : 1 ≡ 2 ^ suc e → 2 ^ suc e ≡ 2 ^ e + 2 ^ e → 0 < 2 ^ e → ⊥
    two q d p = omega arith

pub counted_halves : (h x y z : ℕ) → Counted h x → Counted h y → Counted h z → Counted (h + h) (x + y + z)
counted_halves h x y z cx cy cz zero l = absurd (odd l)
  where
    odd : h + h ≡ 1 → ⊥
    odd q = omega arith
counted_halves h x y z cx cy cz (suc e) l = added (half (l ∙ two-pow-succ e)) (pow-suc 3 e)
  where
    half : h + h ≡ 2 ^ e + 2 ^ e → h ≡ 2 ^ e
    half q = omega arith

    added : h ≡ 2 ^ e → 3 ^ suc e ≡ 3 ^ e * 3 → x + y + z ≡ 3 ^ suc e
    added q d = omega (arith, cx e q, cy e q, cz e q)

-- "19,683 at 512"
pub counted_longest : (n : ℕ) → Counted longest n → n ≡ 19683
counted_longest n c = c longest_log refl

-- so that the number fits a machine word
pub counted_bound : (s n e : ℕ) → s ≡ 2 ^ e → s ≤ longest → Counted s n → n ≤ 3 ^ longest_log
counted_bound s n e l short c = subst (λ (k : ℕ). k ≤ 3 ^ longest_log) (sym (c e l)) (pow-le-pow_right (lit< tt) (at (dec_lt longest_log e)))
  where
    far : 2 ^ suc longest_log ≤ 2 ^ e → ⊥
    far q = omega arith

    at : Dec (longest_log < e) → e ≤ longest_log
    at (yes b) = absurd (far (pow_mono b))
    at (no nb) = omega arith
