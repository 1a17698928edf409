-- `is_power` meets its contract: up to the longest length the two tests agree, as computing both at each number shows.
use Rattle.std.specs.Prelude.{◌≡◌, refl, Bool, true, false, ◌&&◌, ℕ, suc, ◌^◌, ◌≤◌, ◌<◌}
use Rattle.std.specs.Int.{is_power_of_two}
use Rattle.std.proofs.Common.{sym, ap, ◌∙◌, arith, pow_mono}
use Rattle.std.proofs.lemmas.Bool.{agree_below, agree_below_at, lt-leb, le-leb}
use Rattle.std.proofs.Math.Decide.{dec_lt}
use Rattle.std.proofs.Math.Dec.{leb}
use lib.Count.{ones}
use Rattle.algebra.specs.All.{some}
use Rattle.algebra.specs.Flags.{refuted}
use Rattle.slices.specs.Lengths.{longest_log, longest, is_power}
use Rattle.slices.specs.LengthLaws.{power_is}
use Rattle.slices.proofs.is_power.Goals as goal

agreed : agree_below is_power_of_two is_power (suc longest) ≡ true
unfolding some is_power ones
agreed = refl

too_long : (s : ℕ) → longest < s → is_power s ≡ false
too_long s h =
    refuted (is_power s)
    (λ t.
    let (e, l, v) = power_is s t in
    let most : 2 ^ e ≤ 2 ^ longest_log = pow_mono l in
    omega arith)

bounded : (s : ℕ) → Dec (longest < s) → (leb s longest && is_power_of_two s) ≡ is_power s
bounded s (yes long) = ap (λ (b : Bool). b && is_power_of_two s) (lt-leb s longest long) ∙ sym (too_long s long)
bounded s (no short) =
    ap (λ (b : Bool). b && is_power_of_two s) (le-leb s longest (omega arith))
    ∙ agree_below_at is_power_of_two is_power (suc longest) s agreed (omega arith)

pub returns : goal.returns
returns c =
    ap (λ (b : Bool). leb c.args.s longest && b) c.is_power_of_two.ensures ∙ bounded c.args.s (dec_lt longest c.args.s)
