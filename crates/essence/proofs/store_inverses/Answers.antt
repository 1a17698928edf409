-- `store_inverses` meets its contract: it fills the buffer with the sums of choices.
use mathlib.Core.Path.{refl}
use native.Mathlib.Omega.{arith}
use Rattle.algebra.specs.Filling.{filling_start, filling_turn, filling_end}
use Rattle.essence.proofs.store_inverses.Goals as goal

pub loop-i-init : goal.loop-i-init
loop-i-init c = (refl, λ m. filling_start _ _ c.args.inverses.now refl)

pub loop-i-preserved : goal.loop-i-preserved
loop-i-preserved c =
    (refl, λ m. filling_turn (c.loop-i.invariant.1 m) c.loop-i-test.true (c.choice_sum.ensures m))

pub returns : goal.returns
returns c = λ m. filling_end (c.loop-i.invariant.1 m) (omega arith)
