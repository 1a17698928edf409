-- `copy` meets its contract: the entries passed are copied, and the rest is as it was.
use Rattle.std.proofs.Common.{refl, sym, arith}
use Rattle.slices.proofs.Adding.{adding_start, adding_turn}
use Rattle.slices.proofs.Copying.{taken, copied}
use Rattle.slices.proofs.copy.Goals as goal

pub loop-i-init : goal.loop-i-init
loop-i-init g c = adding_start taken c.args.from.now c.args.to.now

pub loop-i-preserved : goal.loop-i-preserved
loop-i-preserved g c =
    adding_turn taken c.args.from.now c.args.to.now c.loop-i.invariant c.loop-i-test.true (sym c.requires) c.index-to-i.result c.index-from-i.is refl

pub returns : goal.returns
returns g c = copied c.args.from.now c.args.to.now c.requires c.loop-i.invariant (omega (arith, c.loop-i-test.false))
