-- `add` meets its contract: the entries passed are sums, and the rest is as it was.
use Rattle.std.proofs.Common.{arith}
use Rattle.slices.proofs.Adding.{adding_start, adding_turn}
use Rattle.slices.proofs.add.Goals as goal

pub loop-i-init : goal.loop-i-init
loop-i-init g c = adding_start g.T.BitXorAssign.bitxor_assign_gives c.args.from.now c.args.to.now

pub loop-i-preserved : goal.loop-i-preserved
loop-i-preserved g c =
    adding_turn g.T.BitXorAssign.bitxor_assign_gives c.args.from.now c.args.to.now c.loop-i.invariant c.loop-i-test.true c.requires.long
    _ c.index-from-i.is c.bitxor_assign.ensures.after

pub returns-clause-sums : goal.returns-clause-sums
returns-clause-sums g c = λ k x l. c.loop-i.invariant.passed k x (omega (arith, c.loop-i-test.false))
