-- `add` meets its contract: the entries passed are sums, and the rest is as it was.
use Rattle.slices.proofs.Adding.{Adding}
use Rattle.slices.proofs.add.Given as goal

abbrev pub invariant-loop-i : goal.invariant-loop-i
invariant-loop-i g l = Adding g.T.BitXorAssign.bitxor_assign_gives l.from l.initial.to l.to l.i
