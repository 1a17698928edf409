-- `copy` meets its contract: the entries passed are copied, and the rest is as it was.
use Rattle.slices.proofs.Adding.{Adding}
use Rattle.slices.proofs.Copying.{taken}
use Rattle.slices.proofs.copy.Given as goal

abbrev pub invariant-loop-i : goal.invariant-loop-i
invariant-loop-i g l = Adding taken l.from l.initial.to l.to l.i
