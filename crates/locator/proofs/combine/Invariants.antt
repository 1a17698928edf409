-- `combine` meets its contract. The loop's invariant: the coefficients passed are combined, and the rest is as it was.
use lib.ListN.{take}
use Rattle.algebra.specs.Filling.{Filling}
use Rattle.locator.proofs.Loops.{combined}
use Rattle.locator.proofs.combine.Given as goal

abbrev pub invariant-loop-k : goal.invariant-loop-k
invariant-loop-k l = Filling (combined l.m l.a l.b l.pivot l.fn.other) l.n (take l.n l.fn.other) l.coefficient-items l.k
