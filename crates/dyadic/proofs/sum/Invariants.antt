-- `sum` meets its contract: the loop fills the buffer with the sums of entries.
use Rattle.std.proofs.Common.{length}
use Rattle.algebra.specs.Filling.{Filling}
use Rattle.dyadic.proofs.Sums.{sums}
use Rattle.dyadic.proofs.sum.Given as goal

abbrev pub invariant-loop-i : goal.invariant-loop-i
invariant-loop-i l = Filling (sums l.a l.b) (length l.initial.out) l.initial.out l.out l.i
