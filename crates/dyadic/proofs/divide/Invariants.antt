-- `divide` meets its contract: the loop fills the buffer with the quotients of entries.
use lib.ListN.{length}
use Rattle.algebra.specs.Filling.{Filling}
use Rattle.dyadic.proofs.Quotients.{quotients}
use Rattle.dyadic.proofs.divide.Given as goal

abbrev pub invariant-loop-i : goal.invariant-loop-i
invariant-loop-i l = Filling (quotients l.m l.a l.c) (length l.initial.out) l.initial.out l.out l.i
