-- `divide_in_place` meets its contract: the loop multiplies the entries by the inverse, and what it has not yet filled is still there.
use lib.ListN.{length}
use Rattle.algebra.specs.Filling.{Filling}
use Rattle.dyadic.proofs.Quotients.{quotients}
use Rattle.dyadic.proofs.divide_in_place.Given as goal

abbrev pub invariant-loop-entry : goal.invariant-loop-entry
invariant-loop-entry l = Filling (quotients l.m l.initial.block l.c) (length l.initial.block) l.initial.block l.block l.entry-index
