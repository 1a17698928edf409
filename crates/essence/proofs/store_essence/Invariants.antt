-- `store_essence` meets its contract. The loop's invariant: the values before place s are stored.
use Rattle.algebra.specs.Filling.{Filling}
use Rattle.algebra.specs.Lists.{entry_of}
use Rattle.essence.proofs.Storing.{value}
use Rattle.essence.proofs.store_essence.Given as goal

abbrev pub invariant-loop-s : goal.invariant-loop-s
invariant-loop-s l = Filling (value (entry_of l.inverses)) l.e l.initial.value-items l.value-items l.s
