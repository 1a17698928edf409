-- `choice_sum` meets its contract. The loop's invariant: `sum` is the sum of the values taken at the places passed.
use Rattle.essence.proofs.Choosing.{Choosing}
use Rattle.essence.proofs.choice_sum.Given as goal

abbrev pub invariant-loop-s : goal.invariant-loop-s
invariant-loop-s l = Choosing l.values l.choice l.sum l.s
