-- `raise` meets its contract. The loop's invariant: the coefficients passed are raised, `lower` is the last of them as it was, and so is the rest.
use Rattle.locator.proofs.Loops.{Raising}
use Rattle.locator.proofs.raise.Given as goal

abbrev pub invariant-loop-coefficient : goal.invariant-loop-coefficient
invariant-loop-coefficient l = Raising l.m l.n l.r l.fn.pivot l.coefficient-items l.lower l.coefficient-index
