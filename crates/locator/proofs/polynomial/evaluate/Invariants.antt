-- `evaluate` meets its contract. The loop's invariant: `value` is that of the coefficients from those on that are left.
use Rattle.std.specs.Iterator.Adapters.{rev_source}
use Rattle.std.specs.Slice.Iter.{iter_rest}
use Rattle.locator.proofs.Loops.{Walking}
use Rattle.locator.proofs.polynomial.evaluate.Given as goal

abbrev pub invariant-loop-coefficient : goal.invariant-loop-coefficient
invariant-loop-coefficient l = Walking l.m l.n l.fn.coefficients l.y l.value (iter_rest (rev_source l.coefficient-iterator))
