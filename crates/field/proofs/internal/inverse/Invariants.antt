-- `internal::inverse` meets its contract. The loop's invariant: what is multiplied, and the squares still to come, is the inverse.
use Rattle.field.specs.Gf.{Width}
use Rattle.field.proofs.Shift.{Chaining}
use Rattle.field.proofs.internal.inverse.Given as goal

abbrev pub invariant-loop : goal.invariant-loop
invariant-loop l = (W : Width l.m) × Chaining l.m W l.a l.squared l.result l.counter
