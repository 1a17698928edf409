-- `internal::product` meets its contract. The loop's invariant: what is gathered, and what the bits left still add, is the product.
use mathlib.Core.Path.{◌≡◌}
use Rattle.field.specs.Words.{word}
use Rattle.field.specs.Gf.{Width}
use Rattle.field.proofs.Shift.{Gathering}
use Rattle.field.proofs.internal.product.Given as goal

abbrev pub invariant-loop : goal.invariant-loop
invariant-loop l =
    (W : Width l.m) × Gathering l.m W l.a l.b l.sum l.shifted l.bits l.counter × (l.reduction ≡ word l.m)
