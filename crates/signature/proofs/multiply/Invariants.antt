-- `multiply` meets its contract. The loop's invariant: the places passed hold the products before them.
use mathlib.Core.Path.{◌≡◌}
use lib.ListN.{length}
use Rattle.field.specs.Gf.{Width}
use Rattle.signature.proofs.Inverting.{Multiplying}
use Rattle.signature.proofs.multiply.Given as goal

abbrev pub invariant-loop-i : goal.invariant-loop-i
invariant-loop-i l = (l.i-end ≡ length l.h) × (W : Width l.m) × Multiplying l.m W l.h l.initial.products l.products l.before l.i
