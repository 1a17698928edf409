-- `invert` meets its contract. The loop's invariant: the places from i on hold inverses, and `rest` is that of the product before i.
use Prim.Native.Nat.{◌≤◌}
use lib.ListN.{length}
use Rattle.field.specs.Gf.{Width}
use Rattle.signature.proofs.Inverting.{Inverting}
use Rattle.signature.proofs.invert.Given as goal

abbrev pub invariant-loop-i : goal.invariant-loop-i
invariant-loop-i l =
    (W : Width l.m) × (length l.h ≤ length l.initial.inverses) × Inverting l.m W l.h l.initial.inverses l.inverses l.rest l.i

abbrev pub decreases-loop-i : goal.decreases-loop-i
decreases-loop-i l = l.i
