-- `store_roots` meets its contract. The loop's invariant: what is passed is stored, and the rest is as it was.
use mathlib.Core.Path.{◌≡◌}
use lib.ListN.{length}
use Rattle.algebra.specs.Filling.{Filling}
use Rattle.signature.specs.Inverses.{added}
use Rattle.signature.proofs.store_roots.Given as goal

abbrev pub invariant-loop-i : goal.invariant-loop-i
invariant-loop-i l = (l.i-end ≡ length l.initial.roots) × Filling (added l.inverses l.offset) (length l.initial.roots) l.initial.roots l.roots l.i
