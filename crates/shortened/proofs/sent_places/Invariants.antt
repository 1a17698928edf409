-- `sent_places` meets its contract: it counts the marks that are 0.
use mathlib.Core.Path.{◌≡◌}
use Prim.Native.Nat.{◌≤◌}
use lib.ListN.{length}
use Rattle.algebra.specs.Places.{count}
use Rattle.shortened.specs.Marks.{is_sent}
use Rattle.shortened.proofs.sent_places.Given as goal

abbrev pub invariant-loop-mark : goal.invariant-loop-mark
invariant-loop-mark l = (l.mark-index-end ≡ length l.hidden) × (l.mark-index ≤ length l.hidden) × (l.sent ≡ count l.mark-index (is_sent l.hidden))
