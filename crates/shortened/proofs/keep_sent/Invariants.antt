-- `keep_sent` meets its contract. The loop's invariant: the columns of the sent places passed stand at the front, `kept` of them, and the rest of the
-- list is as it was.
use mathlib.Core.Path.{◌≡◌}
use Prim.Native.Nat.{◌≤◌}
use lib.ListN.{length}
use Rattle.algebra.specs.Choosing.{Choosing}
use Rattle.algebra.specs.Lists.{entry_of}
use Rattle.shortened.specs.Marks.{is_sent}
use Rattle.shortened.proofs.keep_sent.Given as goal

abbrev pub invariant-loop-j : goal.invariant-loop-j
invariant-loop-j l =
    (l.j-end ≡ length l.hidden) × (length l.hidden ≤ length l.initial.columns)
    × Choosing (is_sent l.hidden) (entry_of l.initial.columns) (length l.hidden) l.initial.columns l.columns l.kept l.j
