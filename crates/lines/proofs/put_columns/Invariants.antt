-- `put_columns` meets its contract. The loop's invariant: the lines of the columns passed are printed.
use mathlib.Core.Path.{◌≡◌}
use Prim.Native.Nat.{◌+◌, ◌*◌}
use lib.ListN.{length}
use Rattle.fields.specs.Fields.{line_length}
use Rattle.fields.proofs.Printing.{Joining}
use Rattle.lines.specs.Listing.{column_line}
use Rattle.lines.proofs.put_columns.Given as goal

abbrev pub invariant-loop-j : goal.invariant-loop-j
invariant-loop-j l =
    (l.j-end ≡ length l.columns.h.now) × (l.next ≡ l.at + l.j * line_length 4)
    × Joining (column_line l.columns.h.now l.columns.support.now l.columns.roles.now) (length l.columns.h.now) l.at l.initial.out l.out l.j
