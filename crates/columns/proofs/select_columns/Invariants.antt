-- `select_columns` meets its contract, place by place.
use mathlib.Core.Path.{◌≡◌}
use Prim.Native.Nat.{◌*◌}
use lib.ListN.{length}
use Rattle.algebra.specs.Filling.{Filling}
use Rattle.columns.specs.Listed.{Selecting}
use Rattle.columns.specs.Choice.{selected_column}
use Rattle.columns.proofs.select_columns.Given as goal

abbrev pub invariant-loop-j : goal.invariant-loop-j
invariant-loop-j l =
    Selecting l.t l.s.blocks.now l.s.shifts.now × (length l.initial.columns ≡ length l.s.blocks.now * l.t)
    × Filling (selected_column l.t l.s.blocks.now l.s.shifts.now) (length l.initial.columns) l.initial.columns l.columns l.j
