-- `place_row` meets its contract, place by place.
use lib.ListN.{length}
use Rattle.algebra.specs.Filling.{Filling}
use Rattle.gears.specs.Rows.{row_bit}
use Rattle.gears.proofs.place_row.Given as goal

abbrev pub invariant-loop-j : goal.invariant-loop-j
invariant-loop-j l = Filling (row_bit l.gear l.lamp) (length l.initial.message) l.initial.message l.message l.j
