-- `elimination::parity_row` meets its contract. The loop's invariant: the places passed hold their bit, and the others nothing.
use mathlib.Core.Path.{◌≡◌}
use lib.ListN.{length}
use Rattle.basis.specs.Table.{parity_bit}
use Rattle.basis.proofs.Building.{Building}
use Rattle.basis.proofs.elimination.parity_row.Given as goal

abbrev pub invariant-loop-j : goal.invariant-loop-j
invariant-loop-j l = (length l.row ≡ length l.initial.row) × Building (parity_bit l.h l.cols l.i l.b) (length l.cols) l.row l.j
