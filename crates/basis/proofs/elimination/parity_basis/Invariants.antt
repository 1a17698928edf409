-- `elimination::parity_basis` meets its contract. The loop's invariant: the rows brought in so far have the basis's solutions.
use mathlib.Core.Path.{◌≡◌}
use lib.ListN.{length}
use Rattle.basis.specs.Table.{row_words}
use Rattle.basis.proofs.Eliminating.{Eliminating}
use Rattle.basis.proofs.elimination.parity_basis.Given as goal

abbrev pub invariant-loop-k : goal.invariant-loop-k
invariant-loop-k l =
    (length l.row ≡ row_words) × Eliminating l.m l.t l.h l.cols l.rows l.leads l.rank l.k
