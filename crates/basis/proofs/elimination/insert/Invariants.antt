-- `elimination::insert` meets its contract. The loop's invariant: the basis is as it was, the row is empty before p, and it says of every solution
-- what it said at first.
use mathlib.Core.Path.{◌≡◌}
use Rattle.basis.proofs.Insertion.{Inserting}
use Rattle.basis.proofs.elimination.insert.Given as goal

abbrev pub invariant-loop-p : goal.invariant-loop-p
invariant-loop-p l = (l.rows ≡ l.initial.rows) × (l.leads ≡ l.initial.leads) × Inserting l.n l.initial.row l.rows l.leads l.row l.p
