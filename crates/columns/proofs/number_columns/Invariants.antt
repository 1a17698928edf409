-- `number_columns` meets its contract, place by place.
use lib.ListN.{length}
use Prim.Native.Nat.{◌≤◌}
use Rattle.algebra.specs.Filling.{Filling}
use Rattle.slices.specs.Lengths.{longest}
use Rattle.columns.proofs.number_columns.Given as goal

abbrev pub invariant-loop-j : goal.invariant-loop-j
invariant-loop-j l = (length l.initial.columns ≤ longest) × Filling (λ k. k) (length l.initial.columns) l.initial.columns l.columns l.j
