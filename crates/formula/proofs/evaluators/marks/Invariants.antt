-- `marks` meets its contract. The loop's invariant: whatever term was read before the marks, it is held with those passed so far.
use mathlib.Core.Path.{◌≡◌}
use Prim.Native.Nat.{ℕ, ◌-◌}
use lib.ListN.{length}
use Rattle.slices.specs.Elements.{Elements}
use Rattle.formula.specs.declared.evaluators.Cursor.{Cursor}
use Rattle.formula.specs.Letters.{Lent}
use Rattle.formula.specs.Evaluated.{terms, Held}
use Rattle.formula.proofs.evaluators.marks.Given as goal

abbrev pub invariant-loop-value : goal.invariant-loop-value
invariant-loop-value l =
    (length l.value ≡ length l.initial.value) × Elements l.m l.value
    × ((β : Lent) (k : ℕ) (start : Cursor) → Held terms l.m β k l.text start l.initial.cursor l.initial.value → Held terms l.m β k l.text start l.cursor l.value)

abbrev pub decreases-loop-value : goal.decreases-loop-value
decreases-loop-value l = length l.text - l.cursor.at
