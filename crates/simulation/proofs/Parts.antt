-- The marks of step i lie inside all marks.
use mathlib.Core.Path.{◌≡◌, sym, ap, ap₂, ◌∙◌, subst}
use mathlib.Core.List.{List}
use Prim.Native.Nat.{ℕ, ◌+◌, ◌*◌, ◌<◌, ◌≤◌}
use lib.ListN.{length}
use Rattle.algebra.specs.PartLaws.{part_room}
use Rattle.simulation.specs.Lent.{LentSteps}
use Rattle.simulation.specs.Steps.{Steps, step_count}

-- what a step comes to, by the same gear, lamp and marks
pub step_alike : {A : Type 0} (f : ℕ → ℕ → List ℕ → A) {g g' l l' : ℕ} {m m' : List ℕ} → g ≡ g' → l ≡ l' → m ≡ m' → f g l m ≡ f g' l' m'
step_alike f {g' = g'} {l} {m = m} p q r = ap (λ (x : ℕ). f x l m) p ∙ ap₂ (f g') q r

module _ {n : ℕ} {σ : Steps} {counts : List ℕ} (L : LentSteps n σ counts) {i : ℕ} (l : i < step_count σ) where
  pub part_inside : i * n + n ≤ length σ.turned
  part_inside = subst (λ (x : ℕ). i * n + n ≤ x) (sym L.marks_long_lem) (part_room n l)
