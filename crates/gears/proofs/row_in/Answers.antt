-- `row_in` meets its contract.
use mathlib.Core.Path.{ap, ap₂, ◌∙◌}
use Prim.Native.Nat.{ℕ}
use Rattle.gears.specs.declared.Lamp.{Lamp}
use Rattle.gears.specs.Rows.{lamp_of, row_of}
use Rattle.gears.proofs.row_in.Goals as goal

pub returns : goal.returns
unfolding row_of
returns c =
    ap₂ (λ (g : ℕ) (l : Lamp). record { gear = g; lamp = l }) c.gear_in.ensures
    (c.lamp_of.ensures ∙ ap lamp_of c.lamp_in.ensures)
