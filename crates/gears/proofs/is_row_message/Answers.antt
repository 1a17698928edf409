-- `is_row_message` meets its contract.
use mathlib.Core.Path.{ap₂, ◌∙◌}
use mathlib.Core.Bool.{Bool, ◌&&◌}
use Rattle.gears.specs.Rows.{is_row, is_row_message}
use Rattle.gears.proofs.is_row_message.Goals as goal

pub returns : goal.returns
unfolding is_row_message
returns c =
    ap₂ (λ (a b : Bool). a && b)
    (c.is_row.ensures ∙ ap₂ is_row c.gear_in.ensures c.lamp_in.ensures)
    c.no_further_bits.ensures
