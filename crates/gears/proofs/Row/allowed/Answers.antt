-- `Row::allowed` meets its contract: an allowed row has one of the three lamps, which are told apart.
use mathlib.Core.Path.{refl, ap, ◌∙◌}
use Rattle.algebra.specs.Flags.{found_true}
use Rattle.gears.specs.Messages.{row_lamp, lamp_number_lem}
use Rattle.gears.specs.Rows.{lamp_number}
use Rattle.gears.proofs.Row.allowed.Goals as goal

pub returns-clause-row : goal.returns-clause-row
returns-clause-row c =
    let a = c.args in
    let is_row = found_true c.is_row.ensures c.if-not-is_row.false in
    (refl, ap lamp_number c.lamp_of-lamp.ensures ∙ lamp_number_lem a.lamp (row_lamp a.gear a.lamp is_row))
