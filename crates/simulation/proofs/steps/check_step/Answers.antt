-- `check_step` meets its contract: 8, 11, or the row. What the test of the marks tells is found by what it says, so that a proof names no word of it.
use mathlib.Core.Path.{◌∙◌}
use borrow.Author.Rules.{rules}
use Rattle.simulation.proofs.Checking.{wrong_mark, row_checked}
use Rattle.simulation.proofs.steps.check_step.Goals as goal

pub returns-then-not-bits : goal.returns-then-not-bits
returns-then-not-bits c =
    let a = c.args in
    wrong_mark a.gear a.lamp a.marks.now (search rules)

pub returns : goal.returns
returns c =
    let a = c.args in
    let row = c.allowed-row.ensures in
    c.ok_or.ensures.value
    ∙ row_checked a.gear a.lamp a.marks.now (search rules) _ row.none row.row
