-- `all_in_field` meets its contract, which its body says.
use mathlib.Core.Path.{ap₂}
use mathlib.Core.Bool.{◌&&◌}
use Rattle.formula.specs.Answers.{every}
use Rattle.formula.proofs.all_in_field.Goals as goal

pub returns : goal.returns
unfolding every
returns c =
    ap₂ ◌&&◌
    (ap₂ ◌&&◌ (ap₂ ◌&&◌ c.all_elements.ensures c.all_elements-2.ensures)
    c.all_elements-3.ensures)
    c.all_elements-4.ensures
