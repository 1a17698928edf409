-- `same` meets its contract: the lower number of the two codes, or what the comparison gives.
use mathlib.Core.Path.{◌∙◌}
use Rattle.refusals.specs.Testing.{passed_on, went_on}
use Rattle.codes.specs.Answers.{same_fault, same_answer}
use Rattle.codes.proofs.SameLaws.{compared_is}
use Rattle.codes.proofs.same.Goals as goal

pub returns-in_err-lower : goal.returns-in_err-lower
unfolding same_answer same_fault
returns-in_err-lower c = passed_on _ _ _ (c.in_err-lower.ensures _ _ c.check_card.ensures c.check_card-2.ensures) c.from_residual.ensures.1

pub returns : goal.returns
unfolding same_answer same_fault
returns c =
    compared_is c.agree.ensures
    ∙ went_on _ _ (c.in_ok-lower.ensures _ _ c.check_card.ensures c.check_card-2.ensures)
