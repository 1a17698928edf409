-- `inverse` meets its contract: its rules give what the inner inverse asks.
use mathlib.Core.Path.{ap, ◌∙◌}
use Rattle.field.specs.Found.{Element}
use Rattle.refusals.specs.Testing.{tested_none, passed_on, went_on}
use Rattle.field.specs.Answers.{element_fault, inverse_answer}
use Rattle.field.proofs.Shift.{element_fits}
use Rattle.field.proofs.Checked.{element_checked}
use Rattle.field.proofs.inverse.Goals as goal

pub returns-in_err-check_element : goal.returns-in_err-check_element
unfolding inverse_answer
returns-in_err-check_element c = let a = c.args in passed_on (element_fault a.m a.a) _ _ c.in_err-check_element.ensures c.from_residual.ensures.1

pub overflow_cast-a : goal.overflow_cast-a
overflow_cast-a c =
    let m = c.args.m in
    let a = c.args.a in
    let known = element_checked m a (tested_none c.in_ok-check_element.ensures) in
    record { fits = element_fits m known.0 a known.1 }

pub inverse-requires : goal.inverse-requires
inverse-requires c =
    element_checked c.args.m c.args.a (tested_none c.in_ok-check_element.ensures)

pub returns : goal.returns
unfolding inverse_answer
returns c = let a = c.args in ap Element c.inverse.ensures.0 ∙ went_on (element_fault a.m a.a) _ c.in_ok-check_element.ensures
