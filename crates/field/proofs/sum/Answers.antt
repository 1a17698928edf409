-- `sum` meets its contract: elements are below 2^m, and so is their exclusive or.
use Rattle.algebra.specs.Xor.{◌⊕◌}
use Rattle.algebra.specs.XorLaws.{⊕-lt}
use Rattle.refusals.specs.Testing.{tested_none, passed_on, went_on}
use Rattle.field.specs.Answers.{pair_fault, sum_answer}
use Rattle.field.proofs.Shift.{element_fits}
use Rattle.field.proofs.Checked.{pair_checked}
use Rattle.field.proofs.sum.Goals as goal

pub returns-in_err-check_pair : goal.returns-in_err-check_pair
unfolding sum_answer
returns-in_err-check_pair c =
    let a = c.args in passed_on (pair_fault a.m a.a a.b) _ _ c.in_err-check_pair.ensures c.from_residual.ensures.1

pub overflow_cast-result : goal.overflow_cast-result
unfolding ◌⊕◌
overflow_cast-result c =
    let m = c.args.m in
    let a = c.args.a in
    let b = c.args.b in
    let known = pair_checked m a b (tested_none c.in_ok-check_pair.ensures) in
    record { fits = element_fits m known.0 (a ⊕ b) (⊕-lt m a b known.1 known.2) }

pub returns : goal.returns
unfolding ◌⊕◌ sum_answer
returns c = let a = c.args in went_on (pair_fault a.m a.a a.b) _ c.in_ok-check_pair.ensures
