-- `sum` meets its contract: its rules give what the inner sum asks.
use mathlib.Core.Path.{sym, ◌∙◌}
use Rattle.refusals.specs.RuleLaws.{refuse, given}
use Rattle.refusals.specs.Testing.{tested_none, tested_due, passed_on, went_on}
use Rattle.blocks.specs.Answers.{sum_answer, sum_after}
use Rattle.blocks.proofs.Checked.{pair_checked}
use Rattle.blocks.proofs.sum.Goals as goal

pub returns-in_err-check_pair : goal.returns-in_err-check_pair
unfolding sum_answer sum_after
returns-in_err-check_pair c =
    let is = c.in_err-check_pair.ensures in
    let (ne, due) = tested_due is in
    record { value = passed_on _ _ _ is c.from_residual.ensures.1; out_after = refuse (λ k. c.args.out.now) _ due ne }

pub sum-requires : goal.sum-requires
sum-requires c =
    let f = pair_checked _ _ _ c.args.out.now c.in_ok-check_pair.ensures in
    (f.length_b ∙ sym f.length_a, f.length_out ∙ sym f.length_a)

pub returns : goal.returns
unfolding sum_answer sum_after
returns c =
    let g = c.args in
    let is = c.in_ok-check_pair.ensures in
    record { value = went_on _ _ is; out_after = c.sum.ensures g.m ∙ sym (given (λ k. g.out.now) _ (tested_none is)) }
