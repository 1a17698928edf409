-- `product` meets its contract: its rules give what the inner product asks.
use mathlib.Core.Path.{ap, ◌∙◌}
use Rattle.field.specs.Found.{Element}
use Rattle.refusals.specs.Testing.{tested_none, passed_on, went_on}
use Rattle.field.specs.Answers.{pair_fault, product_answer}
use Rattle.field.proofs.Shift.{element_fits}
use Rattle.field.proofs.Checked.{pair_checked}
use Rattle.field.proofs.product.Goals as goal

pub returns-in_err-check_pair : goal.returns-in_err-check_pair
unfolding product_answer
returns-in_err-check_pair c = let a = c.args in passed_on (pair_fault a.m a.a a.b) _ _ c.in_err-check_pair.ensures c.from_residual.ensures.1

pub overflow_cast-a : goal.overflow_cast-a
overflow_cast-a c =
    let m = c.args.m in
    let a = c.args.a in
    let known = pair_checked m a c.args.b (tested_none c.in_ok-check_pair.ensures) in
    record { fits = element_fits m known.0 a known.1 }

pub overflow_cast-b : goal.overflow_cast-b
overflow_cast-b c =
    let m = c.args.m in
    let b = c.args.b in
    let known = pair_checked m c.args.a b (tested_none c.in_ok-check_pair.ensures) in
    record { fits = element_fits m known.0 b known.2 }

pub product-requires : goal.product-requires
product-requires c =
    pair_checked c.args.m c.args.a c.args.b
    (tested_none c.in_ok-check_pair.ensures)

pub returns : goal.returns
unfolding product_answer
returns c = let a = c.args in ap Element c.product.ensures.0 ∙ went_on (pair_fault a.m a.a a.b) _ c.in_ok-check_pair.ensures
