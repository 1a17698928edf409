-- `product` meets its contract: its rules give what the inner product asks, and what that adds to the cleared buffer is the product.
use mathlib.Core.Path.{sym, ◌∙◌}
use Rattle.refusals.specs.RuleLaws.{refuse, given}
use Rattle.refusals.specs.Testing.{tested_none, tested_due, passed_on, went_on}
use Rattle.blocks.specs.Answers.{product_answer, product_after}
use Rattle.blocks.proofs.Checked.{pair_checked}
use Rattle.dyadic.proofs.Adding.{cleared, into_cleared}
use Rattle.blocks.proofs.product.Goals as goal

pub returns-in_err-check_pair : goal.returns-in_err-check_pair
unfolding product_answer product_after
returns-in_err-check_pair c =
    let is = c.in_err-check_pair.ensures in
    let (ne, due) = tested_due is in
    record { value = passed_on _ _ _ is c.from_residual.ensures.1; out_after = refuse (λ k. c.args.out.now) _ due ne }

pub add_product-requires : goal.add_product-requires
add_product-requires c = cleared c.fill.auto.self (pair_checked _ _ _ c.args.out.now c.in_ok-check_pair.ensures)

pub returns : goal.returns
unfolding product_answer product_after
returns c =
    let out = c.args.out.now in
    let is = c.in_ok-check_pair.ensures in
    let f = pair_checked _ _ _ out is in
    record {
      value = went_on _ _ is;
      out_after = into_cleared f (c.fill.ensures.after (λ y is. is)) c.add_product.ensures.out_after ∙ sym (given (λ k. out) _ (tested_none is));
    }
