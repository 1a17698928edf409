-- `essence` meets its contract: it refuses by the signature's number, or stores the essence.
use mathlib.Core.Path.{refl, sym, ◌∙◌}
use native.Mathlib.Omega.{arith}
use Rattle.refusals.specs.RuleLaws.{refuse, given}
use Rattle.refusals.specs.Testing.{tested_none, tested_due, passed_on, went_on}
use Rattle.essence.specs.Answers.{essence_answer, essence_after}
use Rattle.essence.proofs.Shaped.{first_shaped, shape_value_count, shape_room, inverted_essence}
use Rattle.essence.proofs.essence.Goals as goal

pub returns-in_err-check_essence : goal.returns-in_err-check_essence
unfolding essence_answer essence_after
returns-in_err-check_essence c =
    let is = c.in_err-check_essence.ensures.value in
    let (ne, due) = tested_due is in
    record { value = passed_on _ _ _ is c.from_residual.ensures.1; out_after = refuse (λ k. c.args.out.now) _ due ne }

pub store_essence-requires : goal.store_essence-requires
store_essence-requires c =
    let S = first_shaped _ _ _ (tested_none c.in_ok-check_essence.ensures.value) in
    (shape_value_count S, omega (arith, shape_room S))

pub returns : goal.returns
unfolding essence_answer essence_after
returns c =
    let out = c.args.out.now in
    let is = c.in_ok-check_essence.ensures.value in
    let S = first_shaped _ _ _ (tested_none is) in
    record {
      value = went_on _ _ is;
      out_after = c.store_essence.ensures ∙ inverted_essence S (c.in_ok-check_essence.ensures.inverted refl) ∙ sym (given (λ k. out) _ (tested_none is));
    }
