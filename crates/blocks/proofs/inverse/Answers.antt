-- `inverse` meets its contract: a block whose elements sum to zero is refused by 9, and the other rules give what the division asks.
use mathlib.Core.Path.{refl, sym, ap, subst, ◌∙◌}
use mathlib.Core.Bool.{not}
use Prim.Native.Nat.{ℕ, ◌<◌, ◌^◌}
use native.Mathlib.Omega.{arith}
use lib.ListN.{length}
use borrow.Author.Tests.{eq-eqb, ne_eqb}
use Rattle.refusals.specs.RuleLaws.{fault_here, fault_past, fault_empty, fault_rest, refuse, accept}
use Rattle.refusals.specs.Ending.{first_refuses}
use Rattle.refusals.specs.Outcome.{Done, Refused}
use Rattle.refusals.specs.Testing.{tested_none, tested_due, refuses, first_passed_on}
use Rattle.field.specs.Gf.{gf}
use Rattle.dyadic.specs.Block.{quotient, block_inverse}
use Rattle.dyadic.specs.Invertible.{is_invertible}
use Rattle.blocks.specs.Answers.{size_rules, block_rules, block_fault, inverse_rules, inverse_fault, inverse_answer, inverse_after}
use Rattle.blocks.proofs.Checked.{block_checked, total_checked}
use Rattle.blocks.proofs.inverse.Goals as goal

pub returns-in_err-check_block : goal.returns-in_err-check_block
unfolding inverse_answer inverse_after inverse_fault inverse_rules block_fault
returns-in_err-check_block c =
    let g = c.args in
    let rules = block_rules g.m g.a.now (length g.out.now) in
    let is = c.in_err-check_block.ensures in
    let (ne, due) = tested_due is in
    record {
      value = first_passed_on rules _ _ _ is c.from_residual.ensures.1;
      out_after = first_refuses rules _ (λ k. g.out.now) _ due ne;
    }

pub returns-then-zero : goal.returns-then-zero
unfolding inverse_answer inverse_after inverse_fault inverse_rules block_fault block_rules size_rules is_invertible
returns-then-zero c =
    let g = c.args in
    let rules = block_rules g.m g.a.now (length g.out.now) in
    let none = tested_none c.in_ok-check_block.ensures in
    let zero = sym (c.total-sum.ensures g.m) ∙ c.if-zero.true in
    let number = sym (fault_rest rules _ tt none ∙ fault_here 9 _ (ap not (eq-eqb _ 0 zero))) in
    record {
      value = refuses number;
      out_after = refuse (λ k. g.out.now) _ number (λ z. omega arith);
    }

pub product-requires : goal.product-requires
product-requires c =
    let m = c.args.m in
    let h = block_checked _ _ _ c.in_ok-check_block.ensures in
    let small = subst (λ (x : ℕ). x < 2 ^ m) (sym (c.total-sum.ensures m)) (total_checked h) in
    (h.width, small, small)

pub divide-requires : goal.divide-requires
divide-requires c =
    let h = block_checked _ _ _ c.in_ok-check_block.ensures in
    (h.width, h.elements, c.product.ensures.1, h.room)

pub returns : goal.returns
unfolding inverse_answer inverse_after inverse_fault inverse_rules block_fault block_rules size_rules block_inverse is_invertible
returns c =
    let g = c.args in
    let rules = block_rules g.m g.a.now (length g.out.now) in
    let none = tested_none c.in_ok-check_block.ensures in
    let sum = c.total-sum.ensures g.m in
    let square = c.product.ensures.0 ∙ ap (λ (x : ℕ). (gf g.m).mul x x) sum in
    let number = sym (fault_rest rules _ tt none ∙ fault_past 9 _ (ap not (ne_eqb _ 0 (λ z. c.if-zero.false (sum ∙ z)))) fault_empty) in
    record {
      value = accept Refused Done number refl;
      out_after = c.divide.ensures ∙ ap (quotient (gf g.m) g.a.now) square ∙ accept (λ k. g.out.now) _ number refl;
    }
