-- `check_pair` meets its contract: the number for the sizes stands, and where there is none the second length and the elements are looked at.
use mathlib.Core.Path.{sym}
use lib.ListN.{length}
use borrow.Author.Tests.{eq-eqb, ne_eqb}
use Rattle.algebra.specs.Flags.{found_false, found_true}
use Rattle.refusals.specs.RuleLaws.{fault_here, fault_past, fault_none}
use Rattle.refusals.specs.Testing.{refuses, passes, first_passed_on}
use Rattle.blocks.specs.Answers.{size_rules, size_fault, pair_rules, pair_fault}
use Rattle.blocks.proofs.Checked.{size_passed, width_checked}
use Rattle.blocks.proofs.check_pair.Goals as goal

pub returns-in_err-check_size : goal.returns-in_err-check_size
unfolding size_fault pair_fault pair_rules
returns-in_err-check_size c =
    let a = c.args in
    first_passed_on (size_rules a.m (length a.a.now) a.n) _ _ _ c.in_err-check_size.ensures c.from_residual.ensures.1

pub returns-then-not-same : goal.returns-then-not-same
unfolding pair_fault pair_rules
returns-then-not-same c =
    refuses (sym (size_passed _ _ _ _ c.in_ok-check_size.ensures (fault_here 2 _ (ne_eqb _ _ c.if-not-same.true))))

pub all_elements-requires : goal.all_elements-requires
all_elements-requires c = width_checked _ _ _ c.in_ok-check_size.ensures

pub returns-then-not-all_elements : goal.returns-then-not-all_elements
unfolding pair_fault pair_rules
returns-then-not-all_elements c =
    refuses (sym (size_passed _ _ _ _ c.in_ok-check_size.ensures
    (fault_past 2 _ (eq-eqb _ _ c.if-not-same.false) (fault_here 3 _ (found_false c.all_elements.ensures c.if-not-all_elements.true)))))

pub all_elements-requires-2 : goal.all_elements-requires-2
all_elements-requires-2 c = width_checked _ _ _ c.in_ok-check_size.ensures

pub returns-then-not-all_elements-2 : goal.returns-then-not-all_elements-2
unfolding pair_fault pair_rules
returns-then-not-all_elements-2 c =
    let first = found_true c.all_elements.ensures c.if-not-all_elements.false in
    refuses (sym (size_passed _ _ _ _ c.in_ok-check_size.ensures
    (fault_past 2 _ (eq-eqb _ _ c.if-not-same.false)
    (fault_past 3 _ first (fault_here 3 _ (found_false c.all_elements-2.ensures c.if-not-all_elements-2.true))))))

pub returns : goal.returns
unfolding pair_fault pair_rules
returns c =
    let first = found_true c.all_elements.ensures c.if-not-all_elements.false in
    passes (size_passed _ _ _ _ c.in_ok-check_size.ensures
    (fault_none _ (eq-eqb _ _ c.if-not-same.false, (first, (found_true c.all_elements-2.ensures c.if-not-all_elements-2.false, tt)))))
