-- `check_block` meets its contract: the number for the sizes stands, and where there is none the elements are looked at.
use mathlib.Core.Path.{sym}
use lib.ListN.{length}
use Rattle.algebra.specs.Flags.{found_false, found_true}
use Rattle.refusals.specs.RuleLaws.{fault_here, fault_none}
use Rattle.refusals.specs.Testing.{refuses, passes, first_passed_on}
use Rattle.blocks.specs.Answers.{size_rules, size_fault, block_rules, block_fault}
use Rattle.blocks.proofs.Checked.{size_passed, width_checked}
use Rattle.blocks.proofs.check_block.Goals as goal

pub returns-in_err-check_size : goal.returns-in_err-check_size
unfolding size_fault block_fault block_rules
returns-in_err-check_size c =
    let a = c.args in
    first_passed_on (size_rules a.m (length a.a.now) a.n) _ _ _ c.in_err-check_size.ensures c.from_residual.ensures.1

pub all_elements-requires : goal.all_elements-requires
all_elements-requires c = width_checked _ _ _ c.in_ok-check_size.ensures

pub returns-then-not-all_elements : goal.returns-then-not-all_elements
unfolding block_fault block_rules
returns-then-not-all_elements c =
    refuses (sym (size_passed _ _ _ _ c.in_ok-check_size.ensures
    (fault_here 3 _ (found_false c.all_elements.ensures c.if-not-all_elements.true))))

pub returns : goal.returns
unfolding block_fault block_rules
returns c =
    passes (size_passed _ _ _ _ c.in_ok-check_size.ensures
    (fault_none _ (found_true c.all_elements.ensures c.if-not-all_elements.false, tt)))
