-- `check_element` meets its contract: each return is at the first rule that does not hold.
use mathlib.Core.Path.{sym}
use Rattle.algebra.specs.Flags.{found_false, found_true}
use Rattle.refusals.specs.RuleLaws.{fault_here, fault_past, fault_none}
use Rattle.refusals.specs.Testing.{refuses, passes}
use Rattle.field.specs.RangeLaws.{width_is}
use Rattle.field.specs.Answers.{element_rules, element_fault}
use Rattle.field.proofs.check_element.Goals as goal

pub returns-then-not-is_width : goal.returns-then-not-is_width
unfolding element_fault element_rules
returns-then-not-is_width c = refuses (sym (fault_here 1 _ (found_false c.is_width.ensures c.if-not-is_width.true)))

pub is_element-requires : goal.is_element-requires
is_element-requires c = width_is c.args.m (found_true c.is_width.ensures c.if-not-is_width.false)

pub returns-then-not-is_element : goal.returns-then-not-is_element
unfolding element_fault element_rules
returns-then-not-is_element c =
    let w = found_true c.is_width.ensures c.if-not-is_width.false in
    refuses (sym (fault_past 1 _ w (fault_here 3 _ (found_false c.is_element.ensures c.if-not-is_element.true))))

pub returns : goal.returns
unfolding element_fault element_rules
returns c =
    let w = found_true c.is_width.ensures c.if-not-is_width.false in
    passes (fault_none _ (w, (found_true c.is_element.ensures c.if-not-is_element.false, tt)))
