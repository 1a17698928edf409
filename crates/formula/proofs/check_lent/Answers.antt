-- `check_lent` meets its contract: each return is at the first rule that does not hold.
use mathlib.Core.Path.{sym}
use Rattle.algebra.specs.Flags.{found_false, found_true}
use Rattle.refusals.specs.RuleLaws.{fault_here, fault_past, fault_none}
use Rattle.refusals.specs.Testing.{refuses, passes}
use Rattle.field.specs.RangeLaws.{width_is}
use Rattle.formula.specs.Answers.{lent_rules, lent_fault}
use Rattle.formula.proofs.check_lent.Goals as goal

pub returns-then-not-is_width : goal.returns-then-not-is_width
unfolding lent_fault lent_rules
returns-then-not-is_width c =
    refuses (sym (fault_here 1 _ (found_false c.is_width.ensures c.if-not-is_width.true)))

pub returns-then-not-is_power : goal.returns-then-not-is_power
unfolding lent_fault lent_rules
returns-then-not-is_power c =
    refuses (sym
    (fault_past 1 _ (found_true c.is_width.ensures c.if-not-is_width.false)
    (fault_here 2 _ (found_false c.is_power.ensures c.if-not-is_power.true))))

pub returns-then-not-all_fit : goal.returns-then-not-all_fit
unfolding lent_fault lent_rules
returns-then-not-all_fit c =
    refuses (sym
    (fault_past 1 _ (found_true c.is_width.ensures c.if-not-is_width.false)
    (fault_past 2 _ (found_true c.is_power.ensures c.if-not-is_power.false) (fault_here 2 _ (found_false c.all_fit.ensures c.if-not-all_fit.true)))))

pub all_in_field-requires : goal.all_in_field-requires
all_in_field-requires c =
    width_is _ (found_true c.is_width.ensures c.if-not-is_width.false)

pub returns-then-not-all_in_field : goal.returns-then-not-all_in_field
unfolding lent_fault lent_rules
returns-then-not-all_in_field c =
    refuses (sym
    (fault_past 1 _ (found_true c.is_width.ensures c.if-not-is_width.false)
    (fault_past 2 _ (found_true c.is_power.ensures c.if-not-is_power.false)
    (fault_past 2 _ (found_true c.all_fit.ensures c.if-not-all_fit.false)
    (fault_here 3 _ (found_false c.all_in_field.ensures c.if-not-all_in_field.true))))))

pub returns : goal.returns
unfolding lent_fault lent_rules
returns c =
    passes (fault_none _ (
      found_true c.is_width.ensures c.if-not-is_width.false,
      (
        found_true c.is_power.ensures c.if-not-is_power.false,
        (found_true c.all_fit.ensures c.if-not-all_fit.false, (found_true c.all_in_field.ensures c.if-not-all_in_field.false, tt)),
      ),
    ))
