-- `check_shape` meets its contract: each return is at the first rule that does not hold.
use mathlib.Core.Path.{sym, ◌∙◌}
use native.Mathlib.Omega.{arith}
use borrow.Author.Tests.{eq-eqb, ne_eqb}
use Rattle.algebra.specs.Flags.{found_false, found_true}
use Rattle.refusals.specs.RuleLaws.{fault_here, fault_past, fault_none}
use Rattle.refusals.specs.Testing.{refuses, passes}
use Rattle.field.specs.RangeLaws.{width_is}
use Rattle.essence.specs.Answers.{shape_rules}
use Rattle.essence.proofs.ShapeLaws.{value_count_is}
use Rattle.essence.proofs.check_shape.Goals as goal

pub returns-then-not-is_width : goal.returns-then-not-is_width
unfolding shape_rules
returns-then-not-is_width c = refuses (sym (fault_here 1 _ (found_false c.is_width.ensures c.if-not-is_width.true)))

pub returns-then-not-is_value_count : goal.returns-then-not-is_value_count
unfolding shape_rules
returns-then-not-is_value_count c =
    let w = found_true c.is_width.ensures c.if-not-is_width.false in
    refuses (sym (fault_past 1 _ w (fault_here 2 _ (found_false c.is_value_count.ensures c.if-not-is_value_count.true))))

pub overflow_sub-k : goal.overflow_sub-k
overflow_sub-k c = omega (arith, (value_count_is _ (found_true c.is_value_count.ensures c.if-not-is_value_count.false)).0)

pub power-requires : goal.power-requires
power-requires c = omega (arith, (value_count_is _ (found_true c.is_value_count.ensures c.if-not-is_value_count.false)).1)

pub returns-then-n-power : goal.returns-then-n-power
unfolding shape_rules
returns-then-n-power c =
    let w = found_true c.is_width.ensures c.if-not-is_width.false in
    let k = found_true c.is_value_count.ensures c.if-not-is_value_count.false in
    refuses (sym (fault_past 1 _ w (fault_past 2 _ k (fault_here 2 _ (ne_eqb _ _ (λ e. c.if-n-power.true (e ∙ sym c.power.ensures)))))))

pub all_elements-requires : goal.all_elements-requires
all_elements-requires c =
    width_is _ (found_true c.is_width.ensures c.if-not-is_width.false)

pub returns-then-not-all_elements : goal.returns-then-not-all_elements
unfolding shape_rules
returns-then-not-all_elements c =
    let w = found_true c.is_width.ensures c.if-not-is_width.false in
    let k = found_true c.is_value_count.ensures c.if-not-is_value_count.false in
    let n = eq-eqb _ _ (c.if-n-power.false ∙ c.power.ensures) in
    refuses (sym (fault_past 1 _ w (fault_past 2 _ k (fault_past 2 _ n (fault_here 3 _ (found_false c.all_elements.ensures c.if-not-all_elements.true))))))

pub returns : goal.returns
unfolding shape_rules
returns c =
    let w = found_true c.is_width.ensures c.if-not-is_width.false in
    let k = found_true c.is_value_count.ensures c.if-not-is_value_count.false in
    let n = eq-eqb _ _ (c.if-n-power.false ∙ c.power.ensures) in
    passes (fault_none _ (w, (k, (n, (found_true c.all_elements.ensures c.if-not-all_elements.false, tt)))))
