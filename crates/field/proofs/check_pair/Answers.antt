-- `check_pair` meets its contract: the first element's number stands, and where there is none the second is looked at.
use mathlib.Core.Path.{sym, ◌∙◌}
use mathlib.Core.List.{[], ◌∷◌}
use Rattle.algebra.specs.Flags.{found_false, found_true}
use Rattle.refusals.specs.Ending.{first_refuses}
use Rattle.refusals.specs.Outcome.{Done, Refused}
use Rattle.refusals.specs.Rules.{◌unless◌}
use Rattle.refusals.specs.RuleLaws.{fault_here, fault_none, fault_rest}
use Rattle.refusals.specs.Testing.{refuses, passes, tested_none, tested_due}
use Rattle.field.specs.Range.{is_element}
use Rattle.field.specs.Answers.{element_rules, element_fault, pair_fault}
use Rattle.field.proofs.Checked.{element_checked}
use Rattle.field.proofs.check_pair.Goals as goal

pub returns-in-Err : goal.returns-in-Err
unfolding element_fault pair_fault
returns-in-Err c =
    let a = c.args in
    let (ne, due) = tested_due (sym c.in-Err.is ∙ c.check_element.ensures) in
    first_refuses (element_rules a.m a.a) ((3 unless is_element a.m a.b) ∷ []) Refused Done due ne

pub is_element-requires : goal.is_element-requires
is_element-requires c = let a = c.args in (element_checked a.m a.a (tested_none (sym c.in_default.is ∙ c.check_element.ensures))).0

pub returns-then-not-is_element : goal.returns-then-not-is_element
unfolding element_fault pair_fault element_rules
returns-then-not-is_element c =
    let a = c.args in
    let none = tested_none (sym c.in_default.is ∙ c.check_element.ensures) in
    refuses (sym (fault_rest (element_rules a.m a.a) _ tt none ∙ fault_here 3 [] (found_false c.is_element.ensures c.if-not-is_element.true)))

pub returns : goal.returns
unfolding element_fault pair_fault element_rules
returns c =
    let a = c.args in
    let none = tested_none (sym c.in_default.is ∙ c.check_element.ensures) in
    passes (fault_rest (element_rules a.m a.a) _ tt none ∙ fault_none _ (found_true c.is_element.ensures c.if-not-is_element.false, tt))
