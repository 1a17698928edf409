-- `check_size` meets its contract: each return is at the first rule that does not hold.
use mathlib.Core.Path.{sym}
use borrow.Author.Tests.{eq-eqb, ne_eqb}
use Rattle.algebra.specs.Flags.{found_false, found_true}
use Rattle.refusals.specs.RuleLaws.{fault_here, fault_past, fault_none}
use Rattle.refusals.specs.Testing.{refuses, passes}
use Rattle.blocks.specs.Answers.{size_rules, size_fault}
use Rattle.blocks.proofs.check_size.Goals as goal

pub returns-then-not-is_width : goal.returns-then-not-is_width
unfolding size_fault size_rules
returns-then-not-is_width c = refuses (sym (fault_here 1 _ (found_false c.is_width.ensures c.if-not-is_width.true)))

pub returns-then-not-is_power : goal.returns-then-not-is_power
unfolding size_fault size_rules
returns-then-not-is_power c =
    let w = found_true c.is_width.ensures c.if-not-is_width.false in
    refuses (sym (fault_past 1 _ w (fault_here 2 _ (found_false c.is_power.ensures c.if-not-is_power.true))))

pub returns-then-n-s : goal.returns-then-n-s
unfolding size_fault size_rules
returns-then-n-s c =
    let w = found_true c.is_width.ensures c.if-not-is_width.false in
    let p = found_true c.is_power.ensures c.if-not-is_power.false in
    refuses (sym (fault_past 1 _ w (fault_past 2 _ p (fault_here 2 _ (ne_eqb _ _ c.if-n-s.true)))))

pub returns : goal.returns
unfolding size_fault size_rules
returns c =
    let w = found_true c.is_width.ensures c.if-not-is_width.false in
    let p = found_true c.is_power.ensures c.if-not-is_power.false in
    passes (fault_none _ (w, (p, (eq-eqb _ _ c.if-n-s.false, tt))))
