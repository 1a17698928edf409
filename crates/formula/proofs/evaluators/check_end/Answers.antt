-- `check_end` meets its contract: each return is at the first rule that does not hold.
use mathlib.Core.Path.{sym}
use borrow.Author.Tests.{eq-eqb, ne_eqb}
use Rattle.refusals.specs.RuleLaws.{fault_here, fault_past, fault_none}
use Rattle.refusals.specs.Testing.{refuses, passes}
use Rattle.formula.proofs.evaluators.check_end.Goals as goal

pub returns-then-not-whole : goal.returns-then-not-whole
returns-then-not-whole c = refuses (sym (fault_here 16 _ (ne_eqb _ _ c.if-not-whole.true)))

pub returns-then-not-exists : goal.returns-then-not-exists
returns-then-not-exists c = refuses (sym (fault_past 16 _ (eq-eqb _ _ c.if-not-whole.false) (fault_here 9 _ c.if-not-exists.true)))

pub returns : goal.returns
returns c = passes (fault_none _ (eq-eqb _ _ c.if-not-whole.false, (c.if-not-exists.false, tt)))
