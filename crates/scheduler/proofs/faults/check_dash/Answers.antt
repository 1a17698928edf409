-- `faults::check_dash` meets its contract: 18, or nothing.
use mathlib.Core.Path.{sym}
use Rattle.std.proofs.Common.{rules, tests}
use Rattle.algebra.specs.Flags.{found_false, found_true}
use Rattle.refusals.specs.RuleLaws.{fault_here, fault_past, fault_none}
use Rattle.refusals.specs.Testing.{refuses, passes}
use Rattle.scheduler.specs.State.{dash_rules}
use Rattle.scheduler.proofs.faults.check_dash.Goals as goal

pub returns-then-not-contains : goal.returns-then-not-contains
unfolding dash_rules
returns-then-not-contains c = refuses (sym (fault_here 18 _ (found_false (search (rules, tests)) c.if-not-contains.true)))

pub returns-then-not-contains-2 : goal.returns-then-not-contains-2
unfolding dash_rules
returns-then-not-contains-2 c = refuses (sym (fault_past 18 _ (found_true (search (rules, tests)) c.if-not-contains.false) (fault_here 18 _ (found_false (search (rules, tests)) c.if-not-contains-2.true))))

pub returns : goal.returns
unfolding dash_rules
returns c = passes (fault_none _ (found_true (search (rules, tests)) c.if-not-contains.false, (found_true (search (rules, tests)) c.if-not-contains-2.false, tt)))
