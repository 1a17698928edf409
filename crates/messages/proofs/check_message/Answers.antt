-- `check_message` meets its contract: each return is at the first rule that does not hold.
use mathlib.Core.Path.{sym}
use borrow.Author.Tests.{eq-eqb, ne_eqb}
use Rattle.algebra.specs.Flags.{found_false, found_true}
use Rattle.refusals.specs.RuleLaws.{fault_here, fault_past, fault_none}
use Rattle.refusals.specs.Testing.{refuses, passes}
use Rattle.messages.specs.MessageRules.{message_rules}
use Rattle.messages.proofs.check_message.Goals as goal

pub returns-then-long-k : goal.returns-then-long-k
unfolding message_rules
returns-then-long-k c = refuses (sym (fault_here 2 _ (ne_eqb _ _ c.if-long-k.true)))

pub returns-then-not-all_bits : goal.returns-then-not-all_bits
unfolding message_rules
returns-then-not-all_bits c =
    refuses (sym (fault_past 2 _ (eq-eqb _ _ c.if-long-k.false) (fault_here 8 _ (found_false c.all_bits.ensures c.if-not-all_bits.true))))

pub returns : goal.returns
unfolding message_rules
returns c = passes (fault_none _ (eq-eqb _ _ c.if-long-k.false, (found_true c.all_bits.ensures c.if-not-all_bits.false, tt)))
