-- `check_marks` meets its contract: each return is at the first rule that does not hold.
use mathlib.Core.Path.{refl, sym}
use Rattle.algebra.specs.Flags.{found_true, found_false}
use Rattle.refusals.specs.Testing.{refuses, passes}
use Rattle.refusals.specs.RuleLaws.{fault_here, fault_past, fault_none}
use Rattle.shortened.specs.Marks.{mark_rules}
use Rattle.shortened.proofs.check_marks.Goals as goal

pub returns-then-not-all_bits : goal.returns-then-not-all_bits
unfolding mark_rules
returns-then-not-all_bits c = refuses (sym (fault_here 20 _ (found_false c.all_bits.ensures c.if-not-all_bits.true)))

pub returns-then-not-hides_messages : goal.returns-then-not-hides_messages
unfolding mark_rules
returns-then-not-hides_messages c = refuses (sym (fault_past 20 _ (found_true c.all_bits.ensures c.if-not-all_bits.false)
    (fault_here 20 _ (found_false c.hides_messages.ensures c.if-not-hides_messages.true))))

pub returns-then-not-words : goal.returns-then-not-words
unfolding mark_rules
returns-then-not-words c = refuses (sym (fault_past 20 _ (found_true c.all_bits.ensures c.if-not-all_bits.false)
    (fault_past 20 _ (found_true c.hides_messages.ensures c.if-not-hides_messages.false) (fault_here 2 _ (found_false refl c.if-not-words.true)))))

pub returns : goal.returns
unfolding mark_rules
returns c = passes (fault_none _ (
  found_true c.all_bits.ensures c.if-not-all_bits.false,
  (found_true c.hides_messages.ensures c.if-not-hides_messages.false, (found_true refl c.if-not-words.false, tt)),
))
