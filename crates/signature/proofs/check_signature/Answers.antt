-- `check_signature` meets its contract: each return is at the first condition that does not hold.
use mathlib.Core.Path.{sym}
use Rattle.refusals.specs.Answered.{done_apart}
use Rattle.refusals.specs.Testing.{refuses, passes}
use Rattle.refusals.specs.RuleLaws.{fault_here, fault_past, fault_none}
use Rattle.signature.specs.Tests.{signature_rules}
use Rattle.algebra.specs.Flags.{found_true, found_false}
use Rattle.signature.proofs.Inverses.{equal_to_first}
use Rattle.signature.proofs.check_signature.Goals as goal

pub returns-then-not-no_zero : goal.returns-then-not-no_zero
unfolding signature_rules
returns-then-not-no_zero c =
    record {
      value = refuses (sym (fault_here 4 _ (found_false c.no_zero.ensures c.if-not-no_zero.true)));
      inverted = λ z. absurd (done_apart _ z);
    }

pub returns-then-not-is_linear : goal.returns-then-not-is_linear
unfolding signature_rules
returns-then-not-is_linear c =
    let no_zero = found_true c.no_zero.ensures c.if-not-no_zero.false in
    record {
      value = refuses (sym (fault_past 4 _ no_zero (fault_here 5 _ (found_false c.is_linear.ensures.value c.if-not-is_linear.true))));
      inverted = λ z. absurd (done_apart _ z);
    }

pub all_different-requires : goal.all_different-requires
all_different-requires c =
    let no_zero = found_true c.no_zero.ensures c.if-not-no_zero.false in
    equal_to_first c.requires no_zero (found_true c.is_linear.ensures.value c.if-not-is_linear.false)

pub returns-then-not-all_different : goal.returns-then-not-all_different
unfolding signature_rules
returns-then-not-all_different c =
    let no_zero = found_true c.no_zero.ensures c.if-not-no_zero.false in
    let linear = found_true c.is_linear.ensures.value c.if-not-is_linear.false in
    let unequal = found_false c.all_different.ensures c.if-not-all_different.true in
    record {
      value = refuses (sym (fault_past 4 _ no_zero (fault_past 5 _ linear (fault_here 6 _ unequal))));
      inverted = λ z. absurd (done_apart _ z);
    }

pub returns : goal.returns
unfolding signature_rules
returns c =
    let no_zero = found_true c.no_zero.ensures c.if-not-no_zero.false in
    let linear = found_true c.is_linear.ensures.value c.if-not-is_linear.false in
    let unequal = found_true c.all_different.ensures c.if-not-all_different.false in
    record {
      value = passes (fault_none _ (no_zero, (linear, (unequal, tt))));
      inverted = λ z. c.is_linear.ensures.inverted;
    }
