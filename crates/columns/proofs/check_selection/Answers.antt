-- `check_selection` meets its contract: each return is at the first rule that does not hold.
use mathlib.Core.Path.{sym}
use Rattle.std.proofs.Common.{rules, tests}
use Prim.Native.Nat.{ℕ, ◌<◌, ◌≤◌}
use native.Mathlib.Omega.{arith}
use Rattle.algebra.specs.Flags.{found_true, found_false}
use Rattle.refusals.specs.Testing.{refuses, passes}
use Rattle.refusals.specs.RuleLaws.{fault_here, fault_past, fault_none}
use Rattle.slices.specs.Lengths.{longest}
use Rattle.columns.specs.Choice.{has_lengths, selection_rules}
use Rattle.columns.proofs.ChoiceLaws.{below_is}
use Rattle.columns.proofs.check_selection.Goals as goal

pub returns-then-not-contains-s : goal.returns-then-not-contains-s
unfolding selection_rules has_lengths
returns-then-not-contains-s c = refuses (sym (fault_here 2 _ (found_false (search (rules, tests)) c.if-not-contains-s.true)))

pub returns-then-not-all_below : goal.returns-then-not-all_below
unfolding selection_rules has_lengths
returns-then-not-all_below c = refuses (sym (fault_past 2 _ (found_true (search (rules, tests)) c.if-not-contains-s.false) (fault_here 14 _ (found_false c.all_below.ensures c.if-not-all_below.true))))

pub named_once-requires : goal.named_once-requires
named_once-requires c =
    let a = c.args in
    let few = c.requires.1 in
    λ i l. within ((below_is _ a.s.blocks.now).0 (found_true c.all_below.ensures c.if-not-all_below.false) i l) few
  where
    within : {x n : ℕ} → x < n → n ≤ longest → x < longest
    within l s = omega arith

pub returns-then-not-named_once : goal.returns-then-not-named_once
unfolding selection_rules has_lengths
returns-then-not-named_once c = refuses (sym (fault_past 2 _ (found_true (search (rules, tests)) c.if-not-contains-s.false)
    (fault_past 14 _ (found_true c.all_below.ensures c.if-not-all_below.false)
    (fault_here 14 _ (found_false c.named_once.ensures c.if-not-named_once.true)))))

pub returns-then-not-all_below-2 : goal.returns-then-not-all_below-2
unfolding selection_rules has_lengths
returns-then-not-all_below-2 c = refuses (sym (fault_past 2 _ (found_true (search (rules, tests)) c.if-not-contains-s.false)
    (fault_past 14 _ (found_true c.all_below.ensures c.if-not-all_below.false)
    (fault_past 14 _ (found_true c.named_once.ensures c.if-not-named_once.false)
    (fault_here 15 _ (found_false c.all_below-2.ensures c.if-not-all_below-2.true))))))

pub returns : goal.returns
unfolding selection_rules has_lengths
returns c = passes (fault_none _ (
  found_true (search (rules, tests)) c.if-not-contains-s.false,
  (
    found_true c.all_below.ensures c.if-not-all_below.false,
    (
      found_true c.named_once.ensures c.if-not-named_once.false,
      (found_true c.all_below-2.ensures c.if-not-all_below-2.false, tt),
    ),
  ),
))
