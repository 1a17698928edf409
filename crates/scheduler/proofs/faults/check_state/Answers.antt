-- `faults::check_state` meets its contract: each return is at the first rule that does not hold.
use mathlib.Core.Path.{sym}
use Rattle.algebra.specs.Flags.{found_false, found_true}
use Rattle.refusals.specs.Outcome.{Done}
use Rattle.refusals.specs.Testing.{refuses, passes, first_passed_on}
use Rattle.scheduler.specs.State.{dash_rules}
use Rattle.scheduler.proofs.Refusing.{dash_passes, state_nobody, state_not_marks, state_not_words, state_none}
use Rattle.scheduler.proofs.faults.check_state.Goals as goal

pub returns-in_err-check_dash : goal.returns-in_err-check_dash
returns-in_err-check_dash c =
    first_passed_on (dash_rules c.args.d) _ _ Done c.in_err-check_dash.ensures c.from_residual.ensures.1

pub returns-then-d-next : goal.returns-then-d-next
returns-then-d-next c =
    let a = c.args in
    refuses (dash_passes a.d _ c.in_ok-check_dash.ensures
    (state_nobody a.d a.n a.waiting.now a.words.now a.next c.if-d-next.true))

pub returns-then-not-all_bits : goal.returns-then-not-all_bits
returns-then-not-all_bits c =
    let a = c.args in
    refuses (dash_passes a.d _ c.in_ok-check_dash.ensures
    (state_not_marks a.d a.n a.waiting.now a.words.now a.next c.if-d-next.false
    (found_false c.all_bits.ensures c.if-not-all_bits.true)))

pub returns-then-not-are_words : goal.returns-then-not-are_words
returns-then-not-are_words c =
    let a = c.args in
    refuses (dash_passes a.d _ c.in_ok-check_dash.ensures
    (state_not_words a.d a.n a.waiting.now a.words.now a.next c.if-d-next.false c.requires.0
    (found_true c.all_bits.ensures c.if-not-all_bits.false) (found_false c.are_words.ensures c.if-not-are_words.true)))

pub returns : goal.returns
returns c =
    let a = c.args in
    passes (sym (dash_passes a.d _ c.in_ok-check_dash.ensures
    (state_none a.d a.n a.waiting.now a.words.now a.next c.if-d-next.false c.requires.0
    (found_true c.all_bits.ensures c.if-not-all_bits.false) (found_true c.are_words.ensures c.if-not-are_words.false))))
