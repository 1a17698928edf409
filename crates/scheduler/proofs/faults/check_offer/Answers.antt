-- `faults::check_offer` meets its contract: each return is at the first rule that does not hold.
use native.Mathlib.Omega.{arith}
use mathlib.Core.Path.{sym}
use Rattle.algebra.specs.Flags.{found_false, found_true}
use Rattle.refusals.specs.Outcome.{Done}
use Rattle.refusals.specs.Testing.{refuses, passes, first_passed_on}
use Rattle.scheduler.specs.State.{dash_rules}
use Rattle.scheduler.proofs.Refusing.{dash_passes, offer_nobody, offer_waits, offer_not_bits, offer_none}
use Rattle.scheduler.proofs.faults.check_offer.Goals as goal

pub returns-in_err-check_dash : goal.returns-in_err-check_dash
returns-in_err-check_dash c =
    first_passed_on (dash_rules c.args.d) _ _ Done c.in_err-check_dash.ensures c.from_residual.ensures.1

pub returns-then-waiting-sender : goal.returns-then-waiting-sender
returns-then-waiting-sender c =
    let a = c.args in
    refuses (dash_passes a.d _ c.in_ok-check_dash.ensures
    (offer_nobody a.d a.sender a.word.now a.waiting.now (omega arith)))

pub returns-then-waits : goal.returns-then-waits
returns-then-waits c =
    let a = c.args in
    refuses (dash_passes a.d _ c.in_ok-check_dash.ensures
    (offer_waits a.d a.sender a.word.now a.waiting.now (omega arith) c.if-waits.true))

pub returns-then-not-all_bits : goal.returns-then-not-all_bits
returns-then-not-all_bits c =
    let a = c.args in
    refuses (dash_passes a.d _ c.in_ok-check_dash.ensures
    (offer_not_bits a.d a.sender a.word.now a.waiting.now (omega arith) c.if-waits.false
    (found_false c.all_bits.ensures c.if-not-all_bits.true)))

pub returns : goal.returns
returns c =
    let a = c.args in
    passes (sym (dash_passes a.d _ c.in_ok-check_dash.ensures
    (offer_none a.d a.sender a.word.now a.waiting.now (omega arith) c.if-waits.false
    (found_true c.all_bits.ensures c.if-not-all_bits.false))))
