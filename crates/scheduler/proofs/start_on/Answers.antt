-- `start_on` meets its contract: 18, or all marks cleared and the turn at 0.
use Rattle.scheduler.proofs.Beginning.{start_refused, start_done}
use Rattle.scheduler.proofs.start_on.Goals as goal

pub returns-in_err-check_dash : goal.returns-in_err-check_dash
returns-in_err-check_dash c =
    let a = c.args in
    start_refused a.d a.waiting.now a.next.now _ c.in_err-check_dash.ensures c.from_residual.ensures.1

pub returns : goal.returns
returns c =
    let a = c.args in
    start_done a.d a.waiting.now a.next.now c.in_ok-check_dash.ensures c.requires.0 c.requires.1 (c.fill.ensures.after (λ y e. e))
