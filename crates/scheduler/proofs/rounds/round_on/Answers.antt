-- `round_on` meets its contract: the number that refuses the state, or the round that was made.
use mathlib.Core.Path.{sym}
use lib.ListN.{length, replicate}
use lib.Seq.{length-take-le}
use Rattle.turns.specs.declared.Mark.TheVariants.{Stays}
use Rattle.scheduler.specs.State.{most_senders}
use Rattle.scheduler.proofs.Rounding.{round_refused, round_few, round_lent, round_made}
use Rattle.scheduler.proofs.rounds.round_on.Goals as goal

pub returns-in_err-check_state : goal.returns-in_err-check_state
returns-in_err-check_state c =
    round_refused _ _ _ c.requires _ c.in_err-check_state.ensures c.from_residual.ensures.1

pub slice_bounds-marks-end : goal.slice_bounds-marks-end
slice_bounds-marks-end c =
    round_few c.args.code.now.cols.now c.requires c.in_ok-check_state.ensures

pub slice_bounds-make-end : goal.slice_bounds-make-end
slice_bounds-make-end c =
    sym (length-take-le (length c.args.waiting.now) (replicate most_senders Stays) (round_few c.args.code.now.cols.now c.requires c.in_ok-check_state.ensures))

pub make-requires : goal.make-requires
make-requires c =
    let few = round_few c.args.code.now.cols.now c.requires c.in_ok-check_state.ensures in
    round_lent c.args.code.now.cols.now c.requires c.in_ok-check_state.ensures (length-take-le (length c.args.waiting.now) (replicate most_senders Stays) few)

pub returns : goal.returns
returns c =
    round_made _ _ _ c.requires c.in_ok-check_state.ensures c.make.ensures
