-- `make` meets its contract: what its parts did, put together.
use Rattle.scheduler.proofs.Making.{turn_small, making_hands, making}
use Rattle.scheduler.proofs.rounds.make.Goals as goal

pub hand_out-requires : goal.hand_out-requires
hand_out-requires c =
    making_hands _ _ _ c.args.repairs c.requires c.mark_all.ensures c.take_turns-turn.ensures.marks_after

pub overflow_cast-next-2 : goal.overflow_cast-next-2
overflow_cast-next-2 c =
    record { fits = turn_small _ _ _ c.args.repairs c.requires c.mark_all.ensures c.take_turns-turn.ensures.value }

pub returns : goal.returns
returns c =
    let record { value = turn; marks_after = taken } = c.take_turns-turn.ensures in
    let record { answers_after = answers; handed_after = handed } = c.hand_out.ensures in
    making _ _ _ c.args.repairs c.requires c.mark_all.ensures taken turn c.dismiss.ensures answers handed
