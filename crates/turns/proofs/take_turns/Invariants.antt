-- `take_turns` meets its contract, sender by sender.
use lib.ListN.{length}
use Rattle.turns.proofs.Turning.{Turning}
use Rattle.turns.proofs.take_turns.Given as goal

abbrev pub invariant-loop-sender : goal.invariant-loop-sender
invariant-loop-sender l = Turning l.repairs l.next l.initial.marks l.marks l.left l.turn (length l.yielded)
