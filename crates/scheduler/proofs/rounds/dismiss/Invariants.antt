-- `dismiss` meets its contract, sender by sender.
use lib.ListN.{length}
use Rattle.algebra.specs.Filling.{Filling}
use Rattle.scheduler.proofs.Handing.{kept_mark}
use Rattle.scheduler.proofs.rounds.dismiss.Given as goal

abbrev pub invariant-loop-p : goal.invariant-loop-p
invariant-loop-p l =
    Filling (kept_mark l.marks l.initial.waiting) (length l.initial.waiting) l.initial.waiting l.waiting l.p
