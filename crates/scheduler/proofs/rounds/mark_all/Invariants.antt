-- `mark_all` meets its contract, sender by sender.
use lib.ListN.{length}
use Rattle.algebra.specs.Filling.{Filling}
use Rattle.parity.specs.OfCode.{of_code}
use Rattle.scheduler.specs.Parts.{mark_at}
use Rattle.scheduler.proofs.rounds.mark_all.Given as goal

abbrev pub invariant-loop-p : goal.invariant-loop-p
invariant-loop-p l =
    Filling (of_code mark_at l.code l.waiting l.words) (length l.waiting) l.initial.marks l.marks l.p
