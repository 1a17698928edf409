-- `hand_out` meets its contract, sender by sender.
use lib.ListN.{length}
use Rattle.algebra.specs.Filling.{Filling}
use Rattle.turns.specs.Marks.{mark_in}
use Rattle.algebra.specs.Parts.{part}
use Rattle.algebra.specs.PartLaws.{Replacing}
use Rattle.parity.specs.OfCode.{of_code}
use Rattle.scheduler.specs.Parts.{answer_of, handed_of}
use Rattle.scheduler.proofs.rounds.hand_out.Given as goal

abbrev pub invariant-loop-p : goal.invariant-loop-p
invariant-loop-p l =
    Filling (λ i. of_code answer_of l.code (mark_in l.marks i) (part (length l.code.cols.now) l.words i)) (length l.marks) l.initial.answers l.answers l.p
    × Replacing (length l.code.cols.now) (λ i. of_code handed_of l.code (mark_in l.marks i) (part (length l.code.cols.now) l.words i) (part (length l.code.cols.now) l.initial.handed i)) (length l.marks)
    l.initial.handed l.handed l.p
