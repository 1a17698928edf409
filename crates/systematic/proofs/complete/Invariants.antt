-- `complete` meets its contract. The loop's invariant: from place p on the entries at the rows' places are as the rows say, and every entry without
-- a row is as it was.
use Rattle.systematic.proofs.Places.{Completing}
use Rattle.systematic.proofs.complete.Given as goal

abbrev pub invariant-loop-p : goal.invariant-loop-p
invariant-loop-p l = Completing l.rows l.leads l.initial.word l.word l.p
