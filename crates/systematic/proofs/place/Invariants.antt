-- `place` meets its contract. The loop's invariant: the free places passed hold the first entries of the message, `taken` of them, the others 0,
-- and the rest is as it was.
use Rattle.systematic.proofs.Places.{Placing}
use Rattle.systematic.proofs.place.Given as goal

abbrev pub invariant-loop-j : goal.invariant-loop-j
invariant-loop-j l = Placing l.message l.leads l.initial.word l.word l.taken l.j
