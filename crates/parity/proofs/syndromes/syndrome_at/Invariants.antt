-- `syndromes::syndrome_at` meets its contract. The loop's invariant: `sum` is the sum over the places passed, and an element.
use Rattle.parity.proofs.Summing.{Summing}
use Rattle.parity.proofs.syndromes.syndrome_at.Given as goal

abbrev pub invariant-loop-j : goal.invariant-loop-j
invariant-loop-j l = Summing l.m l.h l.cols l.word l.i l.sum l.j
