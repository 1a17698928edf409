-- `syndromes::syndrome` meets its contract, row by row.
use lib.ListN.{length}
use Rattle.algebra.specs.Filling.{Filling}
use Rattle.parity.specs.Parity.{signature_sum}
use Rattle.parity.proofs.syndromes.syndrome.Given as goal

abbrev pub invariant-loop-i : goal.invariant-loop-i
invariant-loop-i l = Filling (signature_sum l.m l.h l.cols l.word) (length l.initial.out) l.initial.out l.out l.i
