-- `turn_roots` meets its contract, place by place.
use lib.ListN.{length}
use Rattle.nearest.specs.Decoding.{root_place}
use Rattle.nearest.proofs.Decoding.{Turning}
use Rattle.nearest.proofs.turn_roots.Given as goal

abbrev pub invariant-loop-j : goal.invariant-loop-j
invariant-loop-j l = Turning (length l.cols) (root_place l.polynomial l.support l.cols) l.received l.initial.word l.word l.turned l.j
