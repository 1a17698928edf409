-- What falls at each call: the length of the factors.
use lib.ListN.{length}
use Rattle.dyadic.proofs.+add_by_halves.Given as goal

abbrev pub decreases-add_by_halves : goal.decreases-add_by_halves
decreases-add_by_halves l = length l.a.now
