-- `locate` meets its contract. The loop's invariant: the pass after the roots so far.
use lib.ListN.{length}
use Rattle.locator.specs.Coefficients.{Passed}
use Rattle.locator.proofs.locate.Given as goal

abbrev pub invariant-loop-root : goal.invariant-loop-root
invariant-loop-root l = Passed l.m l.roots l.syndrome (length l.yielded) l.first l.second
