-- `make_all` meets its contract, step by step.
use Rattle.parity.specs.OfCode.{OfCode}
use Rattle.simulation.specs.Lending.{steps_in}
use Rattle.simulation.proofs.Riding.{Riding}
use Rattle.simulation.proofs.steps.make_all.Given as goal

abbrev pub invariant-loop-i : goal.invariant-loop-i
invariant-loop-i l =
    OfCode Riding l.code (steps_in l.steps) l.i l.counts
