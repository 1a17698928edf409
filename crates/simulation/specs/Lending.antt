-- The steps that are lent to a ride, as the definitions have them.
use Rattle.simulation.specs.declared.steps.Steps.{Steps as Lent}
use Rattle.simulation.specs.Steps.{Steps, steps_of}

abbrev pub steps_in : Lent → Steps
steps_in s = steps_of s.gears.now s.lamps.now s.turned.now
