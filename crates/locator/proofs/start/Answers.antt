-- `start` meets its contract: 1 is of degree 0, and x is of degree 1.
use native.Mathlib.Omega.{arith}
use Rattle.locator.proofs.Turns.{one_pair, x_pair}
use Rattle.locator.proofs.start.Goals as goal

pub invariant_of-first : goal.invariant_of-first
invariant_of-first c = record { width = c.requires; fits = omega arith; pair = one_pair c.requires c.constant.ensures c.constant-2.ensures }

pub invariant_of-second : goal.invariant_of-second
invariant_of-second c = record { width = c.requires; fits = omega arith; pair = x_pair c.requires c.constant-3.ensures c.constant-4.ensures }
