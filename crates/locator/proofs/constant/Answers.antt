-- `constant` meets its contract: all coefficients are 0, and then the lowest is c.
use mathlib.Core.Path.{refl}
use Rattle.locator.proofs.Loops.{constant_end}
use Rattle.locator.proofs.constant.Goals as goal

pub returns : goal.returns
returns c = constant_end refl c.args.c
