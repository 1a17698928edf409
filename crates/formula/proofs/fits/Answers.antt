-- `fits` meets its contract, which its body says.
use mathlib.Core.Path.{ap}
use mathlib.Core.Bool.{Bool, ◌||◌}
use lib.Dec.{eqb}
use lib.ListN.{length}
use Rattle.formula.specs.Answers.{fits_buffer}
use Rattle.formula.proofs.fits.Goals as goal

pub returns : goal.returns
unfolding fits_buffer
returns c = ap (λ (b : Bool). b || eqb (length c.args.a.now) c.args.n) c.is_empty.ensures
