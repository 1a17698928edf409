-- `all_fit` meets its contract, which its body says.
use mathlib.Core.Path.{ap₂}
use mathlib.Core.Bool.{◌&&◌}
use Rattle.formula.specs.Answers.{every}
use Rattle.formula.proofs.all_fit.Goals as goal

pub returns : goal.returns
unfolding every
returns c =
    ap₂ ◌&&◌ (ap₂ ◌&&◌ (ap₂ ◌&&◌ c.fits.ensures c.fits-2.ensures) c.fits-3.ensures) c.fits-4.ensures
