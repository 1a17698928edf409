-- `is_length` meets its contract.
use mathlib.Core.Path.{ap}
use mathlib.Core.Bool.{Bool, ◌&&◌}
use lib.Dec.{leb}
use Rattle.params.specs.Code.{is_length}
use Rattle.params.proofs.is_length.Goals as goal

pub returns : goal.returns
unfolding is_length
returns c = ap (λ (b : Bool). leb 2 c.args.n && b) c.is_power.ensures
