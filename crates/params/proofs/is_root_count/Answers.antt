-- `is_root_count` meets its contract.
use mathlib.Core.Path.{ap}
use mathlib.Core.Bool.{Bool, ◌&&◌}
use Prim.Native.Nat.{◌/◌}
use lib.Dec.{leb}
use Rattle.params.specs.Code.{is_root_count}
use Rattle.params.proofs.is_root_count.Goals as goal

pub returns : goal.returns
unfolding is_root_count
returns c = ap (λ (b : Bool). b && leb c.args.t (c.args.n / 2)) c.is_power.ensures
