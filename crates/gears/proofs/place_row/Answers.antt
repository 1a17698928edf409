-- `place_row` meets its contract, place by place.
use mathlib.Core.Path.{refl}
use native.Mathlib.Omega.{arith}
use Rattle.algebra.specs.Filling.{filling_start, filling_turn, filling_end}
use Rattle.gears.specs.Rows.{row_message}
use Rattle.gears.proofs.place_row.Goals as goal

pub loop-j-init : goal.loop-j-init
loop-j-init c = filling_start _ _ _ refl

pub loop-j-preserved : goal.loop-j-preserved
loop-j-preserved c = filling_turn c.loop-j.invariant (omega arith) c.row_bit.ensures

pub returns : goal.returns
unfolding row_message
returns c = filling_end c.loop-j.invariant (omega arith)
