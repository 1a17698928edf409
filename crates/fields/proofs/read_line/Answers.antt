-- `read_line` meets its contract. The loop's invariant: what is passed is stored, and the rest is as it was.
use mathlib.Core.Path.{refl}
use Prim.Native.Nat.{◌+◌, ◌*◌, ◌≤◌}
use native.Mathlib.Omega.{arith}
use lib.ListN.{length}
use Rattle.algebra.specs.Filling.{filling_start, filling_turn, filling_end}
use Rattle.fields.specs.Fields.{field_width, greatest, number_at, numbers_at}
use Rattle.fields.specs.Reading.{line_small}
use Rattle.fields.proofs.read_line.Goals as goal

pub loop-i-init : goal.loop-i-init
loop-i-init c = filling_start _ _ c.args.numbers.now refl

pub overflow_cast-number : goal.overflow_cast-number
overflow_cast-number c =
    let i = c.loop-i.i in
    let small : number_at c.args.text.now (c.args.at + i * field_width) ≤ greatest =
    line_small c.args.text.now c.args.at (length c.args.numbers.now) c.requires.1 i (omega arith) in
    omega (arith, c.value_at.ensures)

pub loop-i-preserved : goal.loop-i-preserved
loop-i-preserved c = filling_turn c.loop-i.invariant (omega arith) c.value_at.ensures

pub returns : goal.returns
unfolding numbers_at
returns c = filling_end c.loop-i.invariant (omega arith)
