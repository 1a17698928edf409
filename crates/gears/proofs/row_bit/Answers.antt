-- `row_bit` meets its contract, by where the place is.
use mathlib.Core.Path.{sym}
use Rattle.algebra.specs.Bits.{bit_at}
use Rattle.gears.specs.Messages.{row_bit-gear, row_bit-lamp, row_bit_further}
use Rattle.gears.proofs.row_bit.Goals as goal

pub returns-then-place-lt-GEAR_BITS : goal.returns-then-place-lt-GEAR_BITS
unfolding bit_at
returns-then-place-lt-GEAR_BITS c =
    let a = c.args in
    sym (row_bit-gear a.gear a.lamp a.place c.if-place-lt-GEAR_BITS.true)

pub returns-then-place-lt-ROW_BITS : goal.returns-then-place-lt-ROW_BITS
unfolding bit_at
returns-then-place-lt-ROW_BITS c =
    let a = c.args in
    sym (row_bit-lamp a.gear a.lamp a.place c.if-place-lt-GEAR_BITS.false c.if-place-lt-ROW_BITS.true)

pub returns : goal.returns
returns c =
    let a = c.args in
    sym (row_bit_further a.gear a.lamp a.place c.if-place-lt-ROW_BITS.false)
