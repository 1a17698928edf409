-- `ride_on` meets its contract: 12, or what the steps come to.
use native.Mathlib.Omega.{arith}
use Rattle.messages.proofs.Meaning.{room}
use Rattle.parity.specs.Selected.{columns_short}
use Rattle.parity.proofs.OfCode.{on_columns}
use Rattle.simulation.specs.Lending.{steps_in}
use Rattle.simulation.proofs.Ending.{ride_narrow, ride_starts}
use Rattle.simulation.proofs.ride_on.Goals as goal

pub code_basis-k-requires : goal.code_basis-k-requires
code_basis-k-requires c =
    let O = on_columns c.args.code.now in (O, room O _ _ (omega arith) (omega (arith, columns_short O)))

pub returns-then-k-lt-ROW_BITS : goal.returns-then-k-lt-ROW_BITS
returns-then-k-lt-ROW_BITS c =
    let a = c.args in
    let code = a.code.now in
    ride_narrow code.c code.h.now code.cols.now (steps_in a.steps.now)
    c.code_basis-k.ensures.columns.number a.counts.now c.if-k-lt-ROW_BITS.true

pub returns : goal.returns
returns c =
    let fits = c.if-k-lt-ROW_BITS.false in
    let call = c.code_basis-k in
    let a = c.args in
    let code = a.code.now in
    ride_starts code.c code.h.now code.cols.now (steps_in a.steps.now) call.ensures.columns.number
    a.counts.now fits c.make_all.ensures
