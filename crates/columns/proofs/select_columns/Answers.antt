-- `select_columns` meets its contract, place by place.
use mathlib.Core.Path.{refl}
use mathlib.Core.List.{List}
use Prim.Native.Nat.{ℕ, ◌*◌, ◌/◌, ◌<◌}
use native.Mathlib.Nat.{div-lt_iff_lt-mul}
use native.Mathlib.Omega.{arith}
use lib.ListN.{length}
use Rattle.algebra.specs.Filling.{filling_start, filling_turn, filling_end}
use Rattle.columns.specs.Listed.{Selecting}
use Rattle.columns.specs.Choice.{selected_column}
use Rattle.columns.proofs.select_columns.Goals as goal

-- the block that a place stands in
in_block : {t : ℕ} {blocks shifts : List ℕ} → Selecting t blocks shifts → (j : ℕ) → j < length blocks * t → j / t < length blocks
in_block S j l = (div-lt_iff_lt-mul S.some).1 l

pub loop-j-init : goal.loop-j-init
loop-j-init c =
    let a = c.args in
    (c.requires.0, c.requires.1, filling_start (selected_column a.t a.s.blocks.now a.s.shifts.now) (length a.columns.now) a.columns.now refl)

pub column_of-requires : goal.column_of-requires
unfolding selected_column
column_of-requires c =
    let (S, long, F) = c.loop-j.invariant in S.short c.loop-j.j (omega (arith, long, c.loop-j-test.true))

pub loop-j-preserved : goal.loop-j-preserved
unfolding selected_column
loop-j-preserved c =
    let (S, long, F) = c.loop-j.invariant in (S, long, filling_turn F c.loop-j-test.true c.column_of.ensures)

pub returns : goal.returns
returns c = filling_end c.loop-j.invariant.2 c.loop-j-test.false
