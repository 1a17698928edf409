-- `internal::write` meets its contract: 12, 11, or the row's word.
use mathlib.Core.Path.{sym, ap, ap₂, ◌∙◌, subst}
use Prim.Native.Nat.{ℕ}
use native.Mathlib.Nat.{le_of_eq, le_trans}
use native.Mathlib.Omega.{arith}
use Rattle.basis.specs.Table.{free_count, Form}
use Rattle.messages.specs.CodeBasis.{counted, fewer}
use Rattle.messages.proofs.Meaning.{room}
use Rattle.parity.specs.Selected.{columns_short}
use Rattle.parity.proofs.OfCode.{on_columns}
use Rattle.slices.proofs.Room.{length_lent}
use Rattle.gears.proofs.AllowedRows.{not_allowed, is_allowed, row_parts}
use Rattle.rows.specs.Answers.{row_word}
use Rattle.rows.proofs.Ending.{write_narrow, write_no_row, write_fits, row_carried}
use Rattle.rows.proofs.internal.write.Goals as goal

pub code_basis-k-requires : goal.code_basis-k-requires
code_basis-k-requires c =
    let O = on_columns c.args.code.now in (O, room O _ _ (omega arith) (omega (arith, columns_short O)))

pub returns-then-k-lt-ROW_BITS : goal.returns-then-k-lt-ROW_BITS
returns-then-k-lt-ROW_BITS c =
    let a = c.args in
    let code = a.code.now in
    write_narrow code.c code.h.now code.cols.now c.code_basis-k.ensures.columns.number a.gear a.lamp
    a.word.now c.if-k-lt-ROW_BITS.true

pub returns-in_default : goal.returns-in_default
returns-in_default c =
    let a = c.args in
    let code = a.code.now in
    write_no_row code.c code.h.now code.cols.now c.code_basis-k.ensures.columns.number a.gear
    a.lamp a.word.now c.if-k-lt-ROW_BITS.false
    (not_allowed a.gear a.lamp c.allowed.ensures.none c.in_default.is)

pub slice_bounds-message-end : goal.slice_bounds-message-end
slice_bounds-message-end c =
    omega (
      arith,
      fewer c.code_basis-k.ensures.columns,
      columns_short (on_columns c.args.code.now),
    )

pub slice_bounds-write-end-3 : goal.slice_bounds-write-end-3
slice_bounds-write-end-3 c =
    sym (length_lent (le_trans (fewer c.code_basis-k.ensures.columns)
    (columns_short (on_columns c.args.code.now))))

pub write-requires : goal.write-requires
write-requires c =
    let found = c.code_basis-k in
    let B = found.ensures in
    let leads = found.new.leads in
    let long = length_lent (le_trans (fewer B.columns) (columns_short (on_columns c.args.code.now))) in (
      subst (λ (k : ℕ). Form k found.new.rows leads) (sym c.requires) B.form,
      le_of_eq (ap (λ (k : ℕ). free_count k leads) c.requires ∙ sym (counted B.columns) ∙ sym long),
    )

pub returns : goal.returns
returns c =
    let a = c.args in
    let code = a.code.now in
    let B = c.code_basis-k.ensures in
    let written = c.write in
    let row = c.in-Some.row in
    let (gear_is, lamp_is) = row_parts a.gear a.lamp c.allowed.ensures.row c.in-Some.is in
    let long = length_lent (le_trans (fewer B.columns) (columns_short (on_columns code))) in
    write_fits code.c code.h.now code.cols.now B.columns.number a.gear a.lamp a.word.now
    c.if-k-lt-ROW_BITS.false
    (is_allowed a.gear a.lamp c.allowed.ensures.none c.in-Some.is)
    (row_carried B row.gear c.into.result long c.requires written.auto.word written.ensures
    ∙ ap₂ (row_word code.c code.h.now code.cols.now) gear_is (c.into.ensures.0 ∙ lamp_is))
