-- `internal::read` meets its contract: 12, or what is read with the message columns, and then the repaired word is copied, or nothing is.
use mathlib.Core.Path.{sym, ◌∙◌, subst}
use Prim.Native.Nat.{ℕ, ◌≤◌}
use native.Mathlib.Nat.{le_trans}
use native.Mathlib.Omega.{arith}
use Rattle.messages.specs.CodeBasis.{MessageColumns, fewer}
use Rattle.parity.specs.Selected.{columns_short}
use Rattle.parity.proofs.OfCode.{on_columns}
use Rattle.gears.specs.Rows.{row_bits}
use Rattle.rows.specs.declared.Reading.{Reading}
use Rattle.rows.specs.Parts.{ReadInto}
use Rattle.rows.proofs.Ending.{read_narrow, row_copied, refused_left}
use Rattle.slices.proofs.Room.{length_lent, filled}
use Rattle.rows.proofs.internal.read.Goals as goal

pub message_columns-k-requires : goal.message_columns-k-requires
message_columns-k-requires c =
    let O = on_columns c.args.code.now in (O, omega (arith, columns_short O))

pub returns-then-k-lt-ROW_BITS : goal.returns-then-k-lt-ROW_BITS
returns-then-k-lt-ROW_BITS c =
    let a = c.args in
    let code = a.code.now in
    let ended = read_narrow code.c code.h.now code.cols.now c.message_columns-k.ensures.number a.received.now c.if-k-lt-ROW_BITS.true
    a.repaired.now in
    record { value = ended.0; repaired_after = ended.1 }

pub slice_bounds-message-end : goal.slice_bounds-message-end
slice_bounds-message-end c =
    omega (arith, fewer c.message_columns-k.ensures, columns_short (on_columns c.args.code.now))

pub slice_bounds-read-end-2 : goal.slice_bounds-read-end-2
slice_bounds-read-end-2 c =
    let O = on_columns c.args.code.now in
    sym (length_lent (le_trans (fewer c.message_columns-k.ensures) (columns_short O)))

pub read-reading-requires : goal.read-reading-requires
read-reading-requires c =
    let a = c.args in
    let code = a.code.now in
    let found = c.message_columns-k in
    let short = columns_short (on_columns code) in
    let message_long = sym (length_lent (le_trans (fewer found.ensures) short)) in
    let columns =
    subst (MessageColumns code.c code.h.now code.cols.now found.new.leads) message_long found.ensures in
    record {
      message_columns = (columns, subst (λ (k : ℕ). row_bits ≤ k) message_long c.if-k-lt-ROW_BITS.false);
      received_len = (c.requires.0, length_lent short);
    }

pub returns-in-Read : goal.returns-in-Read
returns-in-Read c =
    let a = c.args in
    let code = a.code.now in
    let call = c.read-reading in
    let R =
    subst (λ (r : Reading). ReadInto code.c code.h.now code.cols.now a.received.now r call.new.word)
    c.in-Read.is call.ensures in
    let copied = c.copy_from_slice.ensures.after ∙ (filled (columns_short (on_columns code)) call.auto.word).front in
    record { value = call.ensures.answer; repaired_after = row_copied R a.repaired.now copied }

pub returns-in_default : goal.returns-in_default
returns-in_default c =
    let a = c.args in
    let code = a.code.now in
    let call = c.read-reading in
    let R =
    subst (λ (r : Reading). ReadInto code.c code.h.now code.cols.now a.received.now r call.new.word)
    c.in_default.is call.ensures in
    record {
      value = call.ensures.answer;
      repaired_after = refused_left R a.repaired.now;
    }
