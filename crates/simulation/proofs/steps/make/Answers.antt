-- `make` meets its contract: the row that is sent is read, and compared with what was sent.
use mathlib.Core.Path.{sym, ap, ◌∙◌, subst}
use mathlib.Core.List.{List}
use Prim.Native.Nat.{ℕ, ◌≤◌}
use native.Mathlib.Nat.{le_of_eq, le_trans}
use lib.ListN.{length}
use Rattle.basis.specs.Table.{free_count, Form}
use Rattle.slices.specs.Lengths.{longest}
use Rattle.slices.proofs.Room.{length_lent, filled}
use Rattle.messages.specs.CodeBasis.{CodeBasis, MessageColumns, counted, fewer}
use Rattle.parity.specs.declared.Code.{Code}
use Rattle.parity.specs.Selected.{columns_short}
use Rattle.parity.proofs.OfCode.{on_columns}
use Rattle.gears.specs.Rows.{row_bits, lamp_number}
use Rattle.rows.specs.Answers.{reading_answer}
use Rattle.simulation.specs.Ride.{verdict_of, step_verdict}
use Rattle.simulation.proofs.Sending.{sent_is}
use Rattle.simulation.proofs.steps.make.Goals as goal

-- there is room for the word, and for the message
short : (code : Code) → length code.cols.now ≤ longest
short code = columns_short (on_columns code)

short_message : (code : Code) {rows leads : List ℕ} {k : ℕ} → CodeBasis code.c code.h.now code.cols.now rows leads k → k ≤ longest
short_message code B = le_trans (fewer B.columns) (short code)

pub slice_bounds-message-end : goal.slice_bounds-message-end
slice_bounds-message-end c = short_message c.args.code.now c.requires.code_basis.0

pub slice_bounds-send-end : goal.slice_bounds-send-end
slice_bounds-send-end c = sym (length_lent (short_message c.args.code.now c.requires.code_basis.0))

pub send-requires : goal.send-requires
send-requires c =
    let s = c.requires in
    let a = c.args in
    let code = a.code.now in
    let B = s.code_basis.0 in
    let word_long = length_lent (short code) in
    let message_long = length_lent (short_message code B) in
    record {
      form = (
        subst (λ (n : ℕ). Form n a.basis.now.rows a.basis.now.leads) (sym word_long) B.form,
        le_of_eq (ap (λ (n : ℕ). free_count n a.basis.now.leads) word_long ∙ sym (counted B.columns) ∙ sym message_long),
      );
      bits = (s.bits.0, s.bits.1 ∙ sym word_long);
    }

pub slice_bounds-message-end-2 : goal.slice_bounds-message-end-2
slice_bounds-message-end-2 c = (filled (short_message c.args.code.now c.requires.code_basis.0) c.send.auto.message).fits

pub slice_bounds-read-end-3 : goal.slice_bounds-read-end-3
slice_bounds-read-end-3 c = sym (filled (short_message c.args.code.now c.requires.code_basis.0) c.send.auto.message).length_front

pub read-reading-requires : goal.read-reading-requires
read-reading-requires c =
    let s = c.requires in
    let a = c.args in
    let code = a.code.now in
    let B = s.code_basis.0 in
    let fits = short code in
    let message_long = (filled (short_message code B) c.send.auto.message).length_front in
    record {
      message_columns = (
        subst (λ (k : ℕ). MessageColumns code.c code.h.now code.cols.now a.basis.now.leads k) (sym message_long) B.columns,
        subst (λ (k : ℕ). row_bits ≤ k) (sym message_long) s.code_basis.1,
      );
      received_len = ((filled fits c.send.auto.word).length_front, length_lent fits);
    }

pub returns : goal.returns
unfolding step_verdict
returns c =
    let s = c.requires in
    let a = c.args in
    let code = a.code.now in
    let B = s.code_basis.0 in
    let fits = short code in
    let gear = a.row.gear in
    let lamp = lamp_number a.row.lamp in
    let word_is = sent_is B gear lamp (length_lent (short_message code B)) (length_lent fits) c.send.ensures in
    c.verdict.ensures
    ∙ ap (verdict_of gear lamp)
    (c.read-reading.ensures.answer ∙ ap (reading_answer code.c code.h.now code.cols.now) ((filled fits c.send.auto.word).front ∙ word_is))
