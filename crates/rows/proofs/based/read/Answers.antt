-- `based::read` meets its contract: the repair's refusal, or what the repaired word carries.
use mathlib.Core.Path.{sym, ap, ◌∙◌, subst}
use Prim.Native.Nat.{ℕ, ◌≤◌}
use lib.ListN.{length}
use Rattle.algebra.specs.Flags.{found_false, found_true}
use Rattle.basis.specs.Table.{free_count}
use Rattle.messages.specs.CodeBasis.{counted}
use Rattle.rows.proofs.Ending.{not_repaired, no_row, row_found, taken_out}
use Rattle.rows.proofs.based.read.Goals as goal

pub returns-in_default : goal.returns-in_default
returns-in_default c =
    let a = c.args in
    let code = a.code.now in
    not_repaired code.c code.h.now code.cols.now c.requires.message_columns.0.number a.received.now c.requires.message_columns.1
    c.decode-recovery.ensures (c.in_default.is ∙ c.in-Refused.is)

pub take_out-requires : goal.take_out-requires
take_out-requires c =
    let leads = c.args.leads.now in
    let M = c.requires.message_columns.0 in
    let long = c.decode-recovery.auto.word ∙ c.requires.received_len.1 in
    (subst (λ (k : ℕ). k ≤ length leads) (sym long) M.long, counted M ∙ ap (λ (k : ℕ). free_count k leads) (sym long))

pub returns-then-not-is_row_message : goal.returns-then-not-is_row_message
returns-then-not-is_row_message c =
    let a = c.args in
    let code = a.code.now in
    let call = c.decode-recovery in
    let said =
    taken_out c.requires.message_columns.0 call.new.word c.take_out.ensures (call.auto.word ∙ c.requires.received_len.1) in
    no_row code.c code.h.now code.cols.now c.requires.message_columns.0.number a.received.now c.requires.message_columns.1 call.ensures
    c.in-Repaired.is said (found_false c.is_row_message.ensures c.if-not-is_row_message.true)

pub returns : goal.returns
returns c =
    let a = c.args in
    let code = a.code.now in
    let call = c.decode-recovery in
    let said =
    taken_out c.requires.message_columns.0 call.new.word c.take_out.ensures (call.auto.word ∙ c.requires.received_len.1) in
    row_found code.c code.h.now code.cols.now c.requires.message_columns.0.number a.received.now c.requires.message_columns.1 call.ensures
    c.in-Repaired.is said
    (found_true c.is_row_message.ensures c.if-not-is_row_message.false) c.row_in.ensures
