-- `internal::encode` meets its contract: the message at the free places and the others as the rows say is the encoding.
use mathlib.Core.Path.{refl, sym, ap, ◌∙◌, subst}
use Prim.Native.Nat.{ℕ}
use native.Mathlib.Nat.{le_of_eq}
use native.Mathlib.Omega.{arith}
use lib.ListN.{length}
use Rattle.refusals.specs.Ending.{ended_done}
use Rattle.refusals.specs.Testing.{tested_none}
use Rattle.slices.specs.Bits.{all_bits}
use Rattle.basis.specs.Table.{free_count, Form, Carried}
use Rattle.parity.specs.Columns.{encoding_of}
use Rattle.messages.specs.CodeBasis.{counted}
use Rattle.parity.specs.Selected.{columns_short}
use Rattle.messages.proofs.Meaning.{room, message_fits, message_due}
use Rattle.words.proofs.Calls.{message_refused}
use Rattle.words.proofs.internal.encode.Goals as goal

pub code_basis-k-requires : goal.code_basis-k-requires
code_basis-k-requires c =
    let O = c.requires.0 in (O, room O _ _ (omega arith) (omega (arith, columns_short O)))

pub returns-in_err-check_message : goal.returns-in_err-check_message
returns-in_err-check_message c =
    let a = c.args in
    message_refused c.code_basis-k.ensures.columns (length a.message.now) (all_bits a.message.now) a.word.now _ _
    c.in_err-check_message.ensures c.from_residual.ensures.1

pub carry-requires : goal.carry-requires
carry-requires c =
    let found = c.code_basis-k in
    let B = found.ensures in
    let (long, bits) =
    message_fits found.result (length c.args.message.now) c.args.message.now (tested_none c.in_ok-check_message.ensures) in
    let leads = found.new.leads in
    record {
      form = subst (λ (k : ℕ). Form k found.new.rows leads) (sym c.requires.1) B.form;
      leads_in_bounds = (le_of_eq (ap (λ (k : ℕ). free_count k leads) c.requires.1 ∙ sym (counted B.columns) ∙ sym long), bits);
    }

pub returns : goal.returns
returns c =
    let a = c.args in
    let found = c.code_basis-k in
    let B = found.ensures in
    let none = tested_none c.in_ok-check_message.ensures in
    let (long, bits) = message_fits found.result (length a.message.now) a.message.now none in
    let carry = c.carry in
    let due = message_due B.columns (length a.message.now) (all_bits a.message.now) (sym none) in
    ended_done _ a.word.now (encoding_of a.c a.h.now a.cols.now a.message.now) due refl
    (B.encodes a.message.now carry.new.word long bits (carry.auto.word ∙ c.requires.1)
    (subst (λ (k : ℕ). Carried k found.new.rows found.new.leads a.message.now carry.new.word) c.requires.1
    carry.ensures))
