-- `check_code` meets its contract: each part of the rules is looked at where those before it hold.
use mathlib.Core.Path.{sym, ◌∙◌}
use Rattle.algebra.specs.Flags.{found_true, found_false}
use Rattle.refusals.specs.Outcome.{Done, Refused}
use Rattle.refusals.specs.Answered.{done_apart}
use Rattle.refusals.specs.RuleLaws.{refuse}
use Rattle.refusals.specs.Testing.{refuses, passes, tested_none, tested_due, handed_on}
use Rattle.params.proofs.Faults.{shaped, shape_number, signature_number, roots_number, no_number}
use Rattle.params.proofs.check_code.Goals as goal

pub returns-in_err-check_shape : goal.returns-in_err-check_shape
returns-in_err-check_shape c =
    let a = c.args in
    let (ne, due) = tested_due c.in_err-check_shape.ensures in
    let handed = handed_on _ c.from_residual.ensures.1 in
    record {
      value = handed ∙ refuse Refused Done (shape_number a.buffers a.c a.h.now due ne) ne;
      inverted = λ z. absurd (done_apart _ (sym handed ∙ z));
    }

pub check_signature-requires : goal.check_signature-requires
check_signature-requires c =
    let a = c.args in shaped a.buffers a.c a.h.now a.inverses.now c.requires (tested_none c.in_ok-check_shape.ensures)

pub returns-in_err-check_signature : goal.returns-in_err-check_signature
returns-in_err-check_signature c =
    let a = c.args in
    let (ne, due) = tested_due c.in_err-check_signature.ensures.value in
    let handed = handed_on _ c.from_residual-in_err-check_signature.ensures.1 in
    record {
      value =
          handed ∙ refuse Refused Done (signature_number a.buffers a.c a.h.now (tested_none c.in_ok-check_shape.ensures) due ne) ne;
      inverted = λ z. absurd (done_apart _ (sym handed ∙ z));
    }

pub returns-then-not-is_root_count : goal.returns-then-not-is_root_count
returns-then-not-is_root_count c =
    let a = c.args in
    let shape = tested_none c.in_ok-check_shape.ensures in
    let signature = tested_none c.in_ok-check_signature.ensures.value in
    let many = found_false c.is_root_count.ensures c.if-not-is_root_count.true in
    record {
      value = refuses (roots_number a.buffers a.c a.h.now shape signature many);
      inverted = λ z. absurd (done_apart _ z);
    }

pub returns : goal.returns
returns c =
    let a = c.args in
    let shape = tested_none c.in_ok-check_shape.ensures in
    let signature = tested_none c.in_ok-check_signature.ensures.value in
    let few = found_true c.is_root_count.ensures c.if-not-is_root_count.false in
    record {
      value = passes (sym (no_number a.buffers a.c a.h.now shape signature few));
      inverted = λ z. c.in_ok-check_signature.ensures.inverted z;
    }
