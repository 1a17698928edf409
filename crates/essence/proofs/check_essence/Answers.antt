-- `check_essence` meets its contract: the number of 1 to 3 stands, and where there is none the signature is looked at.
use mathlib.Core.Path.{sym, ◌∙◌}
use lib.ListN.{length}
use Rattle.refusals.specs.Ending.{second_decides}
use Rattle.refusals.specs.Outcome.{Done, Refused}
use Rattle.refusals.specs.Testing.{tested_none, handed_on, first_passed_on}
use Rattle.signature.specs.Tests.{signature_rules}
use Rattle.essence.specs.Answers.{shape_rules, essence_rules, essence_fault}
use Rattle.essence.proofs.Shaped.{shaped, shape_entries}
use Rattle.essence.proofs.check_essence.Goals as goal

pub returns-in_err-check_shape : goal.returns-in_err-check_shape
unfolding essence_fault essence_rules
returns-in_err-check_shape c =
    let a = c.args in
    let e = c.from_residual.ensures.1 in
    record {
      value = first_passed_on (shape_rules a.m a.h.now (length a.h.now) a.k) (signature_rules a.m a.h.now) _ _ c.in_err-check_shape.ensures e;
      inverted = λ z.
          let no = sym (handed_on _ e) ∙ z in cc;
    }

pub check_signature-requires : goal.check_signature-requires
check_signature-requires c =
    shape_entries (shaped _ _ _ _ (tested_none c.in_ok-check_shape.ensures)) c.requires

pub returns : goal.returns
unfolding essence_fault essence_rules shape_rules
returns c =
    let found = c.check_signature.ensures in
    let a = c.args in
    record {
      value = second_decides (shape_rules a.m a.h.now (length a.h.now) a.k) (signature_rules a.m a.h.now) Refused Done tt
          (tested_none c.in_ok-check_shape.ensures) found.value;
      inverted = found.inverted;
    }
