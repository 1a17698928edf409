-- `check_sheet` meets its contract: the code on a sheet has its number from the rules of every code.
use mathlib.Core.Path.{sym, ap, ◌∙◌}
use Prim.Native.Nat.{◌≤◌}
use native.Mathlib.Omega.{arith}
use lib.ListN.{length}
use lib.Seq.{length-take-le}
use Rattle.algebra.specs.Flags.{found_false, found_true}
use Rattle.refusals.specs.Answered.{done_apart}
use Rattle.refusals.specs.Outcome.{tested}
use Rattle.refusals.specs.RuleLaws.{fault_here}
use Rattle.refusals.specs.Testing.{refuses, tested_none}
use Rattle.sheets.specs.Fault.{sheet_fault, sheet_rules}
use Rattle.sheets.specs.Reading.{sheet_long}
use Rattle.sheets.proofs.Held.{n_small, n_is, code_on_sheet, sheet_held}
use Rattle.sheets.proofs.check_sheet.Goals as goal

pub returns-then-not-is_sheet : goal.returns-then-not-is_sheet
unfolding sheet_fault sheet_rules
returns-then-not-is_sheet c =
    record {
      value = refuses (sym (fault_here 13 _ (found_false c.is_sheet.ensures c.if-not-is_sheet.true)));
      sheet_read = λ z. absurd (done_apart 13 z);
    }

pub parameters_of-c-requires : goal.parameters_of-c-requires
parameters_of-c-requires c =
    omega (arith, sheet_long c.args.text.now (found_true c.is_sheet.ensures c.if-not-is_sheet.false))

pub slice_bounds-check_code-end : goal.slice_bounds-check_code-end
slice_bounds-check_code-end c =
    let text = c.args.text.now in
    let sheet = found_true c.is_sheet.ensures c.if-not-is_sheet.false in
    omega (arith, n_small text sheet (n_is text c.parameters_of-c.ensures), c.read_signature.auto)

pub slice_bounds-check_code-end-2 : goal.slice_bounds-check_code-end-2
slice_bounds-check_code-end-2 c =
    let text = c.args.text.now in
    let sheet = found_true c.is_sheet.ensures c.if-not-is_sheet.false in
    let read = c.read_signature in
    let p = c.parameters_of-c in
    let fits : p.result.n ≤ length read.new.h = omega (arith, n_small text sheet (n_is text p.ensures), read.auto) in
    sym (length-take-le p.result.n read.new.h fits)

pub returns : goal.returns
returns c =
    let text = c.args.text.now in
    let sheet = found_true c.is_sheet.ensures c.if-not-is_sheet.false in
    let read = c.read_signature in
    let h = read.new.h in
    let p = c.parameters_of-c in
    let code = c.check_code.ensures in
    let number = code.value ∙ ap tested (code_on_sheet text p.ensures h read.ensures sheet) in
    let fits : p.result.n ≤ length h = omega (arith, n_small text sheet (n_is text p.ensures), read.auto) in
    record {
      value = number;
      sheet_read = λ done. sheet_held text p.ensures h read.ensures (tested_none (sym done ∙ number)) fits (code.inverted done);
    }
