-- `is_sheet` meets its contract.
use mathlib.Core.Path.{sym, ap, ap₂, ◌∙◌}
use mathlib.Core.Bool.{Bool, ◌&&◌, false≢true}
use Prim.Native.Nat.{◌+◌}
use native.Mathlib.Omega.{arith}
use lib.ListN.{length}
use borrow.Author.Tests.{le-leb, eq-eqb}
use Rattle.algebra.specs.Flags.{refuted, found_false, found_true}
use Rattle.slices.specs.Lengths.{longest}
use Rattle.fields.specs.Fields.{line_length, is_line}
use Rattle.sheets.specs.Sheet.{second, sheet_n, is_sheet}
use Rattle.sheets.specs.Reading.{n_within, sheet_long, sheet_first}
use Rattle.sheets.proofs.is_sheet.Goals as goal

pub returns-then-text-lt-SECOND : goal.returns-then-text-lt-SECOND
returns-then-text-lt-SECOND c =
    let text = c.args.text.now in
    sym (refuted (is_sheet text) (λ s. omega (arith, sheet_long text s)))

pub returns-then-not-is_line : goal.returns-then-not-is_line
returns-then-not-is_line c =
    let text = c.args.text.now in
    sym (refuted (is_sheet text) (λ s. false≢true (sym (found_false c.is_line.ensures c.if-not-is_line.true) ∙ sheet_first text s)))

pub returns-then-n-gt-LONGEST : goal.returns-then-n-gt-LONGEST
returns-then-n-gt-LONGEST c =
    let text = c.args.text.now in
    sym (refuted (is_sheet text) (λ s. omega (arith, n_within text s, c.value_at-n.ensures)))

pub returns-then-text-n : goal.returns-then-text-n
returns-then-text-n c =
    let text = c.args.text.now in
    sym (refuted (is_sheet text) (λ s. omega (arith, sheet_long text s, c.value_at-n.ensures)))

pub returns : goal.returns
unfolding is_sheet
returns c =
    let text = c.args.text.now in
    let v = c.value_at-n in
    let first = found_true c.is_line.ensures c.if-not-is_line.false in
    let short = le-leb (sheet_n text) longest (omega (arith, v.ensures)) in
    let long = eq-eqb (length text) (second + line_length (sheet_n text)) (omega (arith, v.ensures)) in
    let rest = ap₂ (λ (a b : Bool). a && (b && is_line text second (sheet_n text))) long first in
    c.is_line-2.ensures ∙ ap (is_line text second) v.ensures ∙ sym (ap₂ ◌&&◌ short rest)
