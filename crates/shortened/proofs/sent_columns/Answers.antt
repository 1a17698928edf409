-- `sent_columns` meets its contract: what refuses the marks, or the columns of the sent places.
use mathlib.Core.Path.{◌≡◌, sym, ap, ◌∙◌}
use mathlib.Core.List.{List}
use Prim.Native.Nat.{ℕ, ◌≤◌}
use native.Mathlib.Omega.{arith}
use lib.ListN.{length, take}
use lib.Seq.{length-take-le, get_or-take}
use Rattle.refusals.specs.Counted.{Count, Refused}
use Rattle.refusals.specs.Testing.{tested_none, tested_due, handed_on}
use Rattle.refusals.specs.RuleLaws.{refuse, accept}
use Rattle.slices.specs.Lengths.{longest}
use Rattle.parity.specs.Selected.{OnColumns, columns_short}
use Rattle.params.specs.declared.Parameters.{Parameters}
use Rattle.shortened.specs.Marks.{sent_count, sent_of}
use Rattle.shortened.specs.MarkLaws.{sent_le, sent_cong}
use Rattle.shortened.proofs.sent_columns.Goals as goal

-- a word has at most the places of the longest one
few : {c : Parameters} {h : List ℕ} (hidden columns : List ℕ) → OnColumns c h (take (length hidden) columns) → length hidden ≤ length columns
    → sent_count hidden ≤ longest
few hidden columns O l = omega (arith, sent_le hidden, columns_short O, length-take-le (length hidden) columns l)

-- the marks reach no further than the columns that they are for
front : (hidden columns : List ℕ) → sent_of hidden columns ≡ sent_of hidden (take (length hidden) columns)
front hidden columns = sent_cong hidden columns (take (length hidden) columns) (λ p l. sym (get_or-take (length hidden) columns p 0 l))

pub returns-in_err-check_marks : goal.returns-in_err-check_marks
returns-in_err-check_marks c =
    let (ne, due) = tested_due c.in_err-check_marks.ensures in
    record {
      value = handed_on _ c.from_residual.ensures.1 ∙ refuse Refused _ due ne;
      columns_after = λ none. absurd (ne (due ∙ none));
    }

pub returns : goal.returns
returns c =
    let record { value = count; columns_after = kept } = c.keep_sent.ensures in
    record {
      value = ap Count count ∙ accept Refused _ (sym (tested_none c.in_ok-check_marks.ensures)) (omega arith);
      columns_after = λ none. kept ∙ front c.args.hidden.now c.args.columns.now;
    }
