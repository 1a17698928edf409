-- `printed` meets its contract: the line of the sheet's number is stored, or the listing.
use mathlib.Core.Path.{sym, ap, ◌∙◌}
use mathlib.Core.List.{List, [], ◌∷◌}
use Prim.Native.Nat.{ℕ}
use Rattle.refusals.specs.RuleLaws.{refuse, given}
use Rattle.refusals.specs.Testing.{tested_none, tested_due}
use Rattle.fields.specs.Fields.{line_text}
use Rattle.listing.specs.Answers.{stored_answer, stored_after, sheet_listing, printed_text, printed_answer, printed_after}
use Rattle.listing.proofs.printed.Goals as goal

pub returns-in-Err : goal.returns-in-Err
unfolding printed_answer printed_after printed_text
returns-in-Err c =
    let a = c.args in
    let stored = c.number_line.ensures in
    let (ne, due) = tested_due (sym c.in-Err.is ∙ c.check_sheet.ensures.value) in
    let line = refuse (λ k. line_text (k ∷ [])) (sheet_listing a.text.now) (c.into.ensures ∙ due) (λ z. ne (sym c.into.ensures ∙ z)) in
    record {
      value = stored.value ∙ ap (λ (l : List ℕ). stored_answer l a.out.now) line;
      out_after = stored.out_after ∙ ap (λ (l : List ℕ). stored_after l a.out.now) line;
    }

pub returns : goal.returns
unfolding printed_answer printed_after printed_text
returns c =
    let a = c.args in
    let stored = c.sheet_listing.ensures in
    let lines = given (λ k. line_text (k ∷ [])) (sheet_listing a.text.now) (tested_none (sym c.in_default.is ∙ c.check_sheet.ensures.value)) in
    record {
      value = stored.value ∙ ap (λ (l : List ℕ). stored_answer l a.out.now) (sym lines);
      out_after = stored.out_after ∙ ap (λ (l : List ℕ). stored_after l a.out.now) (sym lines);
    }
