-- `listing` meets its contract: the sheet's refusal stands, and where there is none the listing is stored.
use Rattle.refusals.specs.Ending.{first_refuses, second_decides}
use Rattle.refusals.specs.Counted.{Refused}
use Rattle.refusals.specs.Testing.{tested_none, tested_due, first_passed_on}
use Rattle.sheets.specs.Fault.{sheet_rules, sheet_fault}
use Rattle.sheets.specs.Laws.{sheet_numbered}
use Rattle.listing.specs.Answers.{room_rules, stored_answer, stored_after, sheet_listing}
use Rattle.listing.specs.Answers.{listing_fault, listing_answer, listing_after}
use Rattle.listing.proofs.listing.Goals as goal

pub returns-in_err-check_sheet : goal.returns-in_err-check_sheet
unfolding listing_answer listing_after listing_fault sheet_fault
returns-in_err-check_sheet c =
    let a = c.args in
    let rules = sheet_rules a.text.now in
    let room = room_rules (sheet_listing a.text.now) a.out.now in
    let tested = c.in_err-check_sheet.ensures.value in
    let (ne, due) = tested_due tested in
    record {
      value = first_passed_on rules room _ _ tested c.from_residual.ensures.1;
      out_after = first_refuses rules room (λ k. a.out.now) _ due ne;
    }

pub returns : goal.returns
unfolding listing_answer listing_after listing_fault sheet_fault stored_answer stored_after
returns c =
    let a = c.args in
    let rules = sheet_rules a.text.now in
    let room = room_rules (sheet_listing a.text.now) a.out.now in
    let numbered = sheet_numbered a.text.now in
    let none = tested_none c.in_ok-check_sheet.ensures.value in
    let stored = c.sheet_listing.ensures in
    record {
      value = second_decides rules room Refused _ numbered none stored.value;
      out_after = second_decides rules room (λ k. a.out.now) _ numbered none stored.out_after;
    }
