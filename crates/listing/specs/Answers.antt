-- What the calls answer, and what they leave in the lent buffer, for every text and every buffer.
use Rattle.std.specs.Prelude.{List, [], ◌∷◌, ◌++◌, ℕ, leb, length}
use Rattle.refusals.specs.Rules.{Rule, ◌unless◌, fault, unless_refused}
use Rattle.fields.specs.Fields.{line_text}
use Rattle.fields.specs.Over.{over}
use Rattle.sheets.specs.Sheet.{sheet_parameters, sheet_h}
use Rattle.sheets.specs.Fault.{sheet_rules, sheet_fault}
use Rattle.refusals.specs.Counted.{Counted}
use Rattle.refusals.specs.Counted.{Count, Refused}
use Rattle.lines.specs.Listing.{listing_text}

-- a buffer too short for a text is refused by 2
unfoldable pub room_rules : List ℕ → List ℕ → List Rule
room_rules text out = (2 unless leb (length text) (length out)) ∷ []

-- ---- a call that only stores a text

module _ (text out : List ℕ) where
  unfoldable pub stored_answer : Counted
  stored_answer = unless_refused (fault (room_rules text out)) Refused (Count (length text))

  unfoldable pub stored_after : List ℕ
  stored_after = unless_refused (fault (room_rules text out)) (λ k. out) (over text out)

module _ (text : List ℕ) where
  -- the listing of the code on the sheet
  unfoldable pub sheet_listing : List ℕ
  sheet_listing = listing_text (sheet_parameters text) (sheet_h text)

  -- ---- listing

  unfoldable pub listing_fault : List ℕ → ℕ
  listing_fault out = fault (sheet_rules text ++ room_rules sheet_listing out)

  unfoldable pub listing_answer : List ℕ → Counted
  listing_answer out = unless_refused (listing_fault out) Refused (Count (length sheet_listing))

  unfoldable pub listing_after : List ℕ → List ℕ
  listing_after out = unless_refused (listing_fault out) (λ k. out) (over sheet_listing out)

  -- ---- printed: "For a refused card or sheet it prints one line with the number alone", in as many columns as every number

  unfoldable pub printed_text : List ℕ
  printed_text = unless_refused (sheet_fault text) (λ k. line_text (k ∷ [])) sheet_listing

  unfoldable pub printed_answer : List ℕ → Counted
  printed_answer out = stored_answer printed_text out

  unfoldable pub printed_after : List ℕ → List ℕ
  printed_after out = stored_after printed_text out
