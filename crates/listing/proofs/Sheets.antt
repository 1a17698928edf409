-- The listing of the code on a sheet, as the program holds that code.
use mathlib.Core.Path.{◌≡◌, sym, ap, ap₂, ◌∙◌}
use mathlib.Core.List.{List}
use Prim.Native.Nat.{ℕ}
use lib.ListN.{length, take}
use Rattle.params.specs.declared.Parameters.{Parameters}
use Rattle.sheets.specs.Sheet.{sheet_parameters, sheet_n, sheet_h}
use Rattle.sheets.proofs.Held.{n_is, h_is}
use Rattle.lines.specs.Listing.{listing_text, listing_length}
use Rattle.listing.specs.Answers.{sheet_listing}
use Rattle.lines.specs.Lengths.{length_listing}

module _ (text : List ℕ) {c : Parameters} (on : c ≡ sheet_parameters text) where
  pub length_sheet_listing : length (sheet_listing text) ≡ listing_length c.n
  unfolding sheet_listing
  length_sheet_listing = length_listing (sheet_parameters text) (sheet_h text) ∙ ap listing_length (sym (n_is text on))

  pub listing_on_sheet : (h : List ℕ) → take (sheet_n text) h ≡ sheet_h text → listing_text c (take c.n h) ≡ sheet_listing text
  unfolding sheet_listing
  listing_on_sheet h signature = ap₂ listing_text on (h_is text on h signature)
