-- The lengths of lists with an entry for each column, and that of a listing.
use Rattle.std.specs.Prelude.{◌≡◌, List, [], ◌∷◌, ℕ, ◌+◌, ◌-◌, ◌*◌, ◌≤◌, length}
use Rattle.std.proofs.Math.Path.{ap₂}
use Rattle.std.proofs.Common.{◌∙◌}
use Rattle.std.proofs.Math.ListN.{length-append}
use Rattle.algebra.specs.Lists.{entry_of}
use Rattle.algebra.specs.Parts.{joined}
use Rattle.algebra.specs.PartLaws.{length-joined}
use Rattle.params.specs.declared.Parameters.{Parameters}
use Rattle.fields.specs.Fields.{line_length}
use Rattle.fields.specs.Reading.{length_line}
use Rattle.lines.specs.Listing.{code_line, column_line, lines_text, listing_text, listing_length}
use Rattle.slices.specs.Lengths.{longest}

-- lists with an entry for each of n columns
pub record PerColumn (n : ℕ) (h support roles : List ℕ) : Type 0 where
  pub short : n ≤ longest
  pub h_long : length h ≡ n
  pub support_long : length support ≡ n
  pub roles_long : length roles ≡ n

pub length_columns : (h support roles : List ℕ) (k : ℕ) → length (joined k (column_line h support roles)) ≡ k * line_length 4
unfolding column_line
length_columns h support roles k =
    length-joined (line_length 4) (column_line h support roles) k (λ j l. length_line (j ∷ entry_of h j ∷ entry_of support j ∷ entry_of roles j ∷ []))

module _ (c : Parameters) where
  pub length_code : (k : ℕ) → length (code_line c k) ≡ line_length 6
  unfolding code_line
  length_code k = length_line (c.m ∷ c.n ∷ c.t ∷ c.omega ∷ (c.n - k) ∷ k ∷ [])

  pub length_lines : (k : ℕ) (h support roles : List ℕ) → length (lines_text c k h support roles) ≡ listing_length c.n
  unfolding lines_text
  length_lines k h support roles =
      length-append (code_line c k) (joined c.n (column_line h support roles))
      ∙ ap₂ (λ (x y : ℕ). x + y) (length_code k) (length_columns h support roles c.n)

  pub length_listing : (h : List ℕ) → length (listing_text c h) ≡ listing_length c.n
  unfolding listing_text
  length_listing h = length_lines _ h _ _
