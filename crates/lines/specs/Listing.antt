-- The listing of a code.
use Rattle.std.specs.Prelude.{List, [], ◌∷◌, ◌++◌, ℕ, ◌+◌, ◌-◌, ◌*◌}
use Rattle.algebra.specs.Lists.{entry_of}
use Rattle.algebra.specs.Parts.{joined}
use Rattle.algebra.specs.Tabulate.{tabulate}
use Rattle.field.specs.Gf.{gf}
use Rattle.slices.specs.Lengths.{longest}
use Rattle.params.specs.declared.Parameters.{Parameters}
use Rattle.signature.specs.Signature.{support_at}
use Rattle.parity.specs.Columns.{roles_of, message_length}
use Rattle.parity.specs.Word.{whole}
use Rattle.fields.specs.Fields.{line_text, line_length}

-- "a line m, n, t, ω, rank (n − k), k"
unfoldable pub code_line : Parameters → ℕ → List ℕ
code_line c k = line_text (c.m ∷ c.n ∷ c.t ∷ c.omega ∷ (c.n - k) ∷ k ∷ [])

-- "for each column j a line j, h_j, L_j, and 0 for check or 1 for message"
unfoldable pub column_line : List ℕ → List ℕ → List ℕ → ℕ → List ℕ
column_line h support roles j = line_text (j ∷ entry_of h j ∷ entry_of support j ∷ entry_of roles j ∷ [])

unfoldable pub lines_text : Parameters → ℕ → List ℕ → List ℕ → List ℕ → List ℕ
lines_text c k h support roles = code_line c k ++ joined c.n (column_line h support roles)

module _ (c : Parameters) (h : List ℕ) where
  -- L_0, L_1, .., L_(n − 1)
  abbrev pub support_of : List ℕ
  support_of = tabulate c.n (support_at (gf c.m) c.omega (entry_of h))

  unfoldable pub listing_text : List ℕ
  listing_text = lines_text c (message_length c h) h support_of (roles_of c h (whole c.n))

-- the length of the listing of a code of n columns
abbrev pub listing_length : ℕ → ℕ
listing_length n = line_length 6 + n * line_length 4

-- the length of the longest listing
abbrev pub longest_listing : ℕ
longest_listing = listing_length longest
