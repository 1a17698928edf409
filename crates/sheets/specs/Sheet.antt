-- A sheet: the text of a code's parameters.
use Rattle.std.specs.Prelude.{Bool, ◌&&◌, List, [], ◌∷◌, ◌++◌, ℕ, ◌+◌, ◌*◌, leb, eqb, length}
use Rattle.params.specs.declared.Parameters.{Parameters}
use Rattle.slices.specs.Lengths.{longest}
use Rattle.fields.specs.Fields.{field_width, number_at, line_text, line_length, numbers_at, is_line}

-- the numbers of line one
abbrev pub numbers_of : Parameters → List ℕ
numbers_of c = c.m ∷ c.n ∷ c.t ∷ c.omega ∷ []

-- "Line one is m, n, t, ω; line two is the n entries of h."
unfoldable pub sheet_text : Parameters → List ℕ → List ℕ
sheet_text c h = line_text (numbers_of c) ++ line_text h

-- where line two begins
abbrev pub second : ℕ
second = line_length 4

-- what stands in a text where a sheet has its numbers
module _ (text : List ℕ) where
  abbrev pub sheet_parameters : Parameters
  sheet_parameters =
      record {
        m = number_at text 0;
        n = number_at text field_width;
        t = number_at text (2 * field_width);
        omega = number_at text (3 * field_width);
      }

  abbrev pub sheet_n : ℕ
  sheet_n = sheet_parameters.n

  abbrev pub sheet_h : List ℕ
  sheet_h = numbers_at text second sheet_n

  -- "exactly two lines, each ended by byte 10, and nothing after them … a line two with more or fewer is no sheet"; neither is a text whose n is
  -- above the longest length
  unfoldable pub is_sheet : Bool
  is_sheet = leb sheet_n longest && (eqb (length text) (second + line_length sheet_n) && (is_line text 0 4 && is_line text second sheet_n))

-- the length of the longest sheet
abbrev pub longest_sheet : ℕ
longest_sheet = second + line_length longest
