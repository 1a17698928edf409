-- Numbers and lines of numbers as text. Every number takes a field of the same width, "right-justified, blanks before it, no leading zeros".
use Rattle.std.specs.Prelude.{Bool, ◌&&◌, List, [], ◌∷◌, ◌++◌, ℕ, zero, suc, ◌+◌, ◌-◌, ◌*◌, ◌/◌, ◌%◌, ◌≤◌, ◌<◌, leb, eqb, length}
use Rattle.algebra.specs.All.{all}
use Rattle.algebra.specs.Tabulate.{tabulate}
use Rattle.algebra.specs.Lists.{entry_of}
use Rattle.algebra.specs.Parts.{joined}

-- 01: "Sheet numbers, that of a refusal too, take six columns and run to 65535"
abbrev pub field_width : ℕ
field_width = 6

abbrev pub greatest : ℕ
greatest = 65535

abbrev pub blank : ℕ
blank = 32

-- "each ended by byte 10"
abbrev pub line_end : ℕ
line_end = 10

-- ---- numbers

-- the byte of the digit d
abbrev pub digit_byte : ℕ → ℕ
digit_byte d = 48 + d

-- a byte of a field before its last, where the field up to it holds r: a blank where there is nothing yet
unfoldable pub lead_byte : ℕ → ℕ
lead_byte zero = blank
lead_byte (suc r) = digit_byte (suc r % 10)

-- those bytes, c of them
unfoldable pub lead_text : ℕ → ℕ → List ℕ
lead_text zero r = []
lead_text (suc c) r = lead_text c (r / 10) ++ lead_byte r ∷ []

-- the field of a number
unfoldable pub number_text : ℕ → List ℕ
number_text v = lead_text (field_width - 1) (v / 10) ++ digit_byte (v % 10) ∷ []

-- what the first c bytes say as a number: the low four bits of a digit's byte are the digit, and those of a blank are 0
unfoldable pub value_of : (ℕ → ℕ) → ℕ → ℕ
value_of byte zero = 0
value_of byte (suc c) = value_of byte c * 10 + byte c % 16

-- what the field at place p says
unfoldable pub number_at : List ℕ → ℕ → ℕ
number_at text p = value_of (λ i. entry_of text (p + i)) field_width

-- the text holds a part from place p on
unfoldable pub holds_at : List ℕ → ℕ → List ℕ → Bool
holds_at text p part = all (length part) (λ i. eqb (entry_of text (p + i)) (entry_of part i))

-- a field holds a number if it holds what the number is printed as
unfoldable pub is_number : List ℕ → ℕ → Bool
is_number text p = leb (number_at text p) greatest && holds_at text p (number_text (number_at text p))

-- ---- lines

-- the field of the i-th number of a line
abbrev pub field_text : List ℕ → ℕ → List ℕ
field_text numbers i = number_text (entry_of numbers i)

unfoldable pub line_text : List ℕ → List ℕ
line_text numbers = joined (length numbers) (field_text numbers) ++ line_end ∷ []

-- the length of a line of k numbers
abbrev pub line_length : ℕ → ℕ
line_length k = k * field_width + 1

-- the k numbers of a line that begins at place p
unfoldable pub numbers_at : List ℕ → ℕ → ℕ → List ℕ
numbers_at text p k = tabulate k (λ i. number_at text (p + i * field_width))

unfoldable pub is_line : List ℕ → ℕ → ℕ → Bool
is_line text p k = all k (λ i. is_number text (p + i * field_width)) && eqb (entry_of text (p + k * field_width)) line_end

-- numbers that a text may hold
abbrev pub Small : List ℕ → Type 0
Small numbers = (i : ℕ) → i < length numbers → entry_of numbers i ≤ greatest
