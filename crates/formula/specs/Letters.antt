-- The letters of formulas, the blocks that are lent for them, and the bytes that formulas are written with.
use Rattle.std.specs.Prelude.{Bool, not, List, ℕ, eqb, length}

pub data Letter : Type 0 where
  A : Letter
  B : Letter
  C : Letter
  D : Letter

-- 01: "Letters A to D stand for up to four lent blocks"
pub record Lent : Type 0 where
  pub a : List ℕ
  pub b : List ℕ
  pub c : List ℕ
  pub d : List ℕ

abbrev pub lending : List ℕ → List ℕ → List ℕ → List ℕ → Lent
lending a b c d = record { a = a; b = b; c = c; d = d }

unfoldable pub block_of : Lent → Letter → List ℕ
block_of β A = β.a
block_of β B = β.b
block_of β C = β.c
block_of β D = β.d

-- 01: "an empty slice is a block not lent"
unfoldable pub is_lent : Lent → Letter → Bool
is_lent β l = not (eqb (length (block_of β l)) 0)

-- ---- the bytes, in ASCII

abbrev pub letter_byte : Letter → ℕ
letter_byte A = 65
letter_byte B = 66
letter_byte C = 67
letter_byte D = 68

-- +
abbrev pub plus_byte : ℕ
plus_byte = 43

-- *
abbrev pub times_byte : ℕ
times_byte = 42

-- /
abbrev pub over_byte : ℕ
over_byte = 47

-- '
abbrev pub mark_byte : ℕ
mark_byte = 39

-- (
abbrev pub open_byte : ℕ
open_byte = 40

-- )
abbrev pub close_byte : ℕ
close_byte = 41
