-- What the evaluators are handed: a width, a length and blocks that have been checked.
use Rattle.std.specs.Prelude.{◌≡◌, true, false, List, ℕ, ◌^◌, ◌≤◌, length, Option, Some, None}
use Rattle.field.specs.Gf.{Width}
use Rattle.slices.specs.Lengths.{longest}
use Rattle.slices.specs.Elements.{Elements}
use Rattle.formula.specs.Letters.{Letter, letter_byte, Lent, block_of, is_lent}

-- every block that is lent has n elements
abbrev pub Sized : ℕ → Lent → Type 0
Sized n β = (l : Letter) → is_lent β l ≡ true → length (block_of β l) ≡ n

-- blocks of the field of width m that are lent with a buffer of n = 2^log elements
pub record Ready (m : ℕ) (β : Lent) (n : ℕ) : Type 0 where
  pub width : Width m
  pub log : ℕ
  pub power : n ≡ 2 ^ log
  pub room : n ≤ longest
  pub sized : Sized n β
  pub elements : (l : Letter) → Elements m (block_of β l)

abbrev pub BlockIs : Lent → ℕ → Option (List ℕ) → Type 0
BlockIs β byte (Some block) = (l : Letter) × (byte ≡ letter_byte l) × (is_lent β l ≡ true) × (block ≡ block_of β l)
BlockIs β byte None = (l : Letter) → byte ≡ letter_byte l → is_lent β l ≡ false

-- the block that is lent for a byte, where the byte is a letter and one is lent for it
pub record LentFor (β : Lent) (byte : ℕ) (r : Option (List ℕ)) : Type 0 where
  pub block : BlockIs β byte r
