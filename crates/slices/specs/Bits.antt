-- Slices whose entries are all bits.
use Rattle.std.specs.Prelude.{◌≡◌, Bool, List, ℕ, ◌<◌, ltb, length}
use Rattle.algebra.specs.All.{all}
use Rattle.algebra.specs.Lists.{entry_of}

-- every entry is 0 or 1
abbrev pub Bits : List ℕ → Type 0
Bits w = (j : ℕ) → j < length w → entry_of w j < 2

-- 8, 01's "bit"
unfoldable pub all_bits : List ℕ → Bool
all_bits w = all (length w) (λ j. ltb (entry_of w j) 2)

-- 01's word of n bits
pub record IsBits (n : ℕ) (w : List ℕ) : Type 0 where
  pub long : length w ≡ n
  pub bits : (j : ℕ) → j < n → entry_of w j < 2
