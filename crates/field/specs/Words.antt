-- 01's table: one reduction word for each width, and the widths that have one. The limits of the width stand here and nowhere else in specs/.
use Rattle.std.specs.Prelude.{List, [], ◌∷◌, ℕ, get_or}

abbrev pub narrowest : ℕ
narrowest = 2

abbrev pub widest : ℕ
widest = 16

-- the word of width m stands at m; there is none for widths 0 and 1
unfoldable pub words : List ℕ
words =
    0 ∷ 0 ∷ 0x7 ∷ 0xB ∷ 0x13 ∷ 0x25 ∷ 0x43 ∷ 0x83 ∷ 0x11D ∷ 0x211 ∷ 0x409 ∷ 0x805 ∷ 0x1053 ∷ 0x201B ∷ 0x4443 ∷ 0x8003 ∷ 0x1100B ∷ []

unfoldable pub word : ℕ → ℕ
word m = get_or words m 0
