-- Row p as a part of the table, which is how a call is lent it.
use mathlib.Core.Path.{◌≡◌, ap, ◌∙◌}
use mathlib.Core.List.{List}
use Prim.Native.Nat.{ℕ, ◌+◌, ◌-◌, ◌*◌, ◌/◌, ◌%◌, ◌<◌}
use native.Mathlib.Omega.{arith}
use lib.ListN.{take, drop}
use lib.Seq.{get_or-take, get_or-drop}
use Rattle.algebra.specs.Bits.{bit_at}
use Rattle.algebra.specs.PartLaws.{part_wide}
use Rattle.slices.specs.Lengths.{longest}
use Rattle.basis.specs.Packed.{packed_bit}
use Rattle.basis.specs.Table.{row_words, row_bit}

-- its length as the code computes it, end minus start
abbrev pub part_words : ℕ → ℕ
part_words p = p * row_words + row_words - p * row_words

pub part_words_lem : (p : ℕ) → part_words p ≡ row_words
part_words_lem p = part_wide row_words p

abbrev pub row_part : List ℕ → ℕ → List ℕ
row_part rows p = take (part_words p) (drop (p * row_words) rows)

pub part_bit : (rows : List ℕ) (p j : ℕ) → j < longest → packed_bit (row_part rows p) j ≡ row_bit rows p j
unfolding packed_bit row_bit
part_bit rows p j l =
    ap (λ (x : ℕ). bit_at x (j % 64)) (get_or-take (part_words p) (drop (p * row_words) rows) (j / 64) 0 (omega arith) ∙ get_or-drop (p * row_words) rows
    (j / 64) 0)
