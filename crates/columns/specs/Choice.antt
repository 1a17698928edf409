-- Which columns of a code the places of a word stand for: all of them in their order, or those of a selection. What is refused there before the marks
-- of hidden places are looked at.
use Rattle.std.specs.Prelude.{Bool, ◌&&◌, List, [], ◌∷◌, ◌++◌, ℕ, ◌+◌, ◌*◌, ◌/◌, ◌%◌, eqb, leb, ltb, length}
use Rattle.algebra.specs.All.{all}
use Rattle.algebra.specs.Distinct.{distinct}
use Rattle.algebra.specs.Lists.{entry_of}
use Rattle.algebra.specs.Tabulate.{tabulate}
use Rattle.algebra.specs.Xor.{◌⊕◌}
use Rattle.refusals.specs.Rules.{Rule, ◌unless◌}
use Rattle.params.specs.declared.Parameters.{Parameters}
use Rattle.params.specs.Code.{code_rules}
use Rattle.parity.specs.Word.{whole}

-- A selection names some of the code's blocks of t columns, and a shift for each.
pub data Choice : Type 0 where
  whole_code : Choice
  selection : (blocks shifts : List ℕ) → Choice

-- "Place r of a chosen block takes the block's column r ⊕ s": place b·t + r is column blocks_b·t + (r ⊕ shifts_b).
unfoldable pub selected_column : ℕ → List ℕ → List ℕ → ℕ → ℕ
selected_column t blocks shifts j = entry_of blocks (j / t) * t + ((j % t) ⊕ entry_of shifts (j / t))

-- how many places there are, those that are hidden counted: "The word length is ℓ × t"
abbrev pub all_places : Parameters → Choice → ℕ
all_places c whole_code = c.n
all_places c (selection blocks shifts) = length blocks * c.t

-- place j is the j-th of these columns
unfoldable pub all_columns : Parameters → Choice → List ℕ
all_columns c whole_code = whole c.n
all_columns c (selection blocks shifts) = tabulate (length blocks * c.t) (selected_column c.t blocks shifts)

-- ---- what is refused

unfoldable pub all_below : ℕ → List ℕ → Bool
all_below bound numbers = all (length numbers) (λ i. ltb (entry_of numbers i) bound)

-- 2 of a selection: "ℓ from 1 to N/t", and a shift for each block. `full` says that what has an entry for each place has its length.
unfoldable pub has_lengths : Parameters → List ℕ → List ℕ → Bool → Bool
has_lengths c blocks shifts full =
    leb 1 (length blocks) && leb (length blocks) (c.n / c.t) && eqb (length shifts) (length blocks) && full

-- then "14 no such block: a block number of N/t or more, or one named twice; 15 shift: t or more"
unfoldable pub selection_rules : Parameters → List ℕ → List ℕ → Bool → List Rule
selection_rules c blocks shifts full =
    (2 unless has_lengths c blocks shifts full) ∷ (14 unless all_below (c.n / c.t) blocks) ∷ (14 unless distinct blocks)
    ∷ (15 unless all_below c.t shifts) ∷ []

-- The code's rules and those of the selection. `others` says that what is lent beside has its length, where the code alone tells it.
unfoldable pub choice_rules : Parameters → List ℕ → Choice → Bool → Bool → List Rule
choice_rules c h whole_code others full = code_rules (others && full) c h
choice_rules c h (selection blocks shifts) others full = code_rules others c h ++ selection_rules c blocks shifts full
