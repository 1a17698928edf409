-- Slices whose entries are all elements of the field.
use Rattle.std.specs.Prelude.{Bool, List, ℕ, ◌^◌, ◌<◌, length}
use Rattle.algebra.specs.All.{all}
use Rattle.algebra.specs.Lists.{entry_of}
use Rattle.field.specs.Range.{is_element}

-- every entry is an element of the field of width m
abbrev pub Elements : ℕ → List ℕ → Type 0
Elements m a = (i : ℕ) → i < length a → entry_of a i < 2 ^ m

unfoldable pub all_elements : ℕ → List ℕ → Bool
all_elements m a = all (length a) (λ i. is_element m (entry_of a i))
