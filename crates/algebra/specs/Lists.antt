-- Lists by their entries, with nought past the end, and when two are equal.
use Rattle.std.specs.Prelude.{Bool, ◌&&◌, List, ℕ, eqb, length, get_or}
use Rattle.algebra.specs.All.{all}
use Rattle.algebra.specs.Field.{Ops}

-- a list of numbers as an index function
abbrev pub entry_of : List ℕ → ℕ → ℕ
entry_of a i = get_or a i 0

-- the same for elements of any field
abbrev pub entry : {A : Type 0} → Ops A → List A → ℕ → A
entry K a i = get_or a i K.nought

-- ---- equal lists

unfoldable pub same_entry : List ℕ → List ℕ → ℕ → Bool
same_entry a b i = eqb (entry_of a i) (entry_of b i)

unfoldable pub same_list : List ℕ → List ℕ → Bool
same_list a b = eqb (length a) (length b) && all (length a) (same_entry a b)
