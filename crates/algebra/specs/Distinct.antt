-- Points that are different, and the test whether a list repeats no entry.
use Rattle.std.specs.Prelude.{◌≢◌, Bool, not, List, ℕ, ◌<◌, eqb, length}
use Rattle.algebra.specs.All.{all}
use Rattle.algebra.specs.Lists.{entry_of}

-- the first n of the points r are different
abbrev pub Distinct : {A : Type 0} → ℕ → (ℕ → A) → Type 0
Distinct n r = (i j : ℕ) → i < j → j < n → r i ≢ r j

-- no entry is equal to one before it
unfoldable pub distinct : List ℕ → Bool
distinct a = all (length a) (λ j. all j (λ i. not (eqb (entry_of a i) (entry_of a j))))
