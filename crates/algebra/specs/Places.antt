-- The places below n that pass a test: how many there are, the entries of a word there, and a search for one.
use Rattle.std.specs.Prelude.{Bool, cond, List, [], ◌∷◌, ◌++◌, ℕ, zero, suc, ◌+◌}

-- the places below n at which the test holds, counted
unfoldable pub count : ℕ → (ℕ → Bool) → ℕ
count zero p = 0
count (suc n) p = count n p + cond (p n) 1 0

-- the entries of w below n at those places, in rising order
unfoldable pub chosen : ℕ → (ℕ → Bool) → (ℕ → ℕ) → List ℕ
chosen zero p w = []
chosen (suc n) p w = chosen n p w ++ cond (p n) (w n ∷ []) []

-- a number below n that passes the test (0 where there is none)
unfoldable pub found : ℕ → (ℕ → Bool) → ℕ
found zero p = 0
found (suc n) p = cond (p n) n (found n p)
