-- Lists made of parts of n entries, one after the other: the words of several senders, or the marks of several steps, in one buffer.
use Rattle.std.specs.Prelude.{List, [], ◌++◌, ℕ, zero, suc, ◌*◌, take, drop}

unfoldable pub part : ℕ → List ℕ → ℕ → List ℕ
part n l p = take n (drop (p * n) l)

-- the list with x for its part p
unfoldable pub with_part : ℕ → List ℕ → ℕ → List ℕ → List ℕ
with_part n l p x = take (p * n) l ++ (x ++ drop n (drop (p * n) l))

-- k lists, one after the other
unfoldable pub joined : ℕ → (ℕ → List ℕ) → List ℕ
joined zero f = []
joined (suc k) f = joined k f ++ f k
