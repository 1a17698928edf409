-- A block whose high half is added to its low half: of (A, B), halves of length h, this is (A + B, B).
use Rattle.std.specs.Prelude.{List, ◌++◌, ℕ, take, drop}
use Rattle.algebra.specs.Field.{Ops}
use Rattle.dyadic.specs.Block.{block_sum}

unfoldable pub folded : {A : Type 0} → Ops A → ℕ → List A → List A
folded K h x = block_sum K (take h x) (drop h x) ++ drop h x
