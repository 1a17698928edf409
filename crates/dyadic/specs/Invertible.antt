-- Whether a block has an inverse, as a test. Laws says that its matrix then has one, and else none.
use Rattle.std.specs.Prelude.{Bool, not, List, ℕ, eqb}
use Rattle.field.specs.Gf.{gf}
use Rattle.dyadic.specs.Block.{total}

-- 01: "The inverse exists exactly if the sum of all s elements is nonzero"
unfoldable pub is_invertible : ℕ → List ℕ → Bool
is_invertible m a = not (eqb (total (gf m) a) 0)
