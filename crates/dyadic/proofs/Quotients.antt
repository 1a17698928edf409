-- The entries of a block divided by c, as the loops make them.
use mathlib.Core.List.{List}
use Prim.Native.Nat.{ℕ}
use lib.ListN.{get_or}
use Rattle.field.specs.Gf.{gf}

abbrev pub quotients : ℕ → List ℕ → ℕ → ℕ → ℕ
quotients m a c j = (gf m).mul (get_or a j 0) ((gf m).inv c)
