-- Finite sums over a range of indices: the sum of f j over the j below n.
use Rattle.std.specs.Prelude.{ℕ, zero, suc}
use Rattle.algebra.specs.Field.{Ops}

unfoldable pub sum : {A : Type 0} → Ops A → ℕ → (ℕ → A) → A
sum K zero f = K.nought
sum K (suc n) f = K.add (sum K n f) (f n)
