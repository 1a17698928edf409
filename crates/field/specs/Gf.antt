-- The field of each width of 01's table.
use Rattle.std.specs.Prelude.{ℕ, ◌^◌, ◌≤◌, ◌<◌}
use Rattle.algebra.specs.Field.{Ops}
use Rattle.algebra.specs.Xor.{◌⊕◌}
use Rattle.field.specs.Product.{product, inverse}
use Rattle.field.specs.Words.{narrowest, widest, word}

-- a width of the table
pub record Width (m : ℕ) : Type 0 where
  pub low : narrowest ≤ m
  pub high : m ≤ widest

-- elements are the numbers below q = 2^m
abbrev pub gf : ℕ → Ops ℕ
gf m = record { In = λ a. a < 2 ^ m; nought = 0; one = 1; add = ◌⊕◌; mul = product m (word m); inv = inverse m (word m) }
