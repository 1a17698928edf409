-- The inverses of a signature as the program keeps them, at the front of a list that has room for them.
use Rattle.std.specs.Prelude.{◌≡◌, true, List, ℕ, ◌≤◌, ◌<◌, length}
use Rattle.algebra.specs.Lists.{entry_of}
use Rattle.algebra.specs.Product.{prod}
use Rattle.field.specs.Gf.{Width, gf}
use Rattle.slices.specs.Elements.{Elements}
use Rattle.slices.specs.Lengths.{is_power}
use Rattle.signature.specs.Tests.{inverse_at}
use Rattle.algebra.specs.Xor.{◌⊕◌}

-- a signature of elements, a power of two of them, and a list with room for as many
pub record Entries (m : ℕ) (h room : List ℕ) : Type 0 where
  pub width : Width m
  pub elements : Elements m h
  pub power : is_power (length h) ≡ true
  pub fits : length h ≤ length room

-- the inverses of the entries of h, at their places
pub record Inverted (m : ℕ) (h inverses : List ℕ) : Type 0 where
  pub long : length h ≤ length inverses
  pub are : (i : ℕ) → i < length h → entry_of inverses i ≡ inverse_at m h i

-- the product of the entries before place i
abbrev pub before : ℕ → List ℕ → ℕ → ℕ
before m h i = prod (gf m) i (entry_of h)

-- the entries with x added to each
abbrev pub added : List ℕ → ℕ → ℕ → ℕ
added a x i = entry_of a i ⊕ x
