-- What a selection must be, in words.
use Rattle.std.specs.Prelude.{◌≡◌, List, ℕ, ◌/◌, ◌<◌, ◌≤◌, length}
use Rattle.algebra.specs.Distinct.{Distinct}
use Rattle.algebra.specs.Lists.{entry_of}
use Rattle.params.specs.declared.Parameters.{Parameters}
use Rattle.columns.specs.Choice.{Choice, Choice.whole_code, Choice.selection}

-- every number is below k
abbrev pub Below : ℕ → List ℕ → Type 0
Below k a = (i : ℕ) → i < length a → entry_of a i < k

-- "A selection names ℓ blocks, ℓ from 1 to N/t, … in any order, and for each a shift s below t."
pub record Chosen (c : Parameters) (blocks shifts : List ℕ) : Type 0 where
  pub some : 1 ≤ length blocks
  pub few : length blocks ≤ c.n / c.t
  pub as_many : length shifts ≡ length blocks
  pub inside : Below (c.n / c.t) blocks
  pub once : Distinct (length blocks) (entry_of blocks)
  pub shifts_inside : Below c.t shifts

-- a whole code has nothing to choose
abbrev pub ChoiceFits : Parameters → Choice → Type 0
ChoiceFits c whole_code = Unit {0}
ChoiceFits c (selection blocks shifts) = Chosen c blocks shifts
