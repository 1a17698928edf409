-- Choices among the values of a list. A choice is a number, whose bit s says whether the value at place s is taken: 0 is the empty choice, and of k
-- values there are 2^k choices.
use Rattle.std.specs.Prelude.{◌≡◌, ◌≢◌, Bool, not, ◌&&◌, List, ℕ, ◌*◌, ◌^◌, ◌<◌, eqb, length}
use Rattle.algebra.specs.All.{some}
use Rattle.algebra.specs.Bits.{bit_at}
use Rattle.algebra.specs.Lists.{entry_of}
use Rattle.algebra.specs.Sum.{sum}
use Rattle.field.specs.Gf.{gf}

-- the sum of the values that are taken
unfoldable pub choice_sum : ℕ → List ℕ → ℕ → ℕ
choice_sum m v c = sum (gf m) (length v) (λ s. bit_at c s * entry_of v s)

-- the choice is not empty, and its values sum to zero
unfoldable pub vanishes : ℕ → List ℕ → ℕ → Bool
vanishes m v c = not (eqb c 0) && eqb (choice_sum m v c) 0

-- 17, 01's "dependent": there is such a choice
unfoldable pub dependent : ℕ → List ℕ → Bool
dependent m v = some (2 ^ length v) (vanishes m v)

-- no choice but the empty one sums to zero
abbrev pub Independent : ℕ → List ℕ → Type 0
Independent m v = (c : ℕ) → c ≢ 0 → c < 2 ^ length v → choice_sum m v c ≢ 0

-- a choice that is not empty sums to zero
abbrev pub Dependent : ℕ → List ℕ → Type 0
Dependent m v = (c : ℕ) × (c ≢ 0) × (c < 2 ^ length v) × (choice_sum m v c ≡ 0)
