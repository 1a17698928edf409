-- What the call on a formula answers, and what it leaves in the lent buffer, for every input.
use Rattle.std.specs.Prelude.{◌≡◌, Bool, true, false, ◌||◌, ◌&&◌, List, [], ◌∷◌, ◌++◌, ℕ, eqb, length}
use Rattle.refusals.specs.Rules.{Rule, ◌unless◌, fault, unless_refused}
use Rattle.refusals.specs.Outcome.{Outcome}
use Rattle.refusals.specs.Outcome.{Done, Refused}
use Rattle.field.specs.Range.{is_width}
use Rattle.slices.specs.Lengths.{is_power}
use Rattle.slices.specs.Elements.{all_elements}
use Rattle.formula.specs.Letters.{Lent}
use Rattle.formula.specs.Reading.{TextReading, formula, none, IsReading}
use Rattle.formula.specs.Value.{sum_block, sum_exists}

-- a block of length n, or none
unfoldable pub fits_buffer : ℕ → List ℕ → Bool
fits_buffer n a = eqb (length a) 0 || eqb (length a) n

-- a test holds for all four
unfoldable pub every : (List ℕ → Bool) → Lent → Bool
every test β = test β.a && test β.b && test β.c && test β.d

-- n is the length of the buffer for the result: 1, 01's "width", then 2, 01's "length", then 3, 01's "stranger"
unfoldable pub lent_rules : ℕ → Lent → ℕ → List Rule
lent_rules m β n =
    (1 unless is_width m) ∷ (2 unless is_power n) ∷ (2 unless every (fits_buffer n) β) ∷ (3 unless every (all_elements m) β) ∷ []

-- whether there is a formula, and whether the inverses that it asks for exist; where there is none it asks for none
abbrev pub is_read : TextReading → Bool
is_read (formula x) = true
is_read none = false

abbrev pub reading_exists : ℕ → Lent → TextReading → Bool
reading_exists m β (formula x) = sum_exists m β x
reading_exists m β none = true

-- 16, 01's "formula", and after it 9, 01's "dead block"
unfoldable pub reading_rules : ℕ → Lent → TextReading → List Rule
reading_rules m β reading = (16 unless is_read reading) ∷ (9 unless reading_exists m β reading) ∷ []

unfoldable pub formula_rules : ℕ → Lent → TextReading → ℕ → List Rule
formula_rules m β reading n = lent_rules m β n ++ reading_rules m β reading

unfoldable pub lent_fault : ℕ → Lent → ℕ → ℕ
lent_fault m β n = fault (lent_rules m β n)

unfoldable pub formula_fault : ℕ → Lent → TextReading → ℕ → ℕ
formula_fault m β reading n = fault (formula_rules m β reading n)

-- the block of what was read; of nothing there is none
unfoldable pub reading_block : ℕ → Lent → TextReading → List ℕ
reading_block m β none = []
reading_block m β (formula x) = sum_block m β x

unfoldable pub formula_answer : ℕ → Lent → TextReading → List ℕ → Outcome
formula_answer m β reading out = unless_refused (formula_fault m β reading (length out)) Refused Done

unfoldable pub formula_after : ℕ → Lent → TextReading → List ℕ → List ℕ
formula_after m β reading out = unless_refused (formula_fault m β reading (length out)) (λ k. out) (reading_block m β reading)

-- The call's promise: the text has this reading, and answer and buffer are those of the reading. A text has no other (SingleReading).
pub record Answered (m : ℕ) (text : List ℕ) (β : Lent) (old : List ℕ) (r : Outcome) (new : List ℕ) : Type 0 where
  pub reading : TextReading
  pub right : IsReading β text reading
  pub answer : r ≡ formula_answer m β reading old
  pub buffer : new ≡ formula_after m β reading old
