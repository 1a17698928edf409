-- The steps of a ride: a gear, a lamp, and a word that marks the bits that are turned.
use Rattle.std.specs.Prelude.{Bool, List, [], ◌∷◌, ◌++◌, ℕ, zero, suc, eqb, length}
use Rattle.algebra.specs.All.{all}
use Rattle.algebra.specs.Lists.{entry_of}
use Rattle.algebra.specs.Parts.{part}
use Rattle.refusals.specs.Rules.{Rule, ◌unless◌, fault}
use Rattle.slices.specs.Bits.{all_bits}
use Rattle.gears.specs.Rows.{is_row}

-- "a list of … steps: gear, lamp, and a word of n bits marking the turned places", as three lists: the marks of all steps stand one after the other.
pub record Steps : Type 0 where
  pub gears : List ℕ
  pub lamps : List ℕ
  pub turned : List ℕ

abbrev pub steps_of : List ℕ → List ℕ → List ℕ → Steps
steps_of gears lamps turned = record { gears = gears; lamps = lamps; turned = turned }

abbrev pub step_count : Steps → ℕ
step_count σ = length σ.gears

abbrev pub gear_at : Steps → ℕ → ℕ
gear_at σ i = entry_of σ.gears i

abbrev pub lamp_at : Steps → ℕ → ℕ
lamp_at σ i = entry_of σ.lamps i

-- What a step is refused by: "A row that can't be written ends the ride with 11; a mark other than 0 or 1 ends it with 8, which goes first where one
-- step has both."
unfoldable pub step_rules : ℕ → ℕ → List ℕ → List Rule
step_rules gear lamp marks = (8 unless all_bits marks) ∷ (11 unless is_row gear lamp) ∷ []

-- ---- for words of n places

module _ (n : ℕ) (σ : Steps) where
  -- the marks of step i
  abbrev pub marks_at : ℕ → List ℕ
  marks_at i = part n σ.turned i

  unfoldable pub rules_at : ℕ → List Rule
  rules_at i = step_rules (gear_at σ i) (lamp_at σ i) (marks_at i)

  -- the rules of the first k steps, step by step
  unfoldable pub steps_rules : ℕ → List Rule
  steps_rules zero = []
  steps_rules (suc k) = steps_rules k ++ rules_at k

  -- a step is made if nothing refuses it, nor a step before it
  unfoldable pub is_made : ℕ → Bool
  is_made i = all (suc i) (λ j. eqb (fault (rules_at j)) 0)
