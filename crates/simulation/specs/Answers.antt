-- What a ride answers, and what it leaves in the lent buffer, for every input.
use Rattle.std.specs.Prelude.{Bool, ◌&&◌, List, [], ◌∷◌, ◌++◌, ℕ, ◌*◌, eqb, leb, length}
use Rattle.refusals.specs.Rules.{Rule, ◌unless◌, fault, unless_refused}
use Rattle.refusals.specs.Outcome.{Outcome}
use Rattle.refusals.specs.Outcome.{Done, Refused}
use Rattle.params.specs.declared.Parameters.{Parameters}
use Rattle.parity.specs.Columns.{dimension}
use Rattle.shortened.specs.Setting.{Setting, places, columns_of, setting_rules}
use Rattle.gears.specs.Rows.{row_bits}
use Rattle.simulation.specs.Steps.{Steps, step_count, steps_rules}
use Rattle.simulation.specs.Ride.{ride_counts}

-- "at most 1,000 steps"
abbrev pub longest_ride : ℕ
longest_ride = 1000

-- "a lent buffer of four"
abbrev pub counts_long : ℕ
counts_long = 4

-- 2 of a ride: "A longer list, or marks of another length, is 2"
unfoldable pub ride_lengths : Steps → List ℕ → Bool
ride_lengths σ counts = leb (step_count σ) longest_ride && eqb (length σ.lamps) (step_count σ) && eqb (length counts) counts_long

unfoldable pub marks_long : Steps → ℕ → Bool
marks_long σ n = eqb (length σ.turned) (step_count σ * n)

-- ---- for an accepted code and any list of its columns

module _ (c : Parameters) (h cols : List ℕ) where
  -- "12 is looked for before the ride starts"
  unfoldable pub start_rules : List Rule
  start_rules = (12 unless leb row_bits (dimension c h cols)) ∷ []

  unfoldable pub ride_rules : Steps → List Rule
  ride_rules σ = start_rules ++ steps_rules (length cols) σ (step_count σ)

-- ---- the call

module _ (c : Parameters) (h : List ℕ) (s : Setting) (σ : Steps) (counts : List ℕ) where
  abbrev lent_rules : List Rule
  lent_rules = setting_rules c h s (ride_lengths σ counts) (marks_long σ (places s))

  unfoldable pub ride_fault : ℕ
  ride_fault = fault (lent_rules ++ ride_rules c h (columns_of c s) σ)

  unfoldable pub ride_answer : Outcome
  ride_answer = unless_refused ride_fault Refused Done

  -- what refuses the ride before it starts
  unfoldable pub start_fault : ℕ
  start_fault = fault (lent_rules ++ start_rules c h (columns_of c s))

  -- The one exception to demand 1: a ride that has started writes its counts, also where 8 or 11 ends it. "In both cases the counts up to there,
  -- without that step, are written".
  unfoldable pub ride_after : List ℕ
  ride_after = unless_refused start_fault (λ k. counts) (ride_counts c h (columns_of c s) σ)
