-- What a ride counts, for a list of columns: place j of a word is column cols_j.
use Rattle.std.specs.Prelude.{Bool, true, false, cond, ◌&&◌, List, [], ◌∷◌, ℕ, eqb, length}
use Rattle.algebra.specs.Lists.{entry_of}
use Rattle.algebra.specs.Places.{count}
use Rattle.params.specs.declared.Parameters.{Parameters}
use Rattle.nearest.specs.Turned.{turned}
use Rattle.gears.specs.declared.Row.{Row}
use Rattle.gears.specs.Rows.{lamp_number}
use Rattle.rows.specs.declared.Reading.{Reading}
use Rattle.rows.specs.declared.Reading.TheVariants.{Read, Refused}
use Rattle.rows.specs.Answers.{row_word, reading_answer}
use Rattle.simulation.specs.declared.Verdict.{Verdict}
use Rattle.simulation.specs.declared.Verdict.TheVariants.{Right, Held, Wrong}
use Rattle.simulation.specs.Steps.{Steps, step_count, gear_at, lamp_at, marks_at, is_made}

-- a row that was read is the one that was sent
abbrev pub as_sent : ℕ → ℕ → Row → Bool
as_sent gear lamp row = eqb row.gear gear && eqb (lamp_number row.lamp) lamp

-- "right (read as sent), held (refused on reading) and wrong (read, but not as sent)"
unfoldable pub verdict_of : ℕ → ℕ → Reading → Verdict
verdict_of gear lamp (Read row count) = cond (as_sent gear lamp row) Right Wrong
verdict_of gear lamp (Refused number) = Held

abbrev pub is_right : Verdict → Bool
is_right Right = true
is_right Held = false
is_right Wrong = false

abbrev pub is_held : Verdict → Bool
is_held Right = false
is_held Held = true
is_held Wrong = false

abbrev pub is_wrong : Verdict → Bool
is_wrong Right = false
is_wrong Held = false
is_wrong Wrong = true

-- the places that a word of marks marks
abbrev pub is_marked : List ℕ → ℕ → Bool
is_marked marks j = eqb (entry_of marks j) 1

module _ (c : Parameters) (h cols : List ℕ) where
  -- "Each step writes the row, turns the bits and reads the row."
  unfoldable pub step_word : ℕ → ℕ → List ℕ → List ℕ
  step_word gear lamp marks = turned (length cols) (is_marked marks) (row_word c h cols gear lamp)

  unfoldable pub step_verdict : ℕ → ℕ → List ℕ → Verdict
  step_verdict gear lamp marks = verdict_of gear lamp (reading_answer c h cols (step_word gear lamp marks))

  module _ (σ : Steps) where
    unfoldable pub verdict_at : ℕ → Verdict
    verdict_at i = step_verdict (gear_at σ i) (lamp_at σ i) (marks_at (length cols) σ i)

    -- of the first k steps, those that are made and end so
    unfoldable pub verdict_count : (Verdict → Bool) → ℕ → ℕ
    verdict_count p k = count k (λ i. is_made (length cols) σ i && p (verdict_at i))

    -- the four counts of the first k steps: "steps, right …, held … and wrong …"
    unfoldable pub counts_up_to : ℕ → List ℕ
    counts_up_to k = count k (is_made (length cols) σ) ∷ verdict_count is_right k ∷ verdict_count is_held k ∷ verdict_count is_wrong k ∷ []

    unfoldable pub ride_counts : List ℕ
    ride_counts = counts_up_to (step_count σ)
