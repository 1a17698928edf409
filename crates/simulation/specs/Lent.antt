-- The lists of a ride as 01 has them: "at most 1,000 steps: gear, lamp, and a word of n bits marking the turned places", and "a lent buffer of four".
use Rattle.std.specs.Prelude.{◌≡◌, List, ℕ, ◌*◌, ◌≤◌, length}
use Rattle.simulation.specs.Answers.{longest_ride, counts_long}
use Rattle.simulation.specs.Steps.{Steps, step_count}

-- for words of n places
pub record LentSteps (n : ℕ) (σ : Steps) (counts : List ℕ) : Type 0 where
  pub short : step_count σ ≤ longest_ride
  pub lamps_long : length σ.lamps ≡ step_count σ
  pub marks_long_lem : length σ.turned ≡ step_count σ * n
  pub counts_long : length counts ≡ counts_long
