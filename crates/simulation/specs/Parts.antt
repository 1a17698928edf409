-- What the parts of a ride hand to one another.
use Rattle.std.specs.Prelude.{◌≡◌, cond, List, [], ◌∷◌, ℕ, ◌+◌, ◌-◌, ◌^◌, ◌<◌, length}
use Rattle.algebra.specs.Lists.{entry_of}
use Rattle.refusals.specs.Outcome.{Outcome, tested}
use Rattle.refusals.specs.Rules.{fault, unless_refused}
use Rattle.params.specs.declared.Parameters.{Parameters}
use Rattle.basis.specs.Table.{Carried}
use Rattle.nearest.specs.Turned.{turned}
use Rattle.simulation.specs.declared.Verdict.{Verdict}
use Rattle.simulation.specs.Steps.{Steps, step_count, steps_rules}
use Rattle.simulation.specs.Ride.{is_marked, is_right, is_held, is_wrong, ride_counts}
use Rattle.simulation.specs.Answers.{counts_long, start_rules, ride_rules}

-- the counts with one step more
unfoldable pub tallied : Verdict → List ℕ → List ℕ
tallied v counts =
    (entry_of counts 0 + 1) ∷ (entry_of counts 1 + cond (is_right v) 1 0) ∷ (entry_of counts 2 + cond (is_held v) 1 0)
    ∷ (entry_of counts 3 + cond (is_wrong v) 1 0) ∷ []

-- counts to which a step can be added in 32 bits
pub record Countable (counts : List ℕ) : Type 0 where
  pub long : length counts ≡ counts_long
  pub below : (i : ℕ) → entry_of counts i < 2 ^ 32 - 1

-- a word that carries the message, with the marked bits turned
pub record Sent (n : ℕ) (rows leads message marks new : List ℕ) : Type 0 where
  pub word : List ℕ
  pub carried : Carried n rows leads message word
  pub long : length word ≡ n
  pub turned_is : new ≡ turned n (is_marked marks) word

-- what the steps of a ride come to, for a list of columns: what refuses the first that is refused, and the counts
pub record StepsRidden (c : Parameters) (h cols : List ℕ) (σ : Steps) (found : Outcome) (counts : List ℕ) : Type 0 where
  pub outcome : found ≡ tested (fault (steps_rules (length cols) σ (step_count σ)))
  pub counts_are : counts ≡ ride_counts c h cols σ

-- the same with what is looked for before the ride starts, which leaves the counts at `old`
pub record RideEnded (c : Parameters) (h cols : List ℕ) (σ : Steps) (old : List ℕ) (found : Outcome) (counts : List ℕ) : Type 0 where
  pub outcome : found ≡ tested (fault (ride_rules c h cols σ))
  pub counts_are : counts ≡ unless_refused (fault (start_rules c h cols)) (λ k. old) (ride_counts c h cols σ)
