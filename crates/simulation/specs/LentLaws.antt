-- What the tests of a ride's lengths say.
use Rattle.std.specs.Prelude.{◌≡◌, ◌↔◌, Bool, true, ◌&&◌, List, ℕ, ◌*◌, eqb, leb, length}
use borrow.Author.Tests.{eq-eqb, eqb-true, le-leb, leb-true}
use Rattle.algebra.specs.Flags.{both_true, both_hold}
use Rattle.simulation.specs.Steps.{Steps, step_count}
use Rattle.simulation.specs.Answers.{longest_ride, counts_long, ride_lengths, marks_long}
use Rattle.simulation.specs.Lent.{LentSteps}

module _ (n : ℕ) (σ : Steps) (counts : List ℕ) where
  abbrev short? : Bool
  short? = leb (step_count σ) longest_ride

  abbrev lamps? : Bool
  lamps? = eqb (length σ.lamps) (step_count σ)

  abbrev counts? : Bool
  counts? = eqb (length counts) counts_long

  abbrev marks? : Bool
  marks? = eqb (length σ.turned) (step_count σ * n)

  pub lent_exactly : ((ride_lengths σ counts && marks_long σ n) ≡ true) ↔ LentSteps n σ counts
  unfolding ride_lengths marks_long
  lent_exactly = (
    λ t.
        let (lists, marks) = both_true (short? && lamps? && counts?) marks? t in
        let (steps, four) = both_true (short? && lamps?) counts? lists in
        let (short, lamps) = both_true short? lamps? steps in
        record {
          short = leb-true (step_count σ) longest_ride short;
          lamps_long = eqb-true (length σ.lamps) (step_count σ) lamps;
          marks_long_lem = eqb-true (length σ.turned) (step_count σ * n) marks;
          counts_long = eqb-true (length counts) counts_long four;
        },
    λ L.
        both_hold
        (both_hold (both_hold (le-leb (step_count σ) longest_ride L.short) (eq-eqb (length σ.lamps) (step_count σ) L.lamps_long))
        (eq-eqb (length counts) counts_long L.counts_long))
        (eq-eqb (length σ.turned) (step_count σ * n) L.marks_long_lem),
  )

  pub lent_passes : LentSteps n σ counts → (ride_lengths σ counts ≡ true) × (marks_long σ n ≡ true)
  lent_passes L = both_true (ride_lengths σ counts) (marks_long σ n) (lent_exactly.1 L)
