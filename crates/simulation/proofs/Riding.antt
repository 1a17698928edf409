-- The loop over the steps of a ride.
use mathlib.Core.Path.{◌≡◌, sym, ap, ap₂, ◌∙◌, subst}
use mathlib.Core.Logic.{◌≢◌}
use mathlib.Core.List.{List, [], ◌∷◌}
use Prim.Native.Nat.{ℕ, ◌+◌, ◌-◌, ◌^◌, ◌<◌, ◌≤◌}
use native.Mathlib.Nat.{not-suc-le-zero}
use native.Mathlib.Numerals.{add-one}
use native.Mathlib.Omega.{arith}
use lib.ListN.{length}
use Rattle.algebra.specs.Lists.{entry_of}
use Rattle.std.specs.Result.{IsErrAnd}
use Rattle.refusals.specs.Outcome.{Outcome, Done, Refused, tested}
use Rattle.refusals.specs.Rules.{fault}
use Rattle.refusals.specs.Testing.{passes, tested_due, handed_on}
use Rattle.params.specs.declared.Parameters.{Parameters}
use Rattle.simulation.specs.declared.Verdict.{Verdict}
use Rattle.simulation.specs.Steps.{Steps, step_count, rules_at}
use Rattle.simulation.proofs.StepLaws.{PassBelow, pass_suc, steps_pass, steps_stop}
use Rattle.simulation.specs.Ride.{verdict_at, counts_up_to, ride_counts}
use Rattle.simulation.proofs.RideLaws.{counts_start, counts_turn, counts_stop, counts_few}
use Rattle.simulation.specs.Answers.{longest_ride, counts_long}
use Rattle.simulation.specs.Parts.{tallied, Countable, StepsRidden}

-- what holds when i steps were made
pub record Riding (c : Parameters) (h cols : List ℕ) (σ : Steps) (i : ℕ) (counts : List ℕ) : Type 0 where
  pub bound : i ≤ step_count σ
  pub passed : PassBelow (length cols) σ i
  pub so_far : counts ≡ counts_up_to c h cols σ i

pub riding_start : (c : Parameters) (h cols : List ℕ) (σ : Steps) {counts : List ℕ} → counts ≡ 0 ∷ 0 ∷ 0 ∷ 0 ∷ [] → Riding c h cols σ 0 counts
riding_start c h cols σ e =
    record { bound = omega arith; passed = λ j l. absurd (not-suc-le-zero l); so_far = e ∙ sym (counts_start c h cols σ) }

module _ {c : Parameters} {h cols : List ℕ} {σ : Steps} {i : ℕ} {counts : List ℕ} (R : Riding c h cols σ i counts) where
  pub riding_long : length counts ≡ counts_long
  unfolding counts_up_to
  riding_long = ap length R.so_far

  -- the counts stay far below what 32 bits hold
  pub riding_countable : step_count σ ≤ longest_ride → Countable counts
  riding_countable short =
      record {
        long = riding_long;
        below = λ j. subst (λ (l : List ℕ). entry_of l j < 2 ^ 32 - 1) (sym R.so_far) (few (counts_few c h cols σ i j));
      }
    where
      few : {x : ℕ} → x ≤ i → x < 2 ^ 32 - 1
      few l = omega (arith, R.bound)

  pub riding_turn : {v : Verdict} {new : List ℕ} → i < step_count σ → fault (rules_at (length cols) σ i) ≡ 0
      → v ≡ verdict_at c h cols σ i → new ≡ tallied v counts → Riding c h cols σ (i + 1) new
  riding_turn {v = v} l none is e =
      let pass = pass_suc (length cols) σ R.passed none in
      let next = sym (add-one i) in
      record {
        bound = omega arith;
        passed = subst (PassBelow (length cols) σ) next pass;
        so_far = e ∙ ap₂ tallied is R.so_far ∙ sym (counts_turn c h cols σ pass) ∙ ap (counts_up_to c h cols σ) next;
      }

  -- a step that is refused ends the ride
  pub riding_stops : {number : ℕ} (r : Outcome) → i < step_count σ → Refused number ≡ tested (fault (rules_at (length cols) σ i))
      → IsErrAnd r (λ y. y ≡ number) → StepsRidden c h cols σ r counts
  unfolding ride_counts
  riding_stops r l is e =
      let (ne, due) = tested_due is in
      let broken : fault (rules_at (length cols) σ i) ≢ 0 = λ z. ne (due ∙ z) in
      record {
        outcome = handed_on r e ∙ is ∙ ap tested (sym (steps_stop (length cols) σ (step_count σ) l R.passed broken));
        counts_are = R.so_far ∙ sym (counts_stop c h cols σ R.bound broken);
      }

  pub riding_ends : step_count σ ≤ i → StepsRidden c h cols σ Done counts
  unfolding ride_counts
  riding_ends l =
      let all : i ≡ step_count σ = omega (arith, R.bound) in
      record {
        outcome = passes (steps_pass (length cols) σ (step_count σ) (subst (PassBelow (length cols) σ) all R.passed));
        counts_are = R.so_far ∙ ap (counts_up_to c h cols σ) all;
      }
