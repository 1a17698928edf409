-- How a ride ends, over plain numbers and lists: which number is due, and what the counts then are.
use mathlib.Core.Path.{◌≡◌, refl, sym, ap, ◌∙◌}
use mathlib.Core.List.{List, []}
use Prim.Native.Nat.{ℕ, ◌≤◌, ◌<◌}
use native.Mathlib.Omega.{arith}
use Rattle.refusals.specs.Outcome.{Outcome, Refused, tested}
use Rattle.refusals.specs.Testing.{refuses}
use Rattle.refusals.specs.RuleLaws.{fault_here, fault_past, fault_empty, refuse, given}
use Rattle.params.specs.declared.Parameters.{Parameters}
use Rattle.parity.specs.Columns.{dimension}
use Rattle.gears.specs.Rows.{row_bits}
use Rattle.rows.proofs.Ending.{narrow, wide}
use Rattle.simulation.specs.Answers.{start_rules, ride_rules}
use Rattle.simulation.specs.Parts.{StepsRidden, RideEnded}
use Rattle.simulation.specs.Steps.{Steps}

-- ---- where k is the number of message columns

module _ (c : Parameters) (h cols : List ℕ) (σ : Steps) {k : ℕ} (k-is : k ≡ dimension c h cols) (old : List ℕ) where
  pub ride_narrow : k < row_bits → RideEnded c h cols σ old (Refused 12) old
  unfolding ride_rules start_rules
  ride_narrow l =
      record {
        outcome = refuses (sym (fault_here 12 _ (narrow c h cols k-is l)));
        counts_are = refuse {k = 12} (λ k. old) _ (sym (fault_here 12 [] (narrow c h cols k-is l))) (λ z. omega arith);
      }

  pub ride_starts : row_bits ≤ k → {found : Outcome} {counts : List ℕ} → StepsRidden c h cols σ found counts → RideEnded c h cols σ old found counts
  unfolding ride_rules start_rules
  ride_starts l R =
      record {
        outcome = R.outcome ∙ ap tested (sym (fault_past 12 _ (wide c h cols k-is l) refl));
        counts_are = R.counts_are ∙ sym (given (λ k. old) _ (fault_past 12 [] (wide c h cols k-is l) fault_empty));
      }
