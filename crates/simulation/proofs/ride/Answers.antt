-- `ride` meets its contract: what the beginning refused is refused, and else the columns that it numbered are those of the sent places.
use mathlib.Core.Path.{◌≡◌, refl, subst}
use mathlib.Core.Bool.{Bool}
use mathlib.Core.List.{List}
use Prim.Native.Nat.{ℕ, ◌*◌}
use lib.Dec.{eqb}
use lib.ListN.{length}
use Rattle.algebra.specs.Flags.{both_hold}
use Rattle.std.specs.Prelude.{Result}
use Rattle.refusals.specs.Rules.{Rule}
use Rattle.params.specs.declared.Parameters.{Parameters}
use Rattle.parity.specs.declared.Code.{Code}
use Rattle.shortened.specs.Begun.{Begun}
use Rattle.refusals.specs.Outcome.{Done, Refused}
use Rattle.shortened.proofs.BegunLaws.{begun_as, begun_set, begun_refuses, begun_accepted, begun_long, begun_passes}
use Rattle.shortened.specs.Setting.{Setting, short_code, places}
use Rattle.simulation.specs.Steps.{steps_of}
use Rattle.simulation.specs.Ride.{ride_counts}
use Rattle.simulation.specs.Answers.{ride_lengths, marks_long, start_rules, ride_rules, ride_fault, ride_answer, start_fault, ride_after}
use Rattle.simulation.specs.Lent.{LentSteps}
use Rattle.simulation.specs.LentLaws.{lent_exactly}
use Rattle.simulation.proofs.ride.Goals as goal

-- how a call begins that counted the sent places, and tested the marks of all steps by them
began : (turned gears : List ℕ) {c : Parameters} {h : List ℕ} {s s' : Setting} {others long : Bool} {sent : ℕ} {found : Result Code ℕ}
    → Begun c h s others long found → long ≡ eqb (length turned) (length gears * sent) → sent ≡ places s → s ≡ s'
    → Begun c h s' others (eqb (length turned) (length gears * places s')) found
began turned gears begun long counted is = begun_set (λ n. eqb (length turned) (length gears * n)) (begun_as begun long) counted is

pub returns-in-Err : goal.returns-in-Err
unfolding ride_answer ride_after ride_fault start_fault ride_lengths marks_long
returns-in-Err c =
    let a = c.args in
    let begun = began a.turned.now a.gears.now c.begin.ensures c.is_parts_length.ensures c.places.ensures c.whole_code-s.ensures in
    record {
      value = begun_refuses begun c.in-Err.is _ Refused Done;
      counts_after = begun_refuses begun c.in-Err.is _ (λ k. a.counts.now) _;
    }

pub ride_on-requires : goal.ride_on-requires
unfolding ride_lengths marks_long
ride_on-requires c =
    let a = c.args in
    let σ = steps_of a.gears.now a.lamps.now a.turned.now in
    let begun = began a.turned.now a.gears.now c.begin.ensures c.is_parts_length.ensures c.places.ensures c.whole_code-s.ensures in
    let (others, marks, A, F) = begun_accepted begun c.in-Ok.is in
    subst (λ (n : ℕ). LentSteps n σ a.counts.now) (begun_long begun c.in-Ok.is refl)
    ((lent_exactly (places (short_code a.hidden.now)) σ a.counts.now).0 (both_hold others marks))

pub returns-in-Ok : goal.returns-in-Ok
unfolding ride_answer ride_after ride_fault start_fault ride_lengths marks_long
returns-in-Ok c =
    let a = c.args in
    let σ = steps_of a.gears.now a.lamps.now a.turned.now in
    let begun = began a.turned.now a.gears.now c.begin.ensures c.is_parts_length.ensures c.places.ensures c.whole_code-s.ensures in
    let rode = c.ride_on.ensures in
    let own : Parameters → List ℕ → List ℕ → List Rule = λ c h cols. ride_rules c h cols σ in
    record {
      value = begun_passes begun c.in-Ok.is own Refused (λ c h cols. Done) rode.outcome;
      counts_after = begun_passes begun c.in-Ok.is start_rules (λ k. a.counts.now) (λ c h cols. ride_counts c h cols σ) rode.counts_are;
    }
