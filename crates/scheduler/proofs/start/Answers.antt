-- `start` meets its contract: what the beginning refused is refused, and else the dash is started.
use mathlib.Core.Path.{refl}
use mathlib.Core.Bool.{true}
use mathlib.Core.List.{List, [], ◌∷◌}
use lib.ListN.{replicate}
use Rattle.refusals.specs.Rules.{Rule}
use Rattle.refusals.specs.Outcome.{Done, Refused}
use Rattle.shortened.proofs.BegunLaws.{begun_refuses, begun_accepted, begun_ends, begun_set}
use Rattle.scheduler.specs.State.{dash_rules}
use Rattle.scheduler.specs.Answers.{start_lengths, start_fault, start_answer, start_waiting, start_next}
use Rattle.scheduler.proofs.Beginning.{start_lent}
use Rattle.scheduler.proofs.start.Goals as goal

pub returns-in-Err : goal.returns-in-Err
unfolding start_answer start_waiting start_next start_fault start_lengths
returns-in-Err c =
    let a = c.args in
    let begun = begun_set (λ k. true) c.begin.ensures refl c.whole_code-s.ensures in
    record {
      value = begun_refuses begun c.in-Err.is _ Refused Done;
      waiting_after = begun_refuses begun c.in-Err.is _ (λ k. a.waiting.now) _;
      next_after = begun_refuses begun c.in-Err.is _ (λ k. a.next.now) _;
    }

pub start_on-requires : goal.start_on-requires
unfolding start_lengths
start_on-requires c =
    let a = c.args in
    start_lent a.d a.waiting.now a.next.now (begun_accepted c.begin.ensures c.in-Ok.is).0

pub returns-in-Ok : goal.returns-in-Ok
unfolding start_answer start_waiting start_next start_fault start_lengths
returns-in-Ok c =
    let a = c.args in
    let begun = begun_set (λ k. true) c.begin.ensures refl c.whole_code-s.ensures in
    let call = c.start_on.ensures in
    let rules : List Rule = dash_rules a.d in
    let (answer, marks) = begun_ends begun c.in-Ok.is (λ c h cols. rules) (λ c h cols. replicate a.d.senders 0) call.marks in
    record {
      value = answer;
      waiting_after = marks;
      next_after = (begun_ends begun c.in-Ok.is (λ c h cols. rules) (λ c h cols. 0 ∷ []) call.turn).1;
    }
