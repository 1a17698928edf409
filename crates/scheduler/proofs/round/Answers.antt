-- `round` meets its contract: what the beginning refused is refused, and else the columns that it numbered are those of the sent places.
use mathlib.Core.Path.{refl, subst}
use mathlib.Core.List.{List}
use Prim.Native.Nat.{ℕ}
use Rattle.refusals.specs.Rules.{Rule}
use Rattle.params.specs.declared.Parameters.{Parameters}
use Rattle.refusals.specs.Outcome.{Done, Refused}
use Rattle.shortened.proofs.BegunLaws.{begun_refuses, begun_accepted, begun_long, begun_ends}
use Rattle.shortened.specs.Setting.{short_code, places}
use Rattle.scheduler.specs.State.{state_of}
use Rattle.scheduler.specs.Round.{round_waiting, round_next, round_answers, round_handed}
use Rattle.scheduler.specs.Answers.{round_rules, round_fault, round_answer, waiting_after, next_after, answers_after, handed_after}
use Rattle.scheduler.specs.Parts.{LentState}
use Rattle.scheduler.specs.StateLaws.{lent_state}
use Rattle.scheduler.proofs.Rounding.{round_began}
use Rattle.scheduler.proofs.round.Goals as goal

pub returns-in-Err : goal.returns-in-Err
unfolding round_answer waiting_after next_after answers_after handed_after round_fault
returns-in-Err c =
    let a = c.args in
    let σ = state_of a.waiting.now a.words.now a.next.now in
    let begun =
    round_began a.d σ a.answers.now a.handed.now c.begin.ensures c.is_parts_length-words_long.ensures
    c.is_parts_length-handed_long.ensures c.places-sent.ensures c.whole_code-s.ensures in
    record {
      value = begun_refuses begun c.in-Err.is _ Refused Done;
      waiting_after = begun_refuses begun c.in-Err.is _ (λ k. a.waiting.now) _;
      next_after = begun_refuses begun c.in-Err.is _ (λ k. a.next.now) _;
      answers_after = begun_refuses begun c.in-Err.is _ (λ k. a.answers.now) _;
      handed_after = begun_refuses begun c.in-Err.is _ (λ k. a.handed.now) _;
    }

pub round_on-requires : goal.round_on-requires
round_on-requires c =
    let a = c.args in
    let σ = state_of a.waiting.now a.words.now a.next.now in
    let begun =
    round_began a.d σ a.answers.now a.handed.now c.begin.ensures c.is_parts_length-words_long.ensures
    c.is_parts_length-handed_long.ensures c.places-sent.ensures c.whole_code-s.ensures in
    let (others, words, A, F) = begun_accepted begun c.in-Ok.is in
    subst (λ (n : ℕ). LentState a.d n σ a.answers.now a.handed.now) (begun_long begun c.in-Ok.is refl)
    (lent_state a.d (places (short_code a.hidden.now)) σ a.answers.now a.handed.now others words)

pub returns-in-Ok : goal.returns-in-Ok
unfolding round_answer waiting_after next_after answers_after handed_after round_fault
returns-in-Ok c =
    let a = c.args in
    let σ = state_of a.waiting.now a.words.now a.next.now in
    let begun =
    round_began a.d σ a.answers.now a.handed.now c.begin.ensures c.is_parts_length-words_long.ensures
    c.is_parts_length-handed_long.ensures c.places-sent.ensures c.whole_code-s.ensures in
    let ends = c.round_on.ensures in
    let more : Parameters → List ℕ → List ℕ → List Rule = λ c h cols. round_rules a.d σ cols in
    let (answer, waiting) = begun_ends begun c.in-Ok.is more (λ c h cols. round_waiting c h cols a.d σ) ends.waiting_end in
    record {
      value = answer;
      waiting_after = waiting;
      next_after = (begun_ends begun c.in-Ok.is more (λ c h cols. round_next c h cols a.d σ) ends.next_end).1;
      answers_after = (begun_ends begun c.in-Ok.is more (λ c h cols. round_answers c h cols a.d σ) ends.answers_end).1;
      handed_after = (begun_ends begun c.in-Ok.is more (λ c h cols. round_handed c h cols a.d σ a.handed.now) ends.handed_end).1;
    }
