-- `offer` meets its contract: what the beginning refused is refused, and else the word has an entry for each sent place, and its sender a part.
use mathlib.Core.List.{List, ◌++◌}
use lib.ListN.{set}
use Rattle.algebra.specs.Parts.{with_part}
use Rattle.refusals.specs.Rules.{Rule}
use Rattle.refusals.specs.Outcome.{Done, Refused}
use Rattle.shortened.proofs.BegunLaws.{begun_refuses, begun_accepted, begun_ends}
use Rattle.shortened.specs.Setting.{short_code, places}
use Rattle.scheduler.specs.State.{dash_rules, offer_rules}
use Rattle.scheduler.specs.Answers.{offer_fault, offer_answer, offer_waiting, offer_words}
use Rattle.scheduler.proofs.Beginning.{offer_lent, offer_began, kept_wide}
use Rattle.scheduler.proofs.offer.Goals as goal

pub returns-in-Err : goal.returns-in-Err
unfolding offer_answer offer_waiting offer_words offer_fault
returns-in-Err c =
    let a = c.args in
    let begun =
    offer_began a.d a.word.now a.words.now c.begin.ensures c.is_parts_length.ensures
    c.places-sent.ensures c.whole_code-s.ensures in
    record {
      value = begun_refuses begun c.in-Err.is _ Refused Done;
      waiting_after = begun_refuses begun c.in-Err.is _ (λ k. a.waiting.now) _;
      words_after = begun_refuses begun c.in-Err.is _ (λ k. a.words.now) _;
    }

pub offer_on-requires : goal.offer_on-requires
offer_on-requires c =
    let a = c.args in
    let begun =
    offer_began a.d a.word.now a.words.now c.begin.ensures c.is_parts_length.ensures
    c.places-sent.ensures c.whole_code-s.ensures in
    let (others, words, A, F) = begun_accepted begun c.in-Ok.is in
    (offer_lent a.d a.word.now a.waiting.now a.words.now (places (short_code a.hidden.now)) others words).1

pub returns-in-Ok : goal.returns-in-Ok
unfolding offer_answer offer_waiting offer_words offer_fault
returns-in-Ok c =
    let a = c.args in
    let begun =
    offer_began a.d a.word.now a.words.now c.begin.ensures c.is_parts_length.ensures
    c.places-sent.ensures c.whole_code-s.ensures in
    let (others, words, A, F) = begun_accepted begun c.in-Ok.is in
    let fits = (offer_lent a.d a.word.now a.waiting.now a.words.now (places (short_code a.hidden.now)) others words).0 in
    let call = c.offer_on.ensures in
    let rules : List Rule = dash_rules a.d ++ offer_rules a.d a.sender a.word.now a.waiting.now in
    let kept = kept_wide a.sender a.word.now {rules = rules} fits call.kept in
    let (answer, marks) = begun_ends begun c.in-Ok.is (λ c h cols. rules) (λ c h cols. set a.waiting.now a.sender 1) call.marks in
    let words' = with_part (places (short_code a.hidden.now)) a.words.now a.sender a.word.now in
    record {
      value = answer;
      waiting_after = marks;
      words_after = (begun_ends begun c.in-Ok.is (λ c h cols. rules) (λ c h cols. words') kept).1;
    }
