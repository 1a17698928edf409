-- `repair` meets its contract: what the beginning refuses is refused, and else the columns that it numbered are those of the setting.
-- The test of both lengths is found by what it says, so that a proof names no word of it.
use mathlib.Core.List.{List}
use Prim.Native.Nat.{ℕ}
use borrow.Author.Rules.{rules}
use borrow.Author.Tests.{eqb-true}
use Rattle.algebra.specs.Flags.{both_true}
use Rattle.refusals.specs.Rules.{Rule}
use Rattle.params.specs.declared.Parameters.{Parameters}
use Rattle.shortened.specs.Begun.{both_long}
use Rattle.shortened.proofs.BegunLaws.{begun_refuses, begun_accepted, begun_long, begun_passes, begun_as, begun_sent}
use Rattle.nearest.specs.Repair.{repaired_of}
use Rattle.repair.specs.declared.Recovery.TheVariants.{Repaired, Refused}
use Rattle.repair.specs.Answers.{word_rules, turned_count, repair_fault, repair_answer, repair_after}
use Rattle.repair.specs.Decoding.{word_answer, word_after}
use Rattle.repair.proofs.repair.Goals as goal

pub repair-requires : goal.repair-requires
repair-requires c =
    let a = c.args in
    let e = c.in-Ok.is in
    let begun = begun_sent (both_long a.received.now a.repaired.now) (begun_as c.begin.ensures (search rules)) c.places-sent.ensures in
    let (received, repaired) = both_true _ _ (begun_accepted begun e).1 in
    (begun_long begun e (eqb-true _ _ received), begun_long begun e (eqb-true _ _ repaired))

pub returns-in-Err : goal.returns-in-Err
unfolding repair_answer repair_after repair_fault
returns-in-Err c =
    let a = c.args in
    let e = c.in-Err.is in
    let begun = begun_sent (both_long a.received.now a.repaired.now) (begun_as c.begin.ensures (search rules)) c.places-sent.ensures in
    record { value = begun_refuses begun e _ Refused _; repaired_after = begun_refuses begun e _ (λ k. a.repaired.now) _ }

pub returns-in-Ok : goal.returns-in-Ok
unfolding repair_answer repair_after repair_fault word_answer word_after
returns-in-Ok c =
    let a = c.args in
    let e = c.in-Ok.is in
    let begun = begun_sent (both_long a.received.now a.repaired.now) (begun_as c.begin.ensures (search rules)) c.places-sent.ensures in
    let more : Parameters → List ℕ → List ℕ → List Rule = λ c h cols. word_rules c h cols a.received.now in
    let record { value = answer; repaired_after = buffer } = c.repair.ensures in
    record {
      value = begun_passes begun e more Refused (λ c h cols. Repaired (turned_count c h cols a.received.now)) answer;
      repaired_after = begun_passes begun e more (λ k. a.repaired.now) (λ c h cols. repaired_of c h cols a.received.now) buffer;
    }
