-- `write_row` meets its contract: what the beginning refuses is refused, and else the columns that it numbered are those of the setting.
use lib.Dec.{eqb}
use lib.ListN.{length}
use borrow.Author.Tests.{eqb-true}
use Rattle.shortened.proofs.BegunLaws.{begun_sent, begun_refuses_both, begun_accepted, begun_long, begun_ends}
use Rattle.rows.specs.Answers.{write_rules, row_word, write_fault, write_answer, write_after}
use Rattle.rows.proofs.write_row.Goals as goal

pub returns-in-Err : goal.returns-in-Err
unfolding write_answer write_after write_fault
returns-in-Err c =
    let begun = begun_sent (eqb (length c.args.word.now)) c.begin.ensures c.places.ensures in
    let (answer, buffer) = begun_refuses_both begun c.in-Err.is _ _ _ in
    record { value = answer; word_after = buffer }

pub write-requires : goal.write-requires
write-requires c =
    let begun = begun_sent (eqb (length c.args.word.now)) c.begin.ensures c.places.ensures in
    begun_long begun c.in-Ok.is (eqb-true _ _ (begun_accepted begun c.in-Ok.is).1)

pub returns-in-Ok : goal.returns-in-Ok
unfolding write_answer write_after write_fault
returns-in-Ok c =
    let a = c.args in
    let begun = begun_sent (eqb (length a.word.now)) c.begin.ensures c.places.ensures in
    let (answer, buffer) =
    begun_ends begun c.in-Ok.is
    (λ c h cols. write_rules c h cols a.gear a.lamp)
    (λ c h cols. row_word c h cols a.gear a.lamp) c.write.ensures in
    record { value = answer; word_after = buffer }
