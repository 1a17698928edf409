-- `message` meets its contract: what the beginning refused is refused, and else the columns that it numbered are those of the setting.
use lib.Dec.{eqb}
use lib.ListN.{length}
use borrow.Author.Tests.{eqb-true}
use Rattle.shortened.proofs.BegunLaws.{begun_sent, begun_refuses_both, begun_accepted, begun_long, begun_ends}
use Rattle.slices.specs.Bits.{all_bits}
use Rattle.parity.proofs.OfCode.{on_columns}
use Rattle.parity.specs.Columns.{dimension, message_of}
use Rattle.messages.specs.MessageRules.{message_rules}
use Rattle.words.specs.Answers.{message_fault, message_answer, message_after}
use Rattle.words.proofs.message.Goals as goal

pub returns-in-Err : goal.returns-in-Err
unfolding message_answer message_after message_fault
returns-in-Err c =
    let begun = begun_sent (eqb (length c.args.word.now)) c.begin.ensures c.places.ensures in
    let (answer, buffer) = begun_refuses_both begun c.in-Err.is _ _ _ in
    record { value = answer; message_after = buffer }

pub message-requires : goal.message-requires
message-requires c =
    let begun = begun_sent (eqb (length c.args.word.now)) c.begin.ensures c.places.ensures in
    (on_columns c.in-Ok.code, begun_long begun c.in-Ok.is (eqb-true _ _ (begun_accepted begun c.in-Ok.is).1))

pub returns-in-Ok : goal.returns-in-Ok
unfolding message_answer message_after message_fault
returns-in-Ok c =
    let a = c.args in
    let begun = begun_sent (eqb (length a.word.now)) c.begin.ensures c.places.ensures in
    let (answer, buffer) =
    begun_ends begun c.in-Ok.is
    (λ c h cols. message_rules (dimension c h cols) (length a.message.now) (all_bits a.word.now))
    (λ c h cols. message_of c h cols a.word.now) c.message.ensures in
    record { value = answer; message_after = buffer }
