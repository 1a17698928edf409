-- `encode` meets its contract: what the beginning refused is refused, and else the columns that it numbered are those of the setting.
use lib.Dec.{eqb}
use lib.ListN.{length}
use borrow.Author.Tests.{eqb-true}
use Rattle.shortened.proofs.BegunLaws.{begun_sent, begun_refuses_both, begun_accepted, begun_long, begun_ends}
use Rattle.slices.specs.Bits.{all_bits}
use Rattle.parity.proofs.OfCode.{on_columns}
use Rattle.parity.specs.Columns.{dimension, encoding_of}
use Rattle.messages.specs.MessageRules.{message_rules}
use Rattle.words.specs.Answers.{encode_fault, encode_answer, encode_after}
use Rattle.words.proofs.encode.Goals as goal

pub returns-in-Err : goal.returns-in-Err
unfolding encode_answer encode_after encode_fault
returns-in-Err c =
    let begun = begun_sent (eqb (length c.args.word.now)) c.begin.ensures c.places.ensures in
    let (answer, buffer) = begun_refuses_both begun c.in-Err.is _ _ _ in
    record { value = answer; word_after = buffer }

pub encode-requires : goal.encode-requires
encode-requires c =
    let begun = begun_sent (eqb (length c.args.word.now)) c.begin.ensures c.places.ensures in
    (on_columns c.in-Ok.code, begun_long begun c.in-Ok.is (eqb-true _ _ (begun_accepted begun c.in-Ok.is).1))

pub returns-in-Ok : goal.returns-in-Ok
unfolding encode_answer encode_after encode_fault
returns-in-Ok c =
    let a = c.args in
    let begun = begun_sent (eqb (length a.word.now)) c.begin.ensures c.places.ensures in
    let (answer, buffer) =
    begun_ends begun c.in-Ok.is
    (λ c h cols. message_rules (dimension c h cols) (length a.message.now) (all_bits a.message.now))
    (λ c h cols. encoding_of c h cols a.message.now) c.encode.ensures in
    record { value = answer; word_after = buffer }
