-- `syndrome` meets its contract: what the beginning refused is refused, and else the columns that it numbered are those of the setting.
use mathlib.Core.Path.{sym, ◌∙◌}
use lib.Dec.{eqb}
use lib.ListN.{length}
use borrow.Author.Tests.{eqb-true}
use Rattle.shortened.proofs.BegunLaws.{begun_sent, begun_refuses_both, begun_accepted, begun_long, of_begun, begun_ends}
use Rattle.parity.proofs.OfCode.{on_columns}
use Rattle.parity.specs.Word.{syndrome_of}
use Rattle.words.specs.Answers.{bit_rules, syndrome_fault, syndrome_answer, syndrome_after}
use Rattle.words.proofs.syndrome.Goals as goal

pub returns-in-Err : goal.returns-in-Err
unfolding syndrome_answer syndrome_after syndrome_fault
returns-in-Err c =
    let begun = begun_sent (eqb (length c.args.word.now)) c.begin.ensures c.places.ensures in
    let (answer, buffer) = begun_refuses_both begun c.in-Err.is _ _ _ in
    record { value = answer; out_after = buffer }

pub syndrome-requires : goal.syndrome-requires
syndrome-requires c =
    let begun = begun_sent (eqb (length c.args.word.now)) c.begin.ensures c.places.ensures in
    let (rows, words, accepted, fits) = begun_accepted begun c.in-Ok.is in (
      on_columns c.in-Ok.code,
      begun_long begun c.in-Ok.is (eqb-true _ _ words),
      eqb-true _ _ rows ∙ sym (of_begun begun c.in-Ok.is (λ c h cols. c.t)),
    )

pub returns-in-Ok : goal.returns-in-Ok
unfolding syndrome_answer syndrome_after syndrome_fault
returns-in-Ok c =
    let a = c.args in
    let begun = begun_sent (eqb (length a.word.now)) c.begin.ensures c.places.ensures in
    let (answer, buffer) =
    begun_ends begun c.in-Ok.is
    (λ c h cols. bit_rules a.word.now)
    (λ c h cols. syndrome_of c h cols a.word.now) c.syndrome.ensures in
    record { value = answer; out_after = buffer }
