-- `hand_one` meets its contract: nothing, a code word as it is, or what repair finds.
use mathlib.Core.Path.{◌≡◌, refl, sym, ◌∙◌}
use mathlib.Core.Bool.{true, false≢true}
use denote.Enum.Bare.{sameb}
use Rattle.turns.specs.contracts.Mark.{the_type}
use Rattle.turns.specs.declared.Mark.{Mark}
use Rattle.turns.specs.declared.Mark.TheVariants.{Stays, CodeWord, Other}
use Rattle.parity.proofs.OfCode.{on_columns}
use Rattle.scheduler.proofs.Handing.{none_handed, some_handed, code_word_handed}
use Rattle.scheduler.proofs.rounds.hand_one.Goals as goal

is_whole : (mark : Mark) → sameb the_type mark CodeWord ≡ true → mark ≡ CodeWord
is_whole Stays t = absurd (false≢true t)
is_whole CodeWord t = refl
is_whole Other t = absurd (false≢true t)

pub returns-then-stays : goal.returns-then-stays
returns-then-stays c =
    let ended = none_handed _ _ _ _ _ _ (sym c.stays.ensures ∙ c.if-stays.true) in
    record { value = ended.0; handed_after = ended.1 }

pub returns-then-whole : goal.returns-then-whole
returns-then-whole c =
    let (bits, is) = c.requires.bits (is_whole c.args.mark (sym c.eq-whole.ensures ∙ c.if-whole.true)) in
    let ended = code_word_handed _ _ _ _ _ _ (on_columns c.args.code.now) bits is
    (sym c.stays.ensures ∙ c.if-stays.false) c.copy.ensures in
    record { value = ended.0; handed_after = ended.1 }

pub returns : goal.returns
returns c =
    let record { value = answered; repaired_after = copied } = c.repair.ensures in
    let ended = some_handed _ _ _ _ _ _ (sym c.stays.ensures ∙ c.if-stays.false) c.recovery_code.ensures answered copied in
    record { value = ended.0; handed_after = ended.1 }
