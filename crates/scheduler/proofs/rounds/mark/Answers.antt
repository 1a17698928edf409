-- `mark` meets its contract.
use mathlib.Core.Path.{sym, ◌∙◌}
use Rattle.parity.proofs.OfCode.{on_columns}
use Rattle.scheduler.proofs.Handing.{mark_none, mark_code_word, mark_other}
use Rattle.scheduler.proofs.rounds.mark.Goals as goal

pub returns-then-wait-ne1 : goal.returns-then-wait-ne1
returns-then-wait-ne1 c =
    mark_none _ _ _ _ c.if-wait-ne1.true

pub is_code_word-requires : goal.is_code_word-requires
is_code_word-requires c =
    (on_columns c.args.code.now, c.requires c.if-wait-ne1.false)

pub returns-then-is_code_word : goal.returns-then-is_code_word
returns-then-is_code_word c =
    mark_code_word _ _ _ _ c.if-wait-ne1.false
    (sym c.is_code_word.ensures ∙ c.if-is_code_word.true)

pub returns : goal.returns
returns c =
    mark_other _ _ _ _ c.if-wait-ne1.false
    (sym c.is_code_word.ensures ∙ c.if-is_code_word.false)
