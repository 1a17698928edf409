-- `evaluate` meets its contract: each return is at one way that the reading of the text ends.
use Rattle.formula.specs.Lending.{lent}
use Rattle.formula.proofs.Ending.{too_long, nothing_read, worked}
use Rattle.formula.proofs.evaluate.Goals as goal

pub returns-then-text-gt-LONGEST_TEXT : goal.returns-then-text-gt-LONGEST_TEXT
returns-then-text-gt-LONGEST_TEXT c = too_long c.if-text-gt-LONGEST_TEXT.true

pub returns-in_default : goal.returns-in_default
returns-in_default c = nothing_read c.sum.ensures c.in_default.is

pub returns : goal.returns
returns c =
    let g = c.args in
    worked {β = lent g.letters.now.blocks} c.sum.ensures c.in-Some.is
    c.if-text-gt-LONGEST_TEXT.false c.check_end.ensures
