-- `elimination::parity_row` meets its contract. The loop's invariant: the places passed hold their bit, and the others nothing.
use mathlib.Core.Path.{refl, ◌∙◌}
use borrow.Author.Rules.{rules}
use lib.ListN.{length}
use Rattle.basis.specs.Table.{parity_bit}
use Rattle.basis.proofs.Building.{filled, building_start, building_turn}
use Rattle.basis.proofs.elimination.parity_row.Goals as goal

pub loop-j-init : goal.loop-j-init
loop-j-init c =
    let a = c.args in
    (refl, building_start (parity_bit a.h.now a.cols.now a.i a.b) (length a.cols.now) c.requires.0 (filled a.row.now (c.fill.ensures.after (search rules))))

pub loop-j-preserved : goal.loop-j-preserved
unfolding parity_bit
loop-j-preserved c =
    let l = c.loop-j in
    let mark = c.mark.ensures in
    (mark.long ∙ l.invariant.0, building_turn l.invariant.1 c.loop-j-test.true c.parity_bit.ensures.0 mark)
