-- `complete` meets its contract. The loop's invariant: from place p on the entries at the rows' places are as the rows say, and every entry without
-- a row is as it was.
use Rattle.systematic.proofs.Places.{complete_free, complete_led}
use Rattle.systematic.proofs.complete.Goals as goal

pub loop-p-preserved-then-leads-p-eq1 : goal.loop-p-preserved-then-leads-p-eq1
loop-p-preserved-then-leads-p-eq1 c =
    complete_led c.loop-p.invariant c.loop-p-test.true c.forced.result
    c.requires.0 c.if-leads-p-eq1.true c.forced.ensures

pub loop-p-preserved : goal.loop-p-preserved
loop-p-preserved c = complete_free c.loop-p.invariant c.loop-p-test.true c.if-leads-p-eq1.false
