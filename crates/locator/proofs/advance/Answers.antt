-- `advance` meets its contract, by either polynomial as the pivot.
use Rattle.locator.proofs.Turns.{chosen_first, chosen_second, advanced_first, advanced_second}
use Rattle.locator.proofs.advance.Goals as goal

pub turn-requires-clause-pivot : goal.turn-requires-clause-pivot
turn-requires-clause-pivot c = (c.requires.degree.0, chosen_first (c.leads.ensures c.args.first.now.m) c.if-leads.true)

pub returns-then-leads : goal.returns-then-leads
returns-then-leads c =
    advanced_first c.requires.width.0 c.product-square.ensures.0 c.discrepancy-a.ensures.0 c.discrepancy-b.ensures.0
    (chosen_first (c.leads.ensures c.args.first.now.m) c.if-leads.true)
    c.turn.ensures

pub turn-requires-2-clause-pivot : goal.turn-requires-2-clause-pivot
turn-requires-2-clause-pivot c = (c.requires.degree.1, chosen_second (c.leads.ensures c.args.second.now.m) c.if-leads.false)

pub returns : goal.returns
returns c =
    advanced_second c.requires.width.0 c.product-square.ensures.0 c.discrepancy-a.ensures.0 c.discrepancy-b.ensures.0
    (chosen_second (c.leads.ensures c.args.first.now.m) c.if-leads.false)
    c.turn-2.ensures
