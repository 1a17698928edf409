-- `place` meets its contract. The loop's invariant: the free places passed hold the first entries of the message, `taken` of them, the others 0,
-- and the rest is as it was.
use mathlib.Core.Bool.{true, false}
use native.Mathlib.Omega.{arith}
use Rattle.algebra.specs.Filling.{filling_end}
use Rattle.basis.specs.Table.{placed_at}
use Rattle.systematic.proofs.Places.{led, free, place_start, place_index, place_turn}
use Rattle.systematic.proofs.place.Goals.{then-leads-j-eq1, else-leads-j-eq1}
use Rattle.systematic.proofs.place.Goals as goal

pub loop-j-init : goal.loop-j-init
loop-j-init c = place_start c.args.message.now c.args.leads.now c.args.word.now

pub bounds-message-taken : goal.bounds-message-taken
bounds-message-taken c =
    place_index c.loop-j.invariant (omega arith) c.if-leads-j-eq1.false c.requires.1

pub overflow_add-taken : goal.overflow_add-taken
overflow_add-taken c = omega (arith, place_index c.loop-j.invariant (omega arith) c.if-leads-j-eq1.false c.requires.1)

pub loop-j-preserved : goal.loop-j-preserved
loop-j-preserved c =
    let leads = c.args.leads.now in
    let l = c.loop-j in
    elim c.if-leads-j-eq1.branch [ then-leads-j-eq1 w ↦ place_turn l.invariant (omega arith) false (led leads l.j w.if-leads-j-eq1.true) w.word-is w.taken-is | else-leads-j-eq1 w ↦ place_turn l.invariant (omega arith) true (free leads l.j w.if-leads-j-eq1.false) w.word-is w.taken-is ]

pub returns : goal.returns
unfolding placed_at
returns c = filling_end c.loop-j.invariant.filling (omega arith)
