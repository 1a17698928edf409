-- `syndromes::syndrome_at` meets its contract. The loop's invariant: `sum` is the sum over the places passed, and an element.
use native.Mathlib.Omega.{arith}
use Rattle.algebra.specs.Xor.{◌⊕◌}
use Rattle.parity.specs.Parity.{signature_sum}
use Rattle.parity.proofs.Summing.{sum_start, sum_turn, sum_end}
use Rattle.parity.proofs.syndromes.syndrome_at.Goals as goal

pub loop-j-init : goal.loop-j-init
loop-j-init c = sum_start c.args.m c.args.h.now c.args.cols.now c.args.word.now c.args.i

pub offset_bounds-h-at : goal.offset_bounds-h-at
unfolding ◌⊕◌
offset_bounds-h-at c = omega (arith, c.requires.1 c.loop-j.j (omega arith))

pub bounds-h-at : goal.bounds-h-at
unfolding ◌⊕◌
bounds-h-at c = c.requires.1 c.loop-j.j (omega arith)

pub loop-j-preserved : goal.loop-j-preserved
unfolding ◌⊕◌
loop-j-preserved c =
    let (S, reach) = c.requires in
    let l = c.loop-j in
    sum_turn l.invariant (omega arith) (S.bits l.j (omega (arith, S.long))) (S.elements _ (reach l.j (omega arith)))

pub returns : goal.returns
unfolding signature_sum
returns c = let S = c.loop-j.invariant in (sum_end S (omega arith), S.element)
