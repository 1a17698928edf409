-- `sum` meets its contract: the loop fills the buffer with the sums of entries.
use Rattle.std.proofs.Common.{refl, ap, ◌∙◌, ℕ, length}
use Rattle.algebra.specs.Filling.{filling_start, filling_turn, filling_end}
use Rattle.algebra.specs.Tabulate.{tabulate}
use Rattle.algebra.specs.Xor.{◌⊕◌}
use Rattle.dyadic.specs.Block.{block_sum}
use Rattle.dyadic.proofs.Sums.{sums}
use Rattle.dyadic.proofs.sum.Goals as goal

pub loop-i-init : goal.loop-i-init
loop-i-init c = filling_start (sums c.args.a.now c.args.b.now) (length c.args.out.now) c.args.out.now refl

pub loop-i-preserved : goal.loop-i-preserved
unfolding ◌⊕◌
loop-i-preserved c = filling_turn c.loop-i.invariant c.loop-i-test.true refl

pub returns : goal.returns
unfolding block_sum
returns c = λ m.
    filling_end c.loop-i.invariant c.loop-i-test.false
    ∙ ap (λ (n : ℕ). tabulate n (sums c.args.a.now c.args.b.now)) c.requires.1
