-- `choice_sum` meets its contract. The loop's invariant: `sum` is the sum of the values taken at the places passed.
use Rattle.algebra.specs.Bits.{bit_at}
use Rattle.algebra.specs.Xor.{◌⊕◌}
use Rattle.essence.proofs.Choosing.{choosing_start, choosing_turn, choosing_end}
use Rattle.essence.proofs.choice_sum.Goals as goal

pub loop-s-init : goal.loop-s-init
loop-s-init c = choosing_start c.args.values.now c.args.choice

pub loop-s-preserved : goal.loop-s-preserved
unfolding ◌⊕◌ bit_at
loop-s-preserved c = choosing_turn c.loop-s.invariant c.loop-s-test.true

pub returns : goal.returns
returns c = choosing_end c.loop-s.invariant c.loop-s-test.false
