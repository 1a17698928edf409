-- `add` meets its contract: the sum of two entries is the same at every width.
use Rattle.slices.proofs.Adding.{sums_are}
use Rattle.algebra.specs.Xor.{◌⊕◌}
use Rattle.dyadic.specs.Block.{block_sum}
use Rattle.dyadic.proofs.add.Goals as goal

pub returns : goal.returns
unfolding block_sum ◌⊕◌
returns c = λ m. sums_are c.args.other.now c.args.value.now _ c.add.ensures.same_length c.add.ensures.sums
