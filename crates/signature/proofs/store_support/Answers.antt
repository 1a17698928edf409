-- `store_support` meets its contract.
use Rattle.algebra.specs.Xor.{◌⊕◌}
use Rattle.signature.proofs.store_support.Goals as goal

pub returns : goal.returns
unfolding ◌⊕◌
returns c = c.store_roots.ensures
