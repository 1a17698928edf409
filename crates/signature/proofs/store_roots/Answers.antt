-- `store_roots` meets its contract. The loop's invariant: what is passed is stored, and the rest is as it was.
use mathlib.Core.Path.{refl}
use native.Mathlib.Omega.{arith}
use lib.ListN.{length}
use Rattle.algebra.specs.Xor.{◌⊕◌}
use Rattle.algebra.specs.Filling.{filling_start, filling_turn, filling_end}
use Rattle.signature.specs.Inverses.{added}
use Rattle.signature.proofs.store_roots.Goals as goal

pub loop-i-init : goal.loop-i-init
loop-i-init c = (refl, filling_start (added c.args.inverses.now c.args.offset) (length c.args.roots.now) c.args.roots.now refl)

pub loop-i-preserved : goal.loop-i-preserved
unfolding ◌⊕◌
loop-i-preserved c = (refl, filling_turn c.loop-i.invariant.1 (omega arith) refl)

pub returns : goal.returns
returns c = filling_end c.loop-i.invariant.1 (omega arith)
