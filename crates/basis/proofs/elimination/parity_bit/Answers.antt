-- `elimination::parity_bit` meets its contract: the entry that is asked for stands in the signature.
use mathlib.Core.Path.{refl}
use native.Mathlib.Omega.{arith}
use Rattle.algebra.specs.Bits.{bit_at}
use Rattle.algebra.specs.BitLaws.{bit_at_lt}
use Rattle.algebra.specs.Xor.{◌⊕◌}
use Rattle.algebra.specs.Lists.{entry_of}
use Rattle.basis.proofs.elimination.parity_bit.Goals as goal

pub offset_bounds-h-at : goal.offset_bounds-h-at
unfolding ◌⊕◌
offset_bounds-h-at c = omega (arith, c.requires.1)

pub bounds-h-at : goal.bounds-h-at
unfolding ◌⊕◌
bounds-h-at c = c.requires.1

pub returns : goal.returns
unfolding ◌⊕◌ bit_at
returns c =
    let a = c.args in
    (refl, bit_at_lt (entry_of a.h.now (a.i ⊕ a.column)) a.b)
