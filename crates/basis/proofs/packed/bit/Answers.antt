-- `packed::bit` meets its contract: a shift and a remainder are the bit.
use mathlib.Core.Path.{refl}
use Rattle.algebra.specs.Bits.{bit_at}
use Rattle.basis.specs.Packed.{packed_bit}
use Rattle.basis.proofs.packed.bit.Goals as goal

pub returns : goal.returns
unfolding packed_bit bit_at
returns c = refl
