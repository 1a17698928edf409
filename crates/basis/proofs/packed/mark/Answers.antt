-- `packed::mark` meets its contract: the bit stays inside its word, and no other place is touched.
use mathlib.Core.Path.{sym, subst}
use Prim.Native.Nat.{ℕ, ◌/◌, ◌%◌}
use native.Mathlib.Omega.{arith}
use lib.Bits.{bit_xor}
use lib.ListN.{set}
use lib.Pow.{shl_exact}
use Rattle.algebra.specs.Xor.{◌⊕◌}
use Rattle.algebra.specs.Lists.{entry_of}
use Rattle.basis.specs.Packed.{Marked, marked}
use Rattle.basis.proofs.packed.mark.Goals as goal

pub returns : goal.returns
unfolding ◌⊕◌
returns c =
    let row = c.args.row.now in
    let p = c.args.p in
    let b = c.args.b in
    subst (λ (x : ℕ). Marked row p b (set row (p / 64) (bit_xor (entry_of row (p / 64)) x)))
    (sym (shl_exact 1 (p % 64) 64 c.requires.1 (omega arith)))
    (marked row p b c.requires.0 c.requires.1)
