-- `raise` meets its contract. The loop's invariant: the coefficients passed are raised, `lower` is the last of them as it was, and so is the rest.
use Prim.Native.Nat.{ℕ}
use native.Mathlib.Omega.{arith}
use Rattle.std.proofs.lemmas.List.{length-take}
use Rattle.algebra.specs.Xor.{◌⊕◌}
use Rattle.locator.proofs.Loops.{raise_start, raise_element, raise_turn, raise_end}
use Rattle.locator.proofs.raise.Goals as goal

pub loop-coefficient-init : goal.loop-coefficient-init
loop-coefficient-init c = raise_start c.requires.0 c.requires.1 c.args.r c.requires.3

pub product-requires : goal.product-requires
product-requires c =
    (c.requires.0, c.requires.2, raise_element c.requires.0 c.requires.1 c.args.r c.requires.3 c.loop-coefficient.invariant (omega (arith, length-take {A = ℕ}, c.requires.3.long)))

pub loop-coefficient-preserved : goal.loop-coefficient-preserved
unfolding ◌⊕◌
loop-coefficient-preserved c =
    raise_turn c.requires.0 c.requires.1 c.args.r c.requires.3 c.loop-coefficient.invariant (omega (arith, length-take {A = ℕ}, c.requires.3.long)) c.product.ensures.0

pub returns : goal.returns
returns c = raise_end c.requires.0 c.requires.1 c.args.r c.requires.3 c.loop-coefficient.invariant (omega (arith, length-take {A = ℕ}, c.requires.3.long))
