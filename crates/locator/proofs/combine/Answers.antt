-- `combine` meets its contract. The loop's invariant: the coefficients passed are combined, and the rest is as it was.
use native.Mathlib.Omega.{arith}
use Rattle.algebra.specs.Xor.{◌⊕◌}
use Rattle.locator.proofs.Loops.{combine_start, combine_element, combine_turn, combine_end}
use Rattle.locator.proofs.combine.Goals as goal

pub loop-k-init : goal.loop-k-init
loop-k-init c =
    let (W, short, _, _) = c.requires.width in
    combine_start W short c.args.a c.args.b c.requires.half.0 c.requires.half.1

pub product-requires : goal.product-requires
product-requires c =
    let width = c.requires.width in
    let half = c.requires.half in
    (width.0, width.2, combine_element width.0 width.1 c.args.a c.args.b half.0 half.1 c.loop-k.invariant (omega arith))

pub loop-k-preserved : goal.loop-k-preserved
unfolding ◌⊕◌
loop-k-preserved c =
    let width = c.requires.width in
    let half = c.requires.half in
    combine_turn width.0 width.1 c.args.a c.args.b half.0 half.1 c.loop-k.invariant (omega arith) c.product.ensures.0 c.product-in-loop-k.ensures.0

pub returns : goal.returns
returns c =
    let width = c.requires.width in
    let half = c.requires.half in
    combine_end width.0 width.1 c.args.a c.args.b half.0 half.1 c.loop-k.invariant half.2 (omega arith)
