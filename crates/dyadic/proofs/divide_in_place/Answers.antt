-- `divide_in_place` meets its contract: the loop multiplies the entries by the inverse, and what it has not yet filled is still there.
use mathlib.Core.Path.{refl, sym, ap₂, ◌∙◌, subst}
use Prim.Native.Nat.{ℕ, ◌<◌, ◌^◌}
use native.Mathlib.Nat.{le_refl}
use lib.ListN.{length}
use Rattle.algebra.specs.Filling.{filling_start, filling_turn, filling_old, filling_end}
use Rattle.field.specs.Gf.{gf}
use Rattle.dyadic.specs.Block.{quotient}
use Rattle.dyadic.proofs.Quotients.{quotients}
use Rattle.dyadic.proofs.divide_in_place.Goals as goal

pub loop-entry-init : goal.loop-entry-init
loop-entry-init c =
    let g = c.args in
    filling_start (quotients g.m g.block.now g.c) (length g.block.now) g.block.now refl

pub product-requires : goal.product-requires
product-requires c =
    let l = c.loop-entry in
    let old = filling_old l.invariant l.entry-index 0 (le_refl l.entry-index) in (
      c.requires.0,
      subst (λ (x : ℕ). x < 2 ^ c.args.m) (sym old) (c.requires.2 l.entry-index c.loop-entry-test.true),
      c.inverse-factor.ensures.1,
    )

pub loop-entry-preserved : goal.loop-entry-preserved
loop-entry-preserved c =
    let l = c.loop-entry in
    let m = c.args.m in
    filling_turn l.invariant c.loop-entry-test.true
    (c.product.ensures.0 ∙ ap₂ (gf m).mul (filling_old l.invariant l.entry-index 0 (le_refl l.entry-index)) c.inverse-factor.ensures.0)

pub returns : goal.returns
unfolding quotient
returns c = filling_end c.loop-entry.invariant c.loop-entry-test.false
