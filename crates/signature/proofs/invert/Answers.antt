-- `invert` meets its contract. The loop's invariant: the places from i on hold inverses, and `rest` is that of the product before i.
use mathlib.Core.Path.{ap, ◌∙◌}
use mathlib.Core.List.{List}
use Prim.Native.Nat.{ℕ, ◌≤◌}
use native.Mathlib.Omega.{arith}
use lib.ListN.{length}
use Rattle.algebra.specs.Filling.{get_or_stored}
use Rattle.field.specs.Gf.{gf}
use Rattle.signature.specs.Inverses.{before}
use Rattle.algebra.specs.Lists.{entry_of}
use Rattle.signature.proofs.Inverting.{inverting_start, entry_in, inverting_turn, units}
use Rattle.signature.proofs.invert.Goals as goal

pub loop-i-init : goal.loop-i-init
loop-i-init c =
    let m = c.args.m in
    let h = c.args.h.now in
    let call = c.multiply-all in
    let room : length h ≤ length call.new.products = omega (arith, c.requires.0.fits, call.auto.products) in (
      c.requires.0.width,
      room,
      inverting_start m c.requires.0.width h room
          (λ k l. ap (λ (x : List ℕ). entry_of x k) call.ensures.products_after ∙ get_or_stored (before m h) (length h) c.args.inverses.now k 0 l)
          (c.inverse-rest.ensures.0 ∙ ap (gf m).inv call.ensures.value.0) c.inverse-rest.ensures.1,
    )

pub product-requires : goal.product-requires
product-requires c =
    let l = c.loop-i in
    (c.requires.0.width, entry_in c.args.m l.invariant.0 c.args.h.now l.invariant.1 l.invariant.2 c.loop-i-test.true, l.invariant.2.rest_in)

pub loop-i-preserved : goal.loop-i-preserved
loop-i-preserved c =
    let l = c.loop-i in (
      l.invariant.0,
      l.invariant.1,
      inverting_turn c.args.m l.invariant.0 c.args.h.now l.invariant.1 l.invariant.2
          (units c.args.m l.invariant.0 c.args.h.now c.requires.0.elements c.requires.1) c.loop-i-test.true
          c.product.ensures.0 c.product-rest.ensures.0,
    )
