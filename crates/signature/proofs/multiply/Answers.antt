-- `multiply` meets its contract. The loop's invariant: the places passed hold the products before them.
use mathlib.Core.Path.{◌≡◌, refl, sym, ap, ◌∙◌, subst}
use Prim.Native.Nat.{ℕ, ◌^◌, ◌<◌}
use native.Mathlib.Omega.{arith}
use lib.ListN.{length}
use Rattle.algebra.specs.Filling.{filled}
use Rattle.signature.specs.Inverses.{before}
use Rattle.signature.proofs.Inverting.{before_in, multiplying_start, multiplying_turn}
use Rattle.signature.proofs.multiply.Goals as goal

pub loop-i-init : goal.loop-i-init
loop-i-init c =
    (refl, c.requires.width, multiplying_start c.args.m c.requires.width c.args.h.now c.args.products.now)

pub product-before-requires : goal.product-before-requires
product-before-requires c =
    let l = c.loop-i in
    let (ends, W, M) = l.invariant in (
      c.requires.width,
      subst (λ (x : ℕ). x < 2 ^ c.args.m) (sym M.product_is) (before_in c.args.m W c.args.h.now l.i),
      c.requires.elements l.i c.loop-i-test.true,
    )

pub loop-i-preserved : goal.loop-i-preserved
loop-i-preserved c =
    let l = c.loop-i in (
      refl,
      l.invariant.1,
      multiplying_turn c.args.m l.invariant.1 c.args.h.now c.requires.fits l.invariant.2 c.loop-i-test.true
          c.product-before.ensures.0,
    )

pub returns : goal.returns
returns c =
    let l = c.loop-i in
    let (ends, W, M) = l.invariant in
    let m = c.args.m in
    let h = c.args.h.now in
    let whole : l.i ≡ length h = omega (arith, M.bound) in
    let all : l.before ≡ before m h (length h) = M.product_is ∙ ap (before m h) whole in
    record {
      value = (all, subst (λ (x : ℕ). x < 2 ^ m) (sym all) (before_in m W h (length h)));
      products_after = M.so_far ∙ ap (λ (k : ℕ). filled (before m h) k c.args.products.now) whole;
    }
