-- `internal::inverse` meets its contract. The loop's invariant: what is multiplied, and the squares still to come, is the inverse.
use mathlib.Core.Path.{sym, ap, ◌∙◌, subst₂}
use Prim.Native.Nat.{ℕ, ◌+◌}
use Rattle.field.specs.Product.{product}
use Rattle.field.specs.Words.{word}
use Rattle.field.proofs.Shift.{Chaining, chain_start, chain_turn, chain_end}
use Rattle.field.proofs.internal.inverse.Goals as goal

pub loop-init : goal.loop-init
loop-init c = (c.requires.0, chain_start c.args.m c.requires.0 c.args.a c.requires.1)

pub product-squared-requires : goal.product-squared-requires
product-squared-requires c =
    let inv = c.loop.invariant in
    (inv.0, inv.1.squared_lt, inv.1.squared_lt)

pub product-result-requires : goal.product-result-requires
product-result-requires c =
    let inv = c.loop.invariant in
    (inv.0, inv.1.result_lt, c.product-squared.ensures.1)

pub loop-preserved : goal.loop-preserved
loop-preserved c =
    let m = c.args.m in
    let a = c.args.a in
    let l = c.loop in
    let squaring = c.product-squared.ensures.0 in
    let multiplying = c.product-result.ensures.0 ∙ ap (product m (word m) l.result) squaring in (
      l.invariant.0,
      subst₂ (λ (x y : ℕ). Chaining m l.invariant.0 a x y (l.counter + 1)) (sym squaring) (sym multiplying)
          (chain_turn m l.invariant.0 a l.squared l.result l.counter c.loop-test.true l.invariant.1),
    )

pub returns : goal.returns
returns c =
    let l = c.loop in (
      chain_end c.args.m l.invariant.0 c.args.a l.squared l.result l.counter c.loop-test.false
          l.invariant.1,
      l.invariant.1.result_lt,
    )
