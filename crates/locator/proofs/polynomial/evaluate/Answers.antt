-- `evaluate` meets its contract. The loop's invariant: `value` is that of the coefficients from those on that are left.
use mathlib.Core.Path.{◌≡◌, sym, ap, ◌∙◌, subst}
use Prim.Native.Nat.{ℕ}
use native.Mathlib.Omega.{arith}
use Rattle.std.proofs.lemmas.List.{length-take}
use Rattle.std.specs.Slice.Iter.{iter_rest}
use Rattle.std.specs.Iterator.Adapters.{rev_source}
use Rattle.algebra.specs.Xor.{◌⊕◌}
use Rattle.locator.proofs.Loops.{Walking, evaluate_empty, evaluate_end, walking_start, walking_turn}
use Rattle.locator.proofs.polynomial.evaluate.Goals as goal

pub returns-in_default : goal.returns-in_default
returns-in_default c =
    let H = c.requires.1 in
    evaluate_empty c.requires.0 H c.args.y (omega (arith, c.in_default.ensures.cases, length-take {A = ℕ}, H.long))

pub loop-coefficient-init : goal.loop-coefficient-init
loop-coefficient-init c =
    let a = c.args in
    let left : c.in-Some.lower.now ≡ iter_rest (rev_source c.into_iter-coefficient-iterator.result) =
    sym (ap (λ s. iter_rest (rev_source s)) c.into_iter-coefficient-iterator.ensures.into_iter_gives ∙ ap iter_rest c.rev-coefficient-items.ensures.source ∙ c.iter.ensures.rest) in
    subst (Walking a.m a.n a.coefficients.now a.y c.in-Some.highest.now) left
    (walking_start c.requires.0 c.requires.1 c.requires.2 a.y _ c.in-Some.ensures.cases)

pub loop-coefficient-preserved : goal.loop-coefficient-preserved
unfolding ◌⊕◌
loop-coefficient-preserved c =
    walking_turn c.requires.0 c.requires.1 c.requires.2 c.args.y _ c.loop-coefficient.invariant c.in-Some-coefficient.ensures.steps c.product.ensures.0

pub returns : goal.returns
returns c = evaluate_end c.requires.0 c.requires.1 c.args.y c.loop-coefficient.invariant.evaluating (omega (arith, c.in-None.ensures.steps.0))
