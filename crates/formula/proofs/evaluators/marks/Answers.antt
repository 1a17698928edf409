-- `marks` meets its contract. The loop's invariant: whatever term was read before the marks, it is held with those passed so far.
use mathlib.Core.Path.{sym, subst, ◌∙◌}
use Rattle.slices.specs.Elements.{Elements}
use Rattle.dyadic.specs.BlockElements.{inverse_elements}
use Rattle.formula.proofs.Steps.{held_mark}
use Rattle.formula.proofs.evaluators.marks.Goals as goal

pub loop-value-preserved : goal.loop-value-preserved
loop-value-preserved c =
    let e = sym c.byte_at.ensures ∙ c.loop-value-test.true in
    let W = c.requires.0 in
    let i = c.loop-value.invariant in
    let exists = c.invert-exists.ensures.value in
    let inverted = c.invert-exists.ensures.value_after in (
      c.invert-exists.auto.value ∙ i.0,
      subst (Elements _) (sym inverted) (inverse_elements _ W _),
      λ β k start h. held_mark _ β _ k W (i.2 β k start h) e exists inverted,
    )
