-- `discrepancy` meets its contract.
use Rattle.algebra.specs.Xor.{◌⊕◌}
use Rattle.locator.proofs.Values.{slope_element, discrepancy_value}
use Rattle.locator.proofs.polynomial.Polynomial.discrepancy.Goals as goal

pub product-requires-2 : goal.product-requires-2
unfolding ◌⊕◌
product-requires-2 c =
    let p = c.args.self.now in
    (p.width, slope_element p.m p p.width c.args.s c.args.z c.product.ensures.0, c.evaluate-slope.ensures.1)

pub returns : goal.returns
unfolding ◌⊕◌
returns c =
    let p = c.args.self.now in
    discrepancy_value p.m p p.width c.args.z c.args.s
    c.product-y.ensures.0 c.evaluate-slope.ensures.0
    c.evaluate-level.ensures.0 c.product.ensures.0 c.product-2.ensures.0
    c.product-3.ensures.0
