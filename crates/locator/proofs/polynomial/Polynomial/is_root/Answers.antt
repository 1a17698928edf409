-- `is_root` meets its contract.
use mathlib.Core.Path.{ap}
use Prim.Native.Nat.{ℕ}
use lib.Dec.{eqb}
use Rattle.algebra.specs.Xor.{◌⊕◌}
use Rattle.locator.proofs.Values.{value_at}
use Rattle.locator.proofs.polynomial.Polynomial.is_root.Goals as goal

pub returns : goal.returns
unfolding ◌⊕◌
returns c =
    let p = c.args.self.now in
    ap (λ (v : ℕ). eqb v 0)
    (value_at p.m p c.args.x c.product-y.ensures.0
    c.evaluate-level.ensures.0 c.evaluate-slope.ensures.0 c.product.ensures.0)
