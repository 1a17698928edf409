-- `add_single` meets its contract: the product of two blocks of length one is the product of their elements.
use mathlib.Core.Path.{refl, sym, ◌∙◌}
use Rattle.algebra.specs.Xor.{◌⊕◌}
use Rattle.dyadic.proofs.Adding.{single}
use Rattle.dyadic.proofs.add_single.Goals as goal

pub returns : goal.returns
unfolding ◌⊕◌
returns c =
    let g = c.args in
    let pre = c.requires in
    let made =
    single g.m _ g.a.now g.b.now g.out.now pre.1 (pre.0.length_out ∙ sym pre.0.length_a ∙ pre.1)
    c.product.ensures.0 in
    record {
      out_after = made;
      value = refl;
    }
