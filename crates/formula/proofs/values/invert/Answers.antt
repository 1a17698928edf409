-- `invert` meets its contract: the entries are divided by the square of their sum.
use mathlib.Core.Path.{sym, ap, ◌∙◌, subst}
use mathlib.Core.Bool.{not}
use Prim.Native.Nat.{ℕ, ◌<◌, ◌^◌}
use lib.Dec.{eqb}
use lib.ListN.{length}
use Rattle.algebra.specs.Lists.{entry}
use Rattle.algebra.specs.SumLaws.{in_sum}
use Rattle.field.specs.Gf.{gf}
use Rattle.field.proofs.GfLaws.{gf_laws}
use Rattle.dyadic.specs.Block.{total, quotient, block_inverse}
use Rattle.dyadic.specs.Invertible.{is_invertible}
use Rattle.formula.proofs.values.invert.Goals as goal

pub product-requires : goal.product-requires
unfolding total
product-requires c =
    let m = c.args.m in
    let a = c.args.value.now in
    let total_in = in_sum (gf m) (gf_laws m c.requires.0) (length a) (entry (gf m) a) c.requires.1 in
    let sum_in = subst (λ (x : ℕ). x < 2 ^ m) (sym (c.total-sum.ensures m)) total_in in
    (c.requires.0, sum_in, sum_in)

pub divide_in_place-requires : goal.divide_in_place-requires
divide_in_place-requires c = (c.requires.0, c.product.ensures.1, c.requires.1)

pub returns : goal.returns
unfolding is_invertible block_inverse
returns c =
    let g = c.args in
    let sum = c.total-sum.ensures g.m in
    let square = c.product.ensures.0 ∙ ap (λ (x : ℕ). (gf g.m).mul x x) sum in
    record {
      value = ap (λ (x : ℕ). not (eqb x 0)) sum;
      value_after = c.divide_in_place.ensures ∙ ap (quotient (gf g.m) g.value.now) square;
    }
