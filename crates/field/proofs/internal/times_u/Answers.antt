-- `internal::times_u` meets its contract: what runs over is 0 or 1, so the word is taken away no time or once, and nothing overflows.
use mathlib.Core.Path.{sym, ap, ◌∙◌, subst}
use Prim.Native.Nat.{ℕ, suc, ◌*◌, ◌/◌, ◌<◌, ◌^◌}
use native.Mathlib.Omega.{arith}
use lib.Bits.{bit_xor}
use Rattle.algebra.specs.Xor.{◌⊕◌}
use Rattle.field.specs.Words.{widest, word}
use Rattle.field.proofs.ProductByU.{shift_and_cut_back}
use Rattle.field.specs.Ring.{product_lt}
use Rattle.field.proofs.GfLaws.{gf_is_field}
use Rattle.field.proofs.Shift.{element_fits, over_fits}
use Rattle.field.proofs.internal.times_u.Goals as goal

pub overflow_mul-shifted : goal.overflow_mul-shifted
overflow_mul-shifted c = omega (arith, element_fits c.args.m c.requires.0 c.args.a c.requires.2)

pub overflow_mul-result : goal.overflow_mul-result
overflow_mul-result c =
    let over = c.args.a * 2 / 2 ^ c.args.m in
    let fits : over * c.args.reduction < 2 ^ suc widest =
    subst (λ (w : ℕ). over * w < 2 ^ suc widest) (sym c.requires.1) (over_fits c.args.m c.requires.0 c.args.a c.requires.2) in
    omega arith

pub returns : goal.returns
unfolding ◌⊕◌
returns c =
    let m = c.args.m in
    let a = c.args.a in
    let step = ap (λ (w : ℕ). bit_xor (a * 2) (a * 2 / 2 ^ m * w)) c.requires.1 ∙ shift_and_cut_back m c.requires.0 a c.requires.2 in
    (step, subst (λ (x : ℕ). x < 2 ^ m) (sym step) (product_lt m (word m) (gf_is_field m c.requires.0).degree 2 a))
