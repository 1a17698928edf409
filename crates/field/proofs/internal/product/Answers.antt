-- `internal::product` meets its contract. The loop's invariant: what is gathered, and what the bits left still add, is the product.
use Prim.Native.Nat.{ℕ, ◌+◌, ◌*◌, ◌/◌, ◌%◌}
use mathlib.Core.Path.{refl, sym, subst}
use native.Mathlib.Omega.{arith}
use Rattle.algebra.specs.Xor.{◌⊕◌}
use Rattle.field.specs.Words.{words, word}
use Rattle.field.specs.Ring.{bit_lt}
use Rattle.field.proofs.GfLaws.{gf_is_field}
use Rattle.field.proofs.Shift.{element_fits, Gathering, gather_start, gather_turn, gather_end}
use Rattle.field.proofs.internal.product.Goals as goal

pub loop-init : goal.loop-init
unfolding words word
loop-init c = (c.requires.0, gather_start c.args.m c.requires.0 c.args.a c.args.b c.requires.1, refl)

pub overflow_mul-sum : goal.overflow_mul-sum
overflow_mul-sum c =
    let m = c.args.m in
    let inv = c.loop.invariant in
    omega (
      arith,
      element_fits m inv.0 (c.loop.bits % 2 * c.loop.shifted)
          (bit_lt m (word m) (gf_is_field m inv.0).degree c.loop.bits c.loop.shifted inv.1.shifted_lt),
    )

pub times_u-shifted-requires : goal.times_u-shifted-requires
times_u-shifted-requires c = (c.loop.invariant.0, c.loop.invariant.2, c.loop.invariant.1.shifted_lt)

pub loop-preserved : goal.loop-preserved
unfolding ◌⊕◌
loop-preserved c =
    let m = c.args.m in
    let l = c.loop in
    let a = c.args.a in
    let b = c.args.b in (
      l.invariant.0,
      subst (λ (x : ℕ). Gathering m l.invariant.0 a b (l.sum ⊕ l.bits % 2 * l.shifted) x (l.bits / 2) (l.counter + 1))
          (sym c.times_u-shifted.ensures.0)
          (gather_turn m l.invariant.0 a b l.sum l.shifted l.bits l.counter c.loop-test.true l.invariant.1),
      l.invariant.2,
    )

pub overflow_cast-result : goal.overflow_cast-result
overflow_cast-result c =
    let l = c.loop in
    record { fits = element_fits c.args.m l.invariant.0 l.sum l.invariant.1.sum_lt }

pub returns : goal.returns
returns c =
    let l = c.loop in
    let a = c.args.a in
    let b = c.args.b in (
      gather_end c.args.m l.invariant.0 a b l.sum l.shifted l.bits l.counter c.loop-test.false l.invariant.1,
      l.invariant.1.sum_lt,
    )
