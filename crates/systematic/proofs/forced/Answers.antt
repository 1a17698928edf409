-- `forced` meets its contract. The loop's invariant: `sum` is what row p says of the places passed, from p + 1 on.
use mathlib.Core.Path.{refl, ◌∙◌}
use native.Mathlib.Omega.{arith}
use Rattle.algebra.specs.Xor.{◌⊕◌}
use Rattle.basis.proofs.Parts.{part_bit}
use Rattle.systematic.proofs.Places.{read_bit, bit_product_in, force_start, force_turn, force_end}
use Rattle.systematic.proofs.forced.Goals as goal

pub loop-j-init : goal.loop-j-init
loop-j-init c =
    (refl, force_start c.args.rows.now c.args.word.now c.args.p c.requires.1)

pub overflow_cast-sum : goal.overflow_cast-sum
overflow_cast-sum c = omega (arith, read_bit _ _ c.bit.result c.bit.ensures)

pub overflow_mul-sum : goal.overflow_mul-sum
overflow_mul-sum c =
    let j = c.loop-j.j in
    let b = c.bit in
    omega (arith, bit_product_in b.result _ (read_bit _ _ b.result b.ensures) (c.requires.2 j (omega arith)))

pub loop-j-preserved : goal.loop-j-preserved
unfolding ◌⊕◌
loop-j-preserved c =
    let l = c.loop-j in
    let b = c.bit in (
      refl,
      force_turn l.invariant.1 b.result (omega arith) (read_bit _ _ b.result b.ensures)
          (b.ensures ∙ part_bit c.args.rows.now c.args.p l.j (omega (arith, c.requires.0.room.short)))
          (c.requires.2 l.j (omega arith)),
    )

pub returns : goal.returns
returns c = force_end c.loop-j.invariant.1 (omega arith)
