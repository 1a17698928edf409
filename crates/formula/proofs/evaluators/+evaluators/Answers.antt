-- The evaluators meet their contracts: a sum is a product, to which each turn of the loop adds another; a product is a term, which each turn multiplies
-- or divides by another. What stands after a +, a * or a / is read into the front of `room`, and that front goes into the value.
use mathlib.Core.Path.{ap, ◌∙◌}
use mathlib.Core.List.{List}
use Prim.Native.Nat.{ℕ}
use Rattle.std.specs.Option.{option_copied}
use Rattle.field.specs.Gf.{gf}
use Rattle.slices.proofs.Room.{filled}
use Rattle.dyadic.specs.Block.{block_sum, block_product, block_inverse}
use Rattle.dyadic.specs.Invertible.{is_invertible}
use Rattle.formula.specs.Lending.{lent}
use Rattle.formula.proofs.Found.{found_read, product_first, addend_none, sum_read}
use Rattle.formula.proofs.Found.{term_first, factor_none, product_read, addend_found, addend_moves}
use Rattle.formula.proofs.Found.{factor_moves, no_term, times_read, over_read}
use Rattle.formula.proofs.Found.{letter_read, letter_none, marks_read, too_deep, inner_none, not_closed, bracket_read}
use Rattle.formula.proofs.LetterLaws.{ready_of, factors}
use Rattle.formula.proofs.evaluators.+evaluators.Goals as goal

-- ---- sum

pub sum-returns-in_err-cursor-2 : goal.sum-returns-in_err-cursor-2
sum-returns-in_err-cursor-2 t c =
    let β = lent c.args.letters.now.blocks in
    let held = c.loop-value.invariant.2 c.args.from (product_first {β = β} c.product.ensures c.in_ok-cursor.was) in
    addend_none {β = β} (c.add_product.ensures.finds c.args.from held) c.in_err-cursor-2.was c.from_residual-in_err-cursor-2.ensures

pub sum-loop-value-preserved : goal.sum-loop-value-preserved
sum-loop-value-preserved t c =
    let β = lent c.args.letters.now.blocks in
    let i = c.loop-value.invariant in
    let held = i.2 c.args.from (product_first {β = β} c.product.ensures c.in_ok-cursor.was) in
    let ends = (found_read {β = β} (c.add_product.ensures.finds c.args.from held) c.in_ok-cursor-2.was).1 in (
      c.add_product.auto.value ∙ i.0,
      ends,
      λ s k. (found_read {β = β} (c.add_product.ensures.finds s (i.2 s k)) c.in_ok-cursor-2.was).0,
    )

pub sum-returns : goal.sum-returns
sum-returns t c =
    let β = lent c.args.letters.now.blocks in
    let held = c.loop-value.invariant.2 c.args.from (product_first {β = β} c.product.ensures c.in_ok-cursor.was) in
    sum_read held c.loop-value.invariant.1 c.byte_at.ensures c.loop-value-test.false

pub add_product-returns-clause-finds : goal.add_product-returns-clause-finds
add_product-returns-clause-finds t c =
    let β = lent c.args.letters.now.blocks in
    let room = filled (ready_of c.args.letters.now c.requires.value_len).room c.product-found.auto.value in
    let added = c.add.ensures c.args.letters.now.m ∙ ap (block_sum (gf c.args.letters.now.m) c.args.value.now) room.front in
    λ from h. addend_found {β = β} c.args.from c.after.ensures c.product-found.ensures c.args.letters.now.width c.requires.at_value room.length_block added h

pub add_product-returns-clause-moves : goal.add_product-returns-clause-moves
add_product-returns-clause-moves t c =
    addend_moves {β = lent c.args.letters.now.blocks} c.args.from c.after.ensures c.product-found.ensures

-- ---- product

pub product-returns-in_err-cursor-2 : goal.product-returns-in_err-cursor-2
product-returns-in_err-cursor-2 t c =
    let β = lent c.args.letters.now.blocks in
    let held = c.loop-value.invariant.3 c.args.from (term_first {β = β} c.term.ensures c.in_ok-cursor.was) in
    factor_none {β = β} (c.multiply_term.ensures.finds c.args.from held) c.in_err-cursor-2.was c.from_residual-in_err-cursor-2.ensures

pub product-loop-value-preserved : goal.product-loop-value-preserved
product-loop-value-preserved t c =
    let β = lent c.args.letters.now.blocks in
    let i = c.loop-value.invariant in
    let held = i.3 c.args.from (term_first {β = β} c.term.ensures c.in_ok-cursor.was) in
    let (h, ends) = found_read {β = β} (c.multiply_term.ensures.finds c.args.from held) c.in_ok-cursor-2.was in (
      c.multiply_term.auto.value ∙ i.0,
      h.elements,
      ends,
      λ s k. (found_read {β = β} (c.multiply_term.ensures.finds s (i.3 s k)) c.in_ok-cursor-2.was).0,
    )

pub product-returns : goal.product-returns
product-returns t c =
    let β = lent c.args.letters.now.blocks in
    let held = c.loop-value.invariant.3 c.args.from (term_first {β = β} c.term.ensures c.in_ok-cursor.was) in
    product_read held c.loop-value.invariant.2 c.byte_at.ensures c.is_operator.ensures c.loop-value-test.false

pub multiply_term-returns-in_err-end-clause-finds : goal.multiply_term-returns-in_err-end-clause-finds
multiply_term-returns-in_err-end-clause-finds t c =
    let β = lent c.args.letters.now.blocks in
    λ from h. no_term {β = β} c.args.from c.after.ensures c.term.ensures c.args.letters.now.width h c.requires.over_byte_value.0 c.in_err-end.was c.from_residual.ensures

pub multiply_term-multiply-requires : goal.multiply_term-multiply-requires
multiply_term-multiply-requires t c =
    let L = c.args.letters.now in
    let other = (found_read {β = lent L.blocks} c.term.ensures c.in_ok-end.was).0 in
    factors L c.requires.value_len (filled (ready_of L c.requires.value_len).room c.term.auto.value) c.requires.over_byte_value.1 other.elements

pub multiply_term-divide-exists-requires : goal.multiply_term-divide-exists-requires
multiply_term-divide-exists-requires t c =
    let L = c.args.letters.now in
    let other = (found_read {β = lent L.blocks} c.term.ensures c.in_ok-end.was).0 in
    factors L c.requires.value_len (filled (ready_of L c.requires.value_len).room c.term.auto.value) c.requires.over_byte_value.1 other.elements

pub multiply_term-returns-then-times-clause-finds : goal.multiply_term-returns-then-times-clause-finds
multiply_term-returns-then-times-clause-finds t c =
    let β = lent c.args.letters.now.blocks in
    let room = filled (ready_of c.args.letters.now c.requires.value_len).room c.term.auto.value in
    let multiplied = c.multiply.ensures.value_after ∙ ap (block_product (gf c.args.letters.now.m) c.args.value.now) room.front in
    λ from h. times_read {β = β} c.args.from c.after.ensures c.term.ensures c.args.letters.now.width h c.in_ok-end.was c.byte_at-times.ensures
    c.if-times.true multiplied

pub multiply_term-returns-then-times-clause-moves : goal.multiply_term-returns-then-times-clause-moves
multiply_term-returns-then-times-clause-moves t c =
    let β = lent c.args.letters.now.blocks in
    record { moves = factor_moves {β = β} c.args.from c.after.ensures c.term.ensures c.in_ok-end.was }

pub multiply_term-returns-clause-finds : goal.multiply_term-returns-clause-finds
multiply_term-returns-clause-finds t c =
    let β = lent c.args.letters.now.blocks in
    let room = filled (ready_of c.args.letters.now c.requires.value_len).room c.term.auto.value in
    let exists = c.divide-exists.ensures.value ∙ ap (is_invertible c.args.letters.now.m) room.front in
    let divided = c.divide-exists.ensures.value_after
    ∙ ap (λ (x : List ℕ). block_product (gf c.args.letters.now.m) c.args.value.now (block_inverse (gf c.args.letters.now.m) x)) room.front in
    λ from h. over_read {β = β} c.args.from c.after.ensures c.term.ensures c.args.letters.now.width h c.in_ok-end.was c.byte_at-times.ensures
    c.if-times.false c.requires.over_byte_value.0 exists divided

pub multiply_term-returns-clause-moves : goal.multiply_term-returns-clause-moves
multiply_term-returns-clause-moves t c =
    let β = lent c.args.letters.now.blocks in
    record { moves = factor_moves {β = β} c.args.from c.after.ensures c.term.ensures c.in_ok-end.was }

-- ---- term

pub term-returns-in_err-block : goal.term-returns-in_err-block
term-returns-in_err-block t c =
    let β = lent c.args.letters.now.blocks in
    letter_none {β = β} c.byte_at-byte.ensures c.if-byte-ne40.true c.lent.ensures (ap option_copied c.in_err-block.was) c.from_residual.ensures

pub term-returns-then-byte-ne40 : goal.term-returns-then-byte-ne40
term-returns-then-byte-ne40 t c =
    let held = letter_read (ready_of c.args.letters.now c.requires) c.byte_at-byte.ensures c.lent.ensures (ap option_copied c.in_ok-block.was)
    c.copy.ensures in
    marks_read c.args.from held c.after.ensures c.marks.ensures.0 c.marks.ensures.1

pub term-returns-then-brackets-eq0 : goal.term-returns-then-brackets-eq0
term-returns-then-brackets-eq0 t c = too_deep c.byte_at-byte.ensures c.if-byte-ne40.false c.if-brackets-eq0.true

pub term-returns-in_err-inner : goal.term-returns-in_err-inner
term-returns-in_err-inner t c =
    let β = lent c.args.letters.now.blocks in
    inner_none {β = β} c.args.from c.byte_at-byte.ensures c.if-byte-ne40.false c.if-brackets-eq0.false c.after-2.ensures c.sum.ensures
    c.in_err-inner.was c.from_residual-in_err-inner.ensures

pub term-returns-then-byte_at-ne41 : goal.term-returns-then-byte_at-ne41
term-returns-then-byte_at-ne41 t c =
    let β = lent c.args.letters.now.blocks in
    not_closed {β = β} c.args.from c.byte_at-byte.ensures c.if-byte-ne40.false c.if-brackets-eq0.false c.after-2.ensures c.sum.ensures
    c.in_ok-inner.was c.byte_at.ensures c.if-byte_at-ne41.true

pub term-returns : goal.term-returns
term-returns t c =
    let β = lent c.args.letters.now.blocks in
    let held = bracket_read {β = β} c.args.from c.byte_at-byte.ensures c.if-byte-ne40.false c.if-brackets-eq0.false c.after-2.ensures c.sum.ensures
    c.in_ok-inner.was c.byte_at.ensures c.if-byte_at-ne41.false in
    marks_read c.in_ok-inner.inner held c.after-3.ensures c.marks-2.ensures.0 c.marks-2.ensures.1
