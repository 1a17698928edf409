-- `check_shape` meets its contract: each return is at the first rule that does not hold.
use mathlib.Core.Path.{sym, ap}
use mathlib.Core.Bool.{Bool, ◌&&◌}
use lib.Dec.{eqb}
use lib.ListN.{length}
use Rattle.algebra.specs.Flags.{found_true, found_false}
use Rattle.refusals.specs.Testing.{refuses, passes}
use Rattle.refusals.specs.RuleLaws.{fault_here, fault_past, fault_none}
use Rattle.field.specs.RangeLaws.{width_is}
use Rattle.params.proofs.Faults.{width_number, size_number, element_number}
use Rattle.params.proofs.check_shape.Goals as goal

pub returns-then-not-is_width : goal.returns-then-not-is_width
returns-then-not-is_width c =
    let a = c.args in
    refuses
    (width_number a.buffers a.c a.h.now (found_false c.is_width.ensures c.if-not-is_width.true))

pub returns-then-not-is_length-h : goal.returns-then-not-is_length-h
returns-then-not-is_length-h c =
    let a = c.args in
    let w = found_true c.is_width.ensures c.if-not-is_width.false in
    let sized = ap (λ (b : Bool). b && eqb (length a.h.now) a.c.n && a.buffers) c.is_length.ensures in
    refuses
    (size_number a.buffers a.c a.h.now w (found_false sized c.if-not-is_length-h.true))

pub all_elements-requires : goal.all_elements-requires
all_elements-requires c =
    width_is c.args.c.m
    (found_true c.is_width.ensures c.if-not-is_width.false)

pub returns-then-not-all_elements : goal.returns-then-not-all_elements
returns-then-not-all_elements c =
    let a = c.args in
    let w = found_true c.is_width.ensures c.if-not-is_width.false in
    let sized = ap (λ (b : Bool). b && eqb (length a.h.now) a.c.n && a.buffers) c.is_length.ensures in
    refuses
    (element_number a.buffers a.c a.h.now w (found_true sized c.if-not-is_length-h.false)
    (sym (fault_here 3 _ (found_false c.all_elements.ensures c.if-not-all_elements.true))))

pub is_element-requires : goal.is_element-requires
is_element-requires c =
    width_is c.args.c.m
    (found_true c.is_width.ensures c.if-not-is_width.false)

pub returns-then-not-is_element : goal.returns-then-not-is_element
returns-then-not-is_element c =
    let a = c.args in
    let w = found_true c.is_width.ensures c.if-not-is_width.false in
    let sized =
    ap (λ (b : Bool). b && eqb (length a.h.now) a.c.n && a.buffers)
    c.is_length.ensures in
    let h_in = found_true c.all_elements.ensures c.if-not-all_elements.false in
    refuses
    (element_number a.buffers a.c a.h.now w (found_true sized c.if-not-is_length-h.false)
    (sym (fault_past 3 _ h_in (fault_here 3 _ (found_false c.is_element.ensures c.if-not-is_element.true)))))

pub returns : goal.returns
returns c =
    let a = c.args in
    let w = found_true c.is_width.ensures c.if-not-is_width.false in
    let sized =
    ap (λ (b : Bool). b && eqb (length a.h.now) a.c.n && a.buffers)
    c.is_length.ensures in
    let h_in = found_true c.all_elements.ensures c.if-not-all_elements.false in
    passes
    (sym (element_number a.buffers a.c a.h.now w (found_true sized c.if-not-is_length-h.false)
    (sym (fault_none _ (h_in, (found_true c.is_element.ensures c.if-not-is_element.false, tt))))))
