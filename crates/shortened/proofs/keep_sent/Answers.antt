-- `keep_sent` meets its contract. The loop's invariant: the columns of the sent places passed stand at the front, `kept` of them, and the rest of the
-- list is as it was.
use mathlib.Core.Path.{◌≡◌, refl, ap, ◌∙◌}
use Prim.Native.Nat.{ℕ}
use native.Mathlib.Nat.{le_refl}
use native.Mathlib.Omega.{arith}
use lib.ListN.{length, set}
use borrow.Author.Tests.{eq-eqb, ne_eqb}
use Rattle.algebra.specs.Choosing.{choosing_start, choosing_index, choosing_passed_over, choosing_taken}
use Rattle.algebra.specs.Choosing.{choosing_old, choosing_end}
use Rattle.algebra.specs.Lists.{entry_of}
use Rattle.algebra.specs.Places.{count}
use Rattle.algebra.specs.PlaceLaws.{count-le}
use Rattle.shortened.specs.Marks.{is_sent, sent_count, sent_of}
use Rattle.shortened.proofs.keep_sent.Goals.{then-hide-eq0, else-hide-eq0}
use Rattle.shortened.proofs.keep_sent.Goals as goal

pub loop-j-init : goal.loop-j-init
loop-j-init c =
    let hidden = c.args.hidden.now in
    let few = count-le (length hidden) (is_sent hidden) in (
      refl,
      c.requires,
      choosing_start (is_sent hidden) (entry_of c.args.columns.now) (length hidden) c.args.columns.now (omega (arith, c.requires, few)),
    )

pub offset_bounds-columns-kept : goal.offset_bounds-columns-kept
offset_bounds-columns-kept c =
    let l = c.loop-j in
    omega (arith, l.invariant.2.number, count-le l.j (is_sent c.args.hidden.now))

pub bounds-columns-kept : goal.bounds-columns-kept
bounds-columns-kept c = choosing_index c.loop-j.invariant.2 (omega arith) (eq-eqb _ _ c.if-hide-eq0.true)

pub overflow_add-kept : goal.overflow_add-kept
overflow_add-kept c =
    let l = c.loop-j in
    omega (arith, l.invariant.2.number, count-le l.j (is_sent c.args.hidden.now))

pub loop-j-preserved : goal.loop-j-preserved
loop-j-preserved c =
    let l = c.loop-j in
    let C = l.invariant.2 in
    let old = choosing_old C l.j (le_refl l.j) in (
      refl,
      l.invariant.1,
      elim c.if-hide-eq0.branch [ then-hide-eq0 w ↦ choosing_taken C (omega arith) (eq-eqb _ _ w.if-hide-eq0.true) (w.columns-is ∙ ap (λ (x : ℕ). set l.columns l.kept x) old) w.kept-is | else-hide-eq0 w ↦ choosing_passed_over C (omega arith) (ne_eqb _ _ w.if-hide-eq0.false) w.columns-is w.kept-is ],
    )

pub returns : goal.returns
unfolding sent_count sent_of
returns c =
    let l = c.loop-j in
    let hidden = c.args.hidden.now in
    let whole : l.j ≡ length hidden = omega arith in
    record {
      value = l.invariant.2.number ∙ ap (λ (k : ℕ). count k (is_sent hidden)) whole;
      columns_after = choosing_end l.invariant.2 (omega arith);
    }
