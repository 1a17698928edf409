-- `sent_places` meets its contract: it counts the marks that are 0.
use mathlib.Core.Path.{◌≡◌, refl, sym, ap, ◌∙◌}
use mathlib.Core.Bool.{true, false}
use Prim.Native.Nat.{ℕ, ◌+◌}
use native.Mathlib.Omega.{arith}
use lib.ListN.{length}
use borrow.Author.Tests.{eq-eqb, ne_eqb}
use Rattle.algebra.specs.Places.{count}
use Rattle.algebra.specs.PlaceLaws.{count-le}
use Rattle.algebra.specs.Subsequence.{count_turn}
use Rattle.shortened.specs.Marks.{is_sent, sent_count}
use Rattle.shortened.proofs.sent_places.Goals.{then-mark-eq0, else-mark-eq0}
use Rattle.shortened.proofs.sent_places.Goals as goal

pub loop-mark-init : goal.loop-mark-init
unfolding count
loop-mark-init c = (refl, omega arith, refl)

pub overflow_add-sent : goal.overflow_add-sent
overflow_add-sent c =
    let l = c.loop-mark in
    omega (arith, l.invariant.2, count-le l.mark-index (is_sent c.args.hidden.now))

pub loop-mark-preserved : goal.loop-mark-preserved
loop-mark-preserved c =
    let l = c.loop-mark in
    let hidden = c.args.hidden.now in (
      refl,
      omega arith,
      elim c.if-mark-eq0.branch [ then-mark-eq0 w ↦ w.sent-is ∙ ap (λ (k : ℕ). k + 1) l.invariant.2 ∙ sym (count_turn (is_sent hidden) l.mark-index true (eq-eqb _ _ w.if-mark-eq0.true)) | else-mark-eq0 w ↦ w.sent-is ∙ l.invariant.2 ∙ sym (count_turn (is_sent hidden) l.mark-index false (ne_eqb _ _ w.if-mark-eq0.false)) ],
    )

pub returns : goal.returns
unfolding sent_count
returns c =
    let l = c.loop-mark in
    let whole : l.mark-index ≡ length c.args.hidden.now = omega arith in
    l.invariant.2 ∙ ap (λ (k : ℕ). count k (is_sent c.args.hidden.now)) whole
