-- `turn_roots` meets its contract, place by place.
use mathlib.Core.Path.{◌≡◌, sym, ap, ◌∙◌}
use mathlib.Core.Bool.{true, false}
use Prim.Native.Nat.{ℕ}
use native.Mathlib.Nat.{add-zero}
use native.Mathlib.Omega.{arith}
use lib.ListN.{length}
use Rattle.algebra.specs.Filling.{filling_end}
use Rattle.algebra.specs.Xor.{◌⊕◌}
use Rattle.algebra.specs.XorLaws.{⊕-zero}
use Rattle.algebra.specs.Places.{count}
use Rattle.nearest.specs.Decoding.{root_place}
use Rattle.nearest.specs.Turned.{turned}
use Rattle.nearest.proofs.Decoding.{turning_start, turning_turn}
use Rattle.nearest.proofs.turn_roots.Goals.{then-is_root, else-is_root}
use Rattle.nearest.proofs.turn_roots.Goals as goal

pub loop-j-init : goal.loop-j-init
loop-j-init c =
    let a = c.args in
    turning_start (length a.cols.now) (root_place a.polynomial.now a.support.now a.cols.now) a.received.now a.word.now c.requires.received_len.1

pub loop-j-preserved : goal.loop-j-preserved
unfolding root_place ◌⊕◌
loop-j-preserved c =
    let l = c.loop-j in
    let root = c.is_root.ensures in
    elim c.if-is_root.branch [ then-is_root w ↦ turning_turn l.invariant (omega arith) true (sym root ∙ w.if-is_root.true) w.bit-is w.turned-is | else-is_root w ↦ turning_turn l.invariant (omega arith) false (sym root ∙ w.if-is_root.false) (w.bit-is ∙ sym (⊕-zero _)) (w.turned-is ∙ sym (add-zero _)) ]

pub returns : goal.returns
unfolding turned
returns c =
    let a = c.args in
    let T = c.loop-j.invariant in
    let ended : c.loop-j.j ≡ length a.cols.now = omega (arith, T.filling.bound) in
    let p = root_place a.polynomial.now a.support.now a.cols.now in
    record {
      value = T.counted ∙ ap (λ (k : ℕ). count k p) ended;
      word_after = filling_end T.filling (omega arith);
    }
