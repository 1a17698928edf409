-- `mark_all` meets its contract, sender by sender.
use mathlib.Core.Path.{sym, ap, ◌∙◌, subst}
use Prim.Native.Nat.{◌<◌}
use native.Mathlib.Omega.{arith}
use lib.ListN.{length}
use Rattle.algebra.specs.Filling.{filling_start, filling_turn, filling_end}
use Rattle.algebra.specs.Lists.{entry_of}
use Rattle.algebra.specs.PartLaws.{part_room, part_lent}
use Rattle.slices.specs.Bits.{IsBits}
use Rattle.parity.specs.OfCode.{of_code}
use Rattle.scheduler.specs.Parts.{mark_of, mark_at}
use Rattle.scheduler.proofs.rounds.mark_all.Goals as goal

pub loop-p-init : goal.loop-p-init
loop-p-init c =
    let a = c.args in
    filling_start (of_code mark_at a.code.now a.waiting.now a.words.now) (length a.waiting.now) a.marks.now c.requires.marks_len

pub overflow_mul-start : goal.overflow_mul-start
overflow_mul-start c =
    let l : c.loop-p.p < length c.args.waiting.now = omega (arith, c.requires.marks_len, c.loop-p-test.true) in
    omega (arith, part_room (length c.args.code.now.cols.now) l, c.requires.words.long)

pub overflow_add-end : goal.overflow_add-end
overflow_add-end c =
    let l : c.loop-p.p < length c.args.waiting.now = omega (arith, c.requires.marks_len, c.loop-p-test.true) in
    omega (arith, part_room (length c.args.code.now.cols.now) l, c.requires.words.long)

pub mark-requires : goal.mark-requires
mark-requires c =
    let n = length c.args.code.now.cols.now in
    let p = c.loop-p.p in
    let l : c.loop-p.p < length c.args.waiting.now = omega (arith, c.requires.marks_len, c.loop-p-test.true) in
    λ e. subst (IsBits n) (sym (part_lent n c.args.words.now p)) (c.requires.words.bits p l e)

pub loop-p-preserved : goal.loop-p-preserved
loop-p-preserved c =
    let a = c.args in
    let p = c.loop-p.p in
    let l : c.loop-p.p < length c.args.waiting.now = omega (arith, c.requires.marks_len, c.loop-p-test.true) in
    filling_turn c.loop-p.invariant l
    (c.mark.ensures ∙ ap (of_code mark_of a.code.now (entry_of a.waiting.now p)) (part_lent (length a.code.now.cols.now) a.words.now p))

pub returns : goal.returns
returns c = filling_end c.loop-p.invariant (omega (arith, c.requires.marks_len, c.loop-p-test.false))
