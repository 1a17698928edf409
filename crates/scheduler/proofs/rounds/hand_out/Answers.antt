-- `hand_out` meets its contract, sender by sender.
use mathlib.Core.Path.{◌≡◌, sym, ap, ap₂, ◌∙◌, subst}
use mathlib.Core.Bool.{true}
use mathlib.Core.List.{List}
use Prim.Native.Nat.{ℕ, ◌+◌, ◌*◌, ◌≤◌}
use native.Mathlib.Omega.{arith}
use lib.ListN.{length}
use Rattle.algebra.specs.Filling.{filling_start, filling_turn, filling_end}
use Rattle.turns.specs.Marks.{mark_in}
use Rattle.algebra.specs.PartLaws.{part_room, part_lent, length_lent, replacing_start, replacing_inside, replacing_old}
use Rattle.algebra.specs.PartLaws.{replacing_lent, replacing_end}
use Rattle.slices.specs.Bits.{IsBits}
use Rattle.parity.specs.OfCode.{of_code}
use Rattle.parity.specs.Word.{is_code_word}
use Rattle.scheduler.specs.Parts.{answer_of, handed_of}
use Rattle.scheduler.proofs.Handing.{handed_wide, taken_in, all_taken}
use Rattle.scheduler.proofs.rounds.hand_out.Goals as goal

pub loop-p-init : goal.loop-p-init
loop-p-init c = (
  filling_start _ (length c.args.marks.now) c.args.answers.now c.requires.answers_long,
  replacing_start (length c.args.code.now.cols.now) _ (length c.args.marks.now) c.args.handed.now c.requires.handed_long,
)

pub overflow_mul-start : goal.overflow_mul-start
overflow_mul-start c =
    omega (arith, part_room (length c.args.code.now.cols.now) (taken_in c.requires c.loop-p-test.true), c.requires.words_long)

pub overflow_add-end : goal.overflow_add-end
overflow_add-end c =
    omega (arith, part_room (length c.args.code.now.cols.now) (taken_in c.requires c.loop-p-test.true), c.requires.words_long)

pub hand_one-requires : goal.hand_one-requires
hand_one-requires c =
    let a = c.args in
    let n = length a.code.now.cols.now in
    let l = c.loop-p in
    let taken = taken_in c.requires c.loop-p-test.true in
    let inside : l.p * n + n ≤ length a.words.now = omega (arith, part_room n taken, c.requires.words_long) in
    record {
      word_len = (length_lent n a.words.now l.p inside, length_lent n l.handed l.p (replacing_inside l.invariant.1 (handed_wide c.requires) taken));
      bits = λ e.
          subst (λ (w : List ℕ). IsBits n w × (of_code is_code_word a.code.now w ≡ true)) (sym (part_lent n a.words.now l.p))
          (c.requires.checked l.p taken e);
    }

pub loop-p-preserved : goal.loop-p-preserved
loop-p-preserved c =
    let a = c.args in
    let n = length a.code.now.cols.now in
    let l = c.loop-p in
    let taken = taken_in c.requires c.loop-p-test.true in
    let mark = mark_in a.marks.now l.p in
    let word = part_lent n a.words.now l.p in
    let record { value = answered; handed_after = written } = c.hand_one.ensures in (
      filling_turn l.invariant.0 taken (answered ∙ ap (of_code answer_of a.code.now mark) word),
      replacing_lent l.invariant.1 (handed_wide c.requires) taken
          (written
          ∙ ap₂ (of_code handed_of a.code.now mark) word (part_lent n l.handed l.p ∙ replacing_old l.invariant.1 (handed_wide c.requires))),
    )

pub returns : goal.returns
returns c =
    record {
      answers_after = filling_end c.loop-p.invariant.0 (all_taken c.requires c.loop-p-test.false);
      handed_after = replacing_end c.loop-p.invariant.1 (handed_wide c.requires) (all_taken c.requires c.loop-p-test.false);
    }
