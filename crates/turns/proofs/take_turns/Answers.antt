-- `take_turns` meets its contract, sender by sender.
use mathlib.Core.Path.{◌≡◌, refl, sym, ◌∙◌, subst}
use mathlib.Core.List.{List, [], ◌∷◌, ◌++◌}
use Prim.Native.Nat.{ℕ, ◌+◌, ◌-◌, ◌<◌, ◌≤◌}
use native.Mathlib.Omega.{arith}
use lib.ListN.{length}
use Rattle.std.proofs.Common.{rules}
use Rattle.std.proofs.lemmas.List.{length-append}
use Rattle.std.proofs.lemmas.Iterator.{YieldsList-from_range}
use Rattle.std.proofs.lemmas.Iterator.Consumers.{YieldsList-from_chain, YieldsList-turn, YieldsList-end}
use Rattle.turns.specs.declared.Mark.{Mark}
use Rattle.turns.specs.Turns.{sender_at}
use Rattle.turns.proofs.Around.{length-around, around_at}
use Rattle.turns.proofs.Turning.{Turning, turning_start, turning_inside, turning_past, turning_late, turning_tried}
use Rattle.turns.proofs.Turning.{turning_marks, turning_turn}
use Rattle.turns.proofs.take_turns.Goals.{In-Some}
use Rattle.turns.proofs.take_turns.Goals as goal

-- the sender of this turn
taken : (c : In-Some) → (length c.loop-sender.yielded < length c.args.marks.now) × (c.in-Some.sender ≡ sender_at (length c.args.marks.now) c.args.next (length c.loop-sender.yielded))
taken c =
    let S = length c.args.marks.now in
    let next = c.args.next in
    let xs = c.loop-sender.yielded in
    let road = YieldsList-from_chain (YieldsList-from_range next S (S - next) (cc) refl) (YieldsList-from_range 0 next next (cc) (omega arith)) (cc) (cc) in
    let (l, at) = YieldsList-turn road xs _ c.loop-sender.yielded_by _ _ _ c.in-Some.is c.next.ensures.steps in
    let below : length xs < S = omega (arith, l, length-around c.requires) in
    (below, at ∙ around_at c.requires (length xs) _ below)

-- and after it there was one turn more
one_more : {R next left turn : ℕ} {old marks : List Mark} (xs : List ℕ) (sender : ℕ) → Turning R next old marks left turn (length xs + 1)
    → Turning R next old marks left turn (length (xs ++ sender ∷ []))
one_more {R} {next} {left} {turn} {old} {marks} xs sender T =
    subst (λ (k : ℕ). Turning R next old marks left turn k) (sym (length-append xs (sender ∷ []))) T

pub loop-sender-init : goal.loop-sender-init
loop-sender-init c = turning_start c.args.repairs c.args.next c.args.marks.now c.requires

pub bounds-marks-sender : goal.bounds-marks-sender
bounds-marks-sender c =
    let (l, is) = taken c in
    turning_inside c.args.repairs c.args.next c.args.marks.now c.requires c.loop-sender.invariant l is

pub bounds-marks-sender-then-left-eq0 : goal.bounds-marks-sender-then-left-eq0
bounds-marks-sender-then-left-eq0 c =
    let (l, is) = taken (goal.at.bounds-marks-sender-then-left-eq0 c).In-Some in
    turning_inside c.args.repairs c.args.next c.args.marks.now c.requires c.loop-sender.invariant l is

pub overflow_add-turn : goal.overflow_add-turn
overflow_add-turn c =
    let (l, is) = taken (goal.at.overflow_add-turn c).In-Some in
    let inside = turning_inside c.args.repairs c.args.next c.args.marks.now c.requires c.loop-sender.invariant l is in
    search (rules, inside)

pub loop-sender-preserved : goal.loop-sender-preserved
loop-sender-preserved c =
    let a = c.args in
    let T = c.loop-sender.invariant in
    let (l, is) = taken (goal.at.loop-sender-preserved c).In-Some in
    one_more c.loop-sender.yielded _ (turning_past a.repairs a.next a.marks.now c.requires T l is (sym c.is_other.ensures ∙ c.if-is_other.false))

pub loop-sender-preserved-then-left-eq0 : goal.loop-sender-preserved-then-left-eq0
loop-sender-preserved-then-left-eq0 c =
    let a = c.args in
    let T = c.loop-sender.invariant in
    let (l, is) = taken (goal.at.loop-sender-preserved-then-left-eq0 c).In-Some in
    one_more c.loop-sender.yielded _ (turning_late a.repairs a.next a.marks.now c.requires T l is (sym c.is_other.ensures ∙ c.if-is_other.true) c.if-left-eq0.true)

pub loop-sender-preserved-else-left-eq0 : goal.loop-sender-preserved-else-left-eq0
loop-sender-preserved-else-left-eq0 c =
    let a = c.args in
    let T = c.loop-sender.invariant in
    let (l, is) = taken (goal.at.loop-sender-preserved-else-left-eq0 c).In-Some in
    one_more c.loop-sender.yielded _ (turning_tried a.repairs a.next a.marks.now c.requires T l is (sym c.is_other.ensures ∙ c.if-is_other.true) c.if-left-eq0.false refl)

pub shape_of-marks : goal.shape_of-marks
shape_of-marks c = c.loop-sender.invariant.long

pub returns : goal.returns
returns c =
    let a = c.args in
    let T = c.loop-sender.invariant in
    let S = length a.marks.now in
    let (all, long) = YieldsList-end
    (YieldsList-from_chain (YieldsList-from_range a.next S (S - a.next) (cc) refl) (YieldsList-from_range 0 a.next a.next (cc) (omega arith)) (cc) (cc)) c.loop-sender.yielded _ c.loop-sender.yielded_by _ _ c.in-None.is c.next.ensures.steps in
    let l : S ≤ length c.loop-sender.yielded = omega (arith, long, length-around c.requires) in
    record {
      value = turning_turn a.repairs a.next a.marks.now c.requires T l;
      marks_after = turning_marks a.repairs a.next a.marks.now c.requires T l;
    }
