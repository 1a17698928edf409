-- A round by its marks: those of all senders, then those of them that leave.
use mathlib.Core.Path.{◌≡◌, refl, sym, ap, ◌∙◌, subst}
use mathlib.Core.Bool.{Bool, true, false, cond, not, ◌&&◌}
use mathlib.Core.List.{List, [], ◌∷◌}
use Prim.Native.Nat.{ℕ, ◌*◌, ◌^◌, ◌<◌}
use native.Mathlib.Omega.{arith}
use lib.Dec.{eqb}
use lib.ListN.{length, set}
use borrow.Author.Tests.{eqb-true}
use Rattle.algebra.specs.Lists.{entry_of}
use Rattle.algebra.specs.Parts.{part}
use Rattle.algebra.specs.TabulateLaws.{length-tabulate, get_d_tabulate}
use Rattle.slices.specs.Bits.{IsBits}
use Rattle.params.specs.declared.Parameters.{Parameters}
use Rattle.parity.specs.Word.{is_code_word}
use Rattle.turns.specs.Turns.{is_tried}
use Rattle.turns.specs.TurnLaws.{next_below}
use Rattle.turns.specs.declared.Mark.{Mark}
use Rattle.turns.specs.declared.Mark.TheVariants.{Stays, CodeWord, Other}
use Rattle.turns.specs.Marks.{mark_in, is_other, mark_after, marks_after, turn_after_marks}
use Rattle.scheduler.specs.State.{State}
use Rattle.scheduler.proofs.Beginning.{only}
use Rattle.scheduler.specs.Parts.{mark_of, mark_at, marks_of, answers_of, handed_parts, waiting_of, LentHands, LentRound, Made}

-- a mark that is left is as it was
old_mark : (b : Bool) {m : Mark} → cond b Stays m ≡ CodeWord → m ≡ CodeWord
old_mark true e = cc
old_mark false e = e

-- who is marked as a code word waits and has one
whole_mark : (w i : Bool) → cond w (cond i CodeWord Other) Stays ≡ CodeWord → (w ≡ true) × (i ≡ true)
whole_mark true true e = (refl, refl)
whole_mark true false e = (refl, cc)
whole_mark false i e = (cc, cc)

module _ (c : Parameters) (h cols : List ℕ) (R : ℕ) {σ : State} {room : List Mark} {answers handed : List ℕ} (L : LentRound (length cols) σ room answers handed)
  where
    abbrev n : ℕ
    n = length cols

    abbrev next : ℕ
    next = entry_of σ.next 0

    module _ {first : List Mark} (marked : first ≡ marks_of c h cols σ.waiting σ.words) where
      first_long : length first ≡ length σ.waiting
      first_long = ap length marked ∙ length-tabulate (length σ.waiting) (mark_at c h cols σ.waiting σ.words)

      pub making_turn : next < length first
      making_turn = subst (λ (k : ℕ). next < k) (sym first_long) L.turn_is

      pub turn_small : {turn : ℕ} → turn ≡ turn_after_marks R next first → turn < 2 ^ 32
      turn_small is = omega (arith, next_below making_turn R (is_other first), first_long, L.few)

      module _ {marks : List Mark} (chosen : marks ≡ marks_after R next first) where
        pub marks_long_lem : length marks ≡ length σ.waiting
        unfolding marks_after
        marks_long_lem = ap length chosen ∙ length-tabulate (length first) (mark_after R next first) ∙ first_long

        pub making_hands : LentHands c h cols marks σ.words answers handed
        unfolding marks_after mark_after mark_of
        making_hands =
            record {
              words_long = L.words.long ∙ ap (λ (k : ℕ). k * n) (sym marks_long_lem);
              answers_long = L.answers_long ∙ sym marks_long_lem;
              handed_long = L.handed_long ∙ ap (λ (k : ℕ). k * n) (sym marks_long_lem);
              checked = λ p l e. checked p (subst (λ (k : ℕ). p < k) marks_long_lem l) e;
            }
          where
            checked : (p : ℕ) → p < length σ.waiting → mark_in marks p ≡ CodeWord
                → IsBits n (part n σ.words p) × (is_code_word c h cols (part n σ.words p) ≡ true)
            checked p l e =
                let inside : p < length first = subst (λ (k : ℕ). p < k) (sym first_long) l in
                let mark : mark_after R next first p ≡ CodeWord =
                sym (ap (λ (m : List Mark). mark_in m p) chosen ∙ get_d_tabulate (length first) (mark_after R next first) p Stays inside) ∙ e in
                let old : mark_in first p ≡ CodeWord =
                old_mark (is_other first p && not (is_tried (length first) next R (is_other first) p)) mark in
                let is : mark_at c h cols σ.waiting σ.words p ≡ CodeWord =
                sym (ap (λ (m : List Mark). mark_in m p) marked
                ∙ get_d_tabulate (length σ.waiting) (mark_at c h cols σ.waiting σ.words) p Stays l) ∙ old in
                let (waits, whole) = whole_mark (eqb (entry_of σ.waiting p) 1) (is_code_word c h cols (part n σ.words p)) is in
                (L.words.bits p l (eqb-true (entry_of σ.waiting p) 1 waits), whole)

        pub making : {turn : ℕ} {waiting' answers' handed' : List ℕ} → turn ≡ turn_after_marks R next first → waiting' ≡ waiting_of marks σ.waiting
            → answers' ≡ answers_of c h cols marks σ.words → handed' ≡ handed_parts c h cols marks σ.words handed
            → Made c h cols R σ handed waiting' (set σ.next 0 turn) answers' handed'
        making {turn} turned dismissed answered copied =
            let marks_are : marks ≡ marks_after R next (marks_of c h cols σ.waiting σ.words) = chosen ∙ ap (marks_after R next) marked in
            record {
              waiting_are = dismissed ∙ ap (λ (m : List Mark). waiting_of m σ.waiting) marks_are;
              next_is = only σ.next turn L.next_long ∙ ap (λ (x : ℕ). x ∷ []) (turned ∙ ap (turn_after_marks R next) marked);
              answers_are = answered ∙ ap (λ (m : List Mark). answers_of c h cols m σ.words) marks_are;
              handed_are = copied ∙ ap (λ (m : List Mark). handed_parts c h cols m σ.words handed) marks_are;
            }
