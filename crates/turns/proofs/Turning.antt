-- The walk through the senders' turns, over plain numbers and lists.
use mathlib.Core.Path.{◌≡◌, refl, sym, ap, ap₂, ◌∙◌, subst}
use mathlib.Core.Logic.{◌≢◌}
use mathlib.Core.Bool.{Bool, true, false, cond, not, ◌&&◌}
use mathlib.Core.List.{List}
use Prim.Native.Nat.{ℕ, suc, ◌+◌, ◌-◌, ◌%◌, ◌<◌, ◌≤◌}
use native.Mathlib.Nat.{add-zero}
use native.Mathlib.Decide.{dec_lt, ℕ_discrete}
use native.Mathlib.Numerals.{add-one}
use native.Mathlib.Omega.{arith}
use lib.Dec.{ltb}
use lib.ListN.{length, set, length-set}
use lib.Seq.{get_or-set_same, get_or-set_other, ext_get_or}
use borrow.Author.Tests.{lt-ltb, le-ltb}
use Rattle.algebra.specs.Places.{count}
use Rattle.algebra.specs.TabulateLaws.{length-tabulate, get_d_tabulate}
use Rattle.turns.specs.Turns.{sender_at, turn_of, others_before, is_tried, turn_after, next_turn}
use Rattle.turns.specs.TurnLaws.{sender_below, sender_following, sender_of_turn}
use Rattle.turns.specs.TurnLaws.{turn_of_sender, turn_below, tried_at, others_more}
use Rattle.turns.specs.declared.Mark.{Mark}
use Rattle.turns.specs.declared.Mark.TheVariants.{Stays}
use Rattle.turns.specs.Marks.{tries, mark_in, is_other, mark_after, marks_after, turn_after_marks}

-- what holds when i senders had their turns
pub record Turning (R next : ℕ) (old marks : List Mark) (left turn i : ℕ) : Type 0 where
  pub bound : i ≤ length old
  pub long : length marks ≡ length old
  pub left_is : left ≡ R - others_before (length old) next (is_other old) i
  pub turn_is : turn ≡ turn_after (length old) next R (is_other old) i
  pub at : (p : ℕ) → p < length old → mark_in marks p ≡ cond (ltb (turn_of (length old) next p) i) (mark_after R next old p) (mark_in old p)

module _ (R next : ℕ) (old : List Mark) (inside : next < length old) where
  abbrev S : ℕ
  S = length old

  abbrev before : ℕ → ℕ
  before = others_before S next (is_other old)

  abbrev tried : ℕ → Bool
  tried = is_tried S next R (is_other old)

  pub turning_start : Turning R next old old R next 0
  unfolding turn_after others_before count
  turning_start =
      record {
        bound = omega arith;
        long = refl;
        left_is = none (before 0) refl;
        turn_is = refl;
        at = λ p l. ap (λ (b : Bool). cond b (mark_after R next old p) (mark_in old p)) (sym (le-ltb (turn_of S next p) 0 (omega arith)));
      }
    where
      none : (x : ℕ) → x ≡ 0 → R ≡ R - x
      none x e = omega arith

  -- in the turn of sender_at i
  module _ {marks : List Mark} {sender left turn i : ℕ} (T : Turning R next old marks left turn i) (l : i < length old)
      (sender_is : sender ≡ sender_at (length old) next i)
    where
      sender_in : sender < S
      sender_in = subst (λ (p : ℕ). p < S) (sym sender_is) (sender_below inside i (omega arith))

      pub turning_inside : sender < length marks
      turning_inside = subst (λ (k : ℕ). sender < k) (sym T.long) sender_in

      turn_here : turn_of S next sender ≡ i
      turn_here = ap (turn_of S next) sender_is ∙ turn_of_sender inside i l

      -- its mark is as it was
      here : mark_in marks sender ≡ mark_in old sender
      here =
          T.at sender sender_in
          ∙ ap (λ (b : Bool). cond b (mark_after R next old sender) (mark_in old sender))
          (ap (λ (j : ℕ). ltb j i) turn_here ∙ le-ltb i i (omega arith))

      is_tried_lem : tried sender ≡ (is_other old sender && ltb (before i) R)
      is_tried_lem = ap (λ (p : ℕ). tried p) sender_is ∙ tried_at inside R (is_other old) i l
          ∙ ap (λ (p : ℕ). is_other old p && ltb (before i) R) (sym sender_is)

      more_others : before (suc i) ≡ before i + cond (is_other old sender) 1 0
      more_others = others_more inside R (is_other old) i ∙ ap (λ (p : ℕ). before i + cond (is_other old p) 1 0) (sym sender_is)

      later : turn_after S next R (is_other old) (suc i) ≡ cond (tried sender) (sender_at S next (suc i)) (turn_after S next R (is_other old) i)
      unfolding turn_after
      later = ap (λ (p : ℕ). cond (tried p) (sender_at S next (suc i)) (turn_after S next R (is_other old) i)) (sym sender_is)

      -- a turn writes the sender's mark alone
      turned : {marks' : List Mark} {left' turn' : ℕ} → length marks' ≡ length marks → mark_in marks' sender ≡ mark_after R next old sender
          → ((p : ℕ) → p ≢ sender → mark_in marks' p ≡ mark_in marks p) → left' ≡ R - before (suc i)
          → turn' ≡ turn_after S next R (is_other old) (suc i) → Turning R next old marks' left' turn' (i + 1)
      turned {marks'} long' mark others left_is turn_is =
          record {
            bound = omega arith;
            long = long' ∙ T.long;
            left_is = left_is ∙ ap (λ (j : ℕ). R - before j) (sym (add-one i));
            turn_is = turn_is ∙ ap (turn_after S next R (is_other old)) (sym (add-one i));
            at = λ p lp. at_place p lp (ℕ_discrete p sender) (dec_lt (turn_of S next p) i);
          }
        where
          at_place : (p : ℕ) → p < S → Dec (p ≡ sender) → Dec (turn_of S next p < i)
              → mark_in marks' p ≡ cond (ltb (turn_of S next p) (i + 1)) (mark_after R next old p) (mark_in old p)
          at_place p lp (yes same) d =
              ap (mark_in marks') same ∙ mark ∙ ap (mark_after R next old) (sym same)
              ∙ ap (λ (b : Bool). cond b (mark_after R next old p) (mark_in old p))
              (sym (ap (λ (q : ℕ). ltb (turn_of S next q) (i + 1)) same ∙ ap (λ (j : ℕ). ltb j (i + 1)) turn_here ∙ lt-ltb i (i + 1) (omega arith)))
          at_place p lp (no ne) (yes less) =
              others p ne ∙ T.at p lp
              ∙ ap (λ (b : Bool). cond b (mark_after R next old p) (mark_in old p))
              (lt-ltb (turn_of S next p) i less ∙ sym (lt-ltb (turn_of S next p) (i + 1) (omega arith)))
          at_place p lp (no ne) (no more) =
              let apart : turn_of S next p ≢ i =
              λ e. ne (sym (sender_of_turn inside p lp) ∙ ap (sender_at S next) e ∙ sym sender_is) in
              let past : i + 1 ≤ turn_of S next p = after_it apart in
              others p ne ∙ T.at p lp
              ∙ ap (λ (b : Bool). cond b (mark_after R next old p) (mark_in old p))
              (le-ltb (turn_of S next p) i (omega arith) ∙ sym (le-ltb (turn_of S next p) (i + 1) past))
            where
              after_it : turn_of S next p ≢ i → i + 1 ≤ turn_of S next p
              after_it apart = omega arith

      -- ---- the three ways of a turn

      -- there is nothing to repair
      pub turning_past : tries (mark_in marks sender) ≡ false → Turning R next old marks left turn (i + 1)
      unfolding mark_after
      turning_past e =
          let none : is_other old sender ≡ false = ap tries (sym here) ∙ e in
          let untried : tried sender ≡ false = is_tried_lem ∙ ap (λ (b : Bool). b && ltb (before i) R) none in
          turned refl (here ∙ ap (λ (b : Bool). cond (b && not (tried sender)) Stays (mark_in old sender)) (sym none)) (λ p ne. refl)
          (T.left_is
          ∙ ap (λ (x : ℕ). R - x) (sym (more_others ∙ ap (λ (b : Bool). before i + cond b 1 0) none ∙ add-zero (before i))))
          (T.turn_is ∙ sym (later ∙ ap (λ (b : Bool). cond b (sender_at S next (suc i)) (turn_after S next R (is_other old) i)) untried))

      module _ (e : tries (mark_in marks sender) ≡ true) where
        is_other_lem : is_other old sender ≡ true
        is_other_lem = ap tries (sym here) ∙ e

        one_more : before (suc i) ≡ before i + 1
        one_more = more_others ∙ ap (λ (b : Bool). before i + cond b 1 0) is_other_lem

        -- so many were tried
        pub turning_late : left ≡ 0 → Turning R next old (set marks sender Stays) left turn (i + 1)
        unfolding mark_after
        turning_late none =
            let many : R ≤ before i = omega (arith, T.left_is) in
            let untried : tried sender ≡ false =
            is_tried_lem ∙ ap₂ (λ (a b : Bool). a && b) is_other_lem (le-ltb (before i) R many) in
            let nothing : left ≡ R - before (suc i) = omega (arith, one_more) in
            turned (length-set marks sender Stays)
            (get_or-set_same marks sender Stays Stays turning_inside
            ∙ sym (ap₂ (λ (a b : Bool). cond (a && not b) Stays (mark_in old sender)) is_other_lem untried))
            (λ p ne. get_or-set_other marks sender p Stays Stays ne) nothing
            (T.turn_is ∙ sym (later ∙ ap (λ (b : Bool). cond b (sender_at S next (suc i)) (turn_after S next R (is_other old) i)) untried))

        -- it is tried
        pub turning_tried : left ≢ 0 → {left' : ℕ} → left' ≡ left - 1 → Turning R next old marks left' ((sender + 1) % S) (i + 1)
        unfolding mark_after
        turning_tried some {left'} less =
            let few : before i < R = omega (arith, T.left_is) in
            let is : tried sender ≡ true = is_tried_lem ∙ ap₂ (λ (a b : Bool). a && b) is_other_lem (lt-ltb (before i) R few) in
            let fewer : left' ≡ R - before (suc i) = omega (arith, one_more, T.left_is) in
            turned refl (here ∙ sym (ap₂ (λ (a b : Bool). cond (a && not b) Stays (mark_in old sender)) is_other_lem is)) (λ p ne. refl)
            fewer
            (ap (λ (p : ℕ). (p + 1) % S) sender_is ∙ sym (sender_following inside i)
            ∙ sym (later ∙ ap (λ (b : Bool). cond b (sender_at S next (suc i)) (turn_after S next R (is_other old) i)) is))

  -- ---- the end

  module _ {marks : List Mark} {left turn i : ℕ} (T : Turning R next old marks left turn i) (l : length old ≤ i) where
    all : i ≡ S
    all = omega (arith, T.bound)

    pub turning_marks : marks ≡ marks_after R next old
    unfolding marks_after
    turning_marks =
        ext_get_or Stays marks (marks_after R next old) (T.long ∙ sym (length-tabulate S (mark_after R next old)))
        (λ p h.
        let lp : p < S = subst (λ (k : ℕ). p < k) T.long h in
        let done : turn_of S next p < i = omega (arith, turn_below inside p lp) in
        T.at p lp ∙ ap (λ (b : Bool). cond b (mark_after R next old p) (mark_in old p)) (lt-ltb (turn_of S next p) i done)
        ∙ sym (get_d_tabulate S (mark_after R next old) p Stays lp))

    pub turning_turn : turn ≡ turn_after_marks R next old
    unfolding next_turn
    turning_turn = T.turn_is ∙ ap (turn_after S next R (is_other old)) all
