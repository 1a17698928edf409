-- A loop that goes through the places and puts the entries of those that pass a test at the front of a list, one after the other. The list may be the
-- one that the entries come from: no place is written before it is read.
use Rattle.std.specs.Prelude.{◌≡◌, refl, Bool, ℕ, suc, ◌+◌, ◌-◌, ◌<◌, ◌≤◌, take}
use Rattle.std.proofs.Math.Path.{sym, ap, ap₂}
use Rattle.std.proofs.Common.{◌∙◌, subst₂, le_of_eq, add-one, length-drop, drop_of_length-le, drop-cons}
use Rattle.std.proofs.Math.Bool.{true, false}
use mathlib.Core.List.{List, [], ◌∷◌, ◌++◌, append_assoc, append-nil}
use native.Mathlib.Omega.{arith}
use Rattle.std.proofs.Math.ListN.{length, drop, set, length-append}
use Rattle.std.proofs.Math.Seq.{get_or-append-add, get_or-drop, set_at, take_at}
use Rattle.algebra.specs.Lists.{entry_of}
use Rattle.algebra.specs.Places.{count, chosen}
use Rattle.algebra.specs.PlaceLaws.{length-chosen, count_more, count-le}
use Rattle.algebra.specs.Subsequence.{count_turn, chosen_turn, count_below}

-- the entries of the places before p that pass, and the rest of the list as it was
unfoldable pub chosen_so_far : (ℕ → Bool) → (ℕ → ℕ) → List ℕ → ℕ → List ℕ
chosen_so_far f w old p = chosen p f w ++ drop (count p f) old

-- p of n places have been looked at, and `taken` of them passed
pub record Choosing (f : ℕ → Bool) (w : ℕ → ℕ) (n : ℕ) (old now : List ℕ) (taken p : ℕ) : Type 0 where
  pub bound : p ≤ n
  pub room : count n f ≤ length old
  pub number : taken ≡ count p f
  pub so_far : now ≡ chosen_so_far f w old p

pub choosing_start : (f : ℕ → Bool) (w : ℕ → ℕ) (n : ℕ) (old : List ℕ) → count n f ≤ length old → Choosing f w n old old 0 0
unfolding chosen_so_far chosen count
choosing_start f w n old h = record { bound = omega arith; room = h; number = refl; so_far = refl }

module _ {f : ℕ → Bool} {w : ℕ → ℕ} {n : ℕ} {old now : List ℕ} {taken p : ℕ} (C : Choosing f w n old now taken p) where
  pub choosing_length : length now ≡ length old
  unfolding chosen_so_far
  choosing_length =
      let fewer : count p f ≤ count n f = count_more n f C.bound in
      let room : count n f ≤ length old = C.room in
      ap length C.so_far ∙ length-append (chosen p f w) (drop (count p f) old)
      ∙ ap₂ (λ (x y : ℕ). x + y) (length-chosen p f w) (length-drop (count p f) old) ∙ omega arith

  -- there is room for one that passes
  pub choosing_index : p < n → f p ≡ true → taken < length now
  choosing_index l t =
      let fewer : count p f < count n f = count_below f p n l t in
      let room : count n f ≤ length old = C.room in
      subst₂ (λ (x y : ℕ). x < y) (sym C.number) (sym choosing_length) (omega arith)

  pub choosing_passed_over : {next : List ℕ} {taken' : ℕ} → p < n → f p ≡ false → next ≡ now → taken' ≡ taken → Choosing f w n old next taken' (p + 1)
  unfolding chosen_so_far
  choosing_passed_over l e s t =
      let past : count p f ≡ count (p + 1) f = sym (count_turn f p false e) in
      record {
        bound = omega arith;
        room = C.room;
        number = t ∙ C.number ∙ past;
        so_far =
            s ∙ C.so_far
            ∙ ap₂ (λ (x : List ℕ) (k : ℕ). x ++ drop k old) (sym (chosen_turn f w p false e ∙ append-nil (chosen p f w))) past;
      }

  pub choosing_taken : {next : List ℕ} {taken' : ℕ} → p < n → f p ≡ true → next ≡ set now taken (w p) → taken' ≡ taken + 1
      → Choosing f w n old next taken' (p + 1)
  unfolding chosen_so_far
  choosing_taken l e s t =
      let front = chosen p f w in
      let k = count p f in
      let more : k + 1 ≡ count (p + 1) f = sym (count_turn f p true e) in
      let fewer : k < count n f = count_below f p n l e in
      let all : count n f ≤ length old = C.room in
      let room : k < length old = omega arith in
      record {
        bound = omega arith;
        room = C.room;
        number = t ∙ ap (λ (n : ℕ). n + 1) C.number ∙ more;
        so_far =
            s ∙ ap₂ (λ (x : List ℕ) (n : ℕ). set x n (w p)) C.so_far C.number
            ∙ ap (λ (x : List ℕ). set (front ++ x) k (w p)) (drop-cons old k 0 room)
            ∙ set_at front (entry_of old k) (drop (suc k) old) (w p) k (length-chosen p f w)
            ∙ sym (append_assoc front (w p ∷ []) (drop (suc k) old))
            ∙ ap₂ (λ (x : List ℕ) (n : ℕ). x ++ drop n old) (sym (chosen_turn f w p true e)) (sym (add-one k) ∙ more);
      }

  -- a place that has not been looked at is as it was
  pub choosing_old : (j : ℕ) → p ≤ j → entry_of now j ≡ entry_of old j
  unfolding chosen_so_far
  choosing_old j h =
      let k = count p f in
      let few : k ≤ p = count-le p f in
      let together : k + (j - k) ≡ j = omega arith in
      let apart : length (chosen p f w) + (j - k) ≡ j = ap (λ (x : ℕ). x + (j - k)) (length-chosen p f w) ∙ together in
      ap (λ (x : List ℕ). entry_of x j) C.so_far
      ∙ ap (entry_of (chosen p f w ++ drop k old)) (sym apart) ∙ get_or-append-add (chosen p f w) (drop k old) (j - k) 0
      ∙ get_or-drop k old (j - k) 0 ∙ ap (entry_of old) together

  -- the entries that passed stand at the front
  pub choosing_end : n ≤ p → take (count n f) now ≡ chosen n f w
  unfolding chosen_so_far
  choosing_end h =
      let whole : p ≡ n = omega (arith, C.bound) in
      ap (take (count n f)) (C.so_far ∙ ap (chosen_so_far f w old) whole)
      ∙ take_at (chosen n f w) (drop (count n f) old) (count n f) (length-chosen n f w)

  -- and where there was room for no more, they are the list
  pub choosing_full : n ≤ p → length old ≡ count n f → now ≡ chosen n f w
  unfolding chosen_so_far
  choosing_full h long =
      let whole : p ≡ n = omega (arith, C.bound) in
      C.so_far ∙ ap (chosen_so_far f w old) whole
      ∙ ap (λ (x : List ℕ). chosen n f w ++ x) (drop_of_length-le old (le_of_eq long)) ∙ append-nil (chosen n f w)
