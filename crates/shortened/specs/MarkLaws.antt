-- Words that are sent and words of all places: each comes from the other, where the hidden places hold 0.
use Rattle.std.specs.Prelude.{◌≡◌, refl, Bool, true, false, List, ℕ, ◌<◌, ◌≤◌, length}
use Rattle.std.proofs.Common.{sym, ap, ◌∙◌, subst, le_of_eq, arith, ext_get_or}
use Rattle.std.proofs.Math.Bool.{cond}
use Rattle.std.proofs.Math.Seq.{take_all}
use Rattle.algebra.specs.Lists.{entry_of}
use Rattle.algebra.specs.Places.{count}
use Rattle.algebra.specs.PlaceLaws.{length-chosen, chosen_cong, chosen_placed, count-le}
use Rattle.algebra.specs.Subsequence.{Comes, comes, chosen_at, entry_chosen, count_below, count_orders}
use Rattle.algebra.specs.TabulateLaws.{length-tabulate, get_d_tabulate}
use Rattle.slices.specs.Bits.{IsBits}
use Rattle.parity.specs.Selected.{Selected}
use Rattle.shortened.specs.Marks.{is_sent, sent_count, sent_of, full_word}

module _ (hidden : List ℕ) where
  pub sent_le : sent_count hidden ≤ length hidden
  unfolding sent_count
  sent_le = count-le (length hidden) (is_sent hidden)

  pub length_sent : (x : List ℕ) → length (sent_of hidden x) ≡ sent_count hidden
  unfolding sent_of sent_count
  length_sent x = length-chosen (length hidden) (is_sent hidden) (entry_of x)

  -- place p of all is place `count p` of the word, if it is sent
  pub sent_below : (p : ℕ) → p < length hidden → is_sent hidden p ≡ true → count p (is_sent hidden) < sent_count hidden
  unfolding sent_count
  sent_below p l t = count_below (is_sent hidden) p (length hidden) l t

  pub sent_entry : (x : List ℕ) (p : ℕ) → p < length hidden → is_sent hidden p ≡ true
      → entry_of (sent_of hidden x) (count p (is_sent hidden)) ≡ entry_of x p
  unfolding sent_of
  sent_entry x p l t = entry_chosen (is_sent hidden) (length hidden) (entry_of x) p l t

  -- place j of the word comes from a place that is sent
  abbrev pub From : ℕ → Type 0
  From j = Comes (is_sent hidden) (length hidden) j

  pub from : (j : ℕ) → j < sent_count hidden → From j
  unfolding sent_count
  from j l = comes (is_sent hidden) (length hidden) j l

  pub sent_from : (x : List ℕ) (j : ℕ) (C : From j) → entry_of (sent_of hidden x) j ≡ entry_of x C.place
  unfolding sent_of
  sent_from x j C = chosen_at (is_sent hidden) (length hidden) j (entry_of x) C

  -- what is sent depends on the entries alone
  pub sent_cong : (x y : List ℕ) → ((p : ℕ) → p < length hidden → entry_of x p ≡ entry_of y p) → sent_of hidden x ≡ sent_of hidden y
  unfolding sent_of
  sent_cong x y e = chosen_cong (length hidden) (is_sent hidden) (entry_of x) (entry_of y) (λ p l t. e p l)

  -- ---- the word of all places

  pub length_full : (w : List ℕ) → length (full_word hidden w) ≡ length hidden
  unfolding full_word
  length_full w = length-tabulate (length hidden) (λ p. cond (is_sent hidden p) (entry_of w (count p (is_sent hidden))) 0)

  pub full_at_lem : (w : List ℕ) (p : ℕ) → p < length hidden
      → entry_of (full_word hidden w) p ≡ cond (is_sent hidden p) (entry_of w (count p (is_sent hidden))) 0
  unfolding full_word
  full_at_lem w p l = get_d_tabulate (length hidden) (λ p. cond (is_sent hidden p) (entry_of w (count p (is_sent hidden))) 0) p 0 l

  pub full_sent : (w : List ℕ) (p : ℕ) → p < length hidden → is_sent hidden p ≡ true
      → entry_of (full_word hidden w) p ≡ entry_of w (count p (is_sent hidden))
  full_sent w p l t = full_at_lem w p l ∙ ap (λ (b : Bool). cond b (entry_of w (count p (is_sent hidden))) 0) t

  pub full_hidden : (w : List ℕ) (p : ℕ) → p < length hidden → is_sent hidden p ≡ false → entry_of (full_word hidden w) p ≡ 0
  full_hidden w p l f = full_at_lem w p l ∙ ap (λ (b : Bool). cond b (entry_of w (count p (is_sent hidden))) 0) f

  -- it gives the word that is sent
  pub sent_of_full : (w : List ℕ) → length w ≡ sent_count hidden → sent_of hidden (full_word hidden w) ≡ w
  unfolding sent_of sent_count
  sent_of_full w long =
      chosen_cong (length hidden) (is_sent hidden) (entry_of (full_word hidden w)) (λ p. entry_of w (count p (is_sent hidden))) (full_sent w)
      ∙ chosen_placed (length hidden) (is_sent hidden) w (le_of_eq (sym long))
      ∙ take_all (count (length hidden) (is_sent hidden)) w (le_of_eq long)

  -- and comes from it, if it holds 0 at the hidden places
  pub full_of_sent : (x : List ℕ) → length x ≡ length hidden → ((p : ℕ) → p < length hidden → is_sent hidden p ≡ false → entry_of x p ≡ 0)
      → full_word hidden (sent_of hidden x) ≡ x
  full_of_sent x long zero =
      ext_get_or 0 (full_word hidden (sent_of hidden x)) x (length_full (sent_of hidden x) ∙ sym long)
      (λ p l. at p (subst (λ (k : ℕ). p < k) (length_full (sent_of hidden x)) l))
    where
      decided : (p : ℕ) → p < length hidden → (b : Bool) → is_sent hidden p ≡ b → entry_of (full_word hidden (sent_of hidden x)) p ≡ entry_of x p
      decided p l true t = full_sent (sent_of hidden x) p l t ∙ sent_entry x p l t
      decided p l false f = full_hidden (sent_of hidden x) p l f ∙ sym (zero p l f)

      at : (p : ℕ) → p < length hidden → entry_of (full_word hidden (sent_of hidden x)) p ≡ entry_of x p
      at p l = decided p l (is_sent hidden p) refl

  -- bits come from bits
  pub full_bits : {w : List ℕ} → IsBits (sent_count hidden) w → IsBits (length hidden) (full_word hidden w)
  full_bits {w} b = record { long = length_full w; bits = λ p l. decided p l (is_sent hidden p) refl }
    where
      decided : (p : ℕ) → p < length hidden → (s : Bool) → is_sent hidden p ≡ s → entry_of (full_word hidden w) p < 2
      decided p l true t =
          subst (λ (x : ℕ). x < 2) (sym (full_sent w p l t)) (b.bits (count p (is_sent hidden)) (sent_below p l t))
      decided p l false f = subst (λ (x : ℕ). x < 2) (sym (full_hidden w p l f)) (omega arith)

  pub sent_bits : {x : List ℕ} → IsBits (length hidden) x → IsBits (sent_count hidden) (sent_of hidden x)
  sent_bits {x} b =
      record {
        long = length_sent x;
        bits = λ j l. let C = from j l in subst (λ (y : ℕ). y < 2) (sym (sent_from x j C)) (b.bits C.place C.inside);
      }

  -- ---- columns: what is left of different columns of a code is different columns of it

  pub sent_selected : {n : ℕ} {cols : List ℕ} → length hidden ≡ length cols → Selected n cols → Selected n (sent_of hidden cols)
  sent_selected {n} {cols} long S =
      record {
        inside = λ j l.
            let C = at j l in subst (λ (x : ℕ). x < n) (sym (sent_from cols j C)) (S.inside C.place (below C));
        distinct = λ i j l lj e.
            let li : i < length (sent_of hidden cols) = omega arith in
            let C = at i li in
            let D = at j lj in
            S.distinct C.place D.place
            (count_orders (is_sent hidden) C.place D.place
            (subst (λ (x : ℕ). x < count D.place (is_sent hidden)) (sym C.number) (subst (λ (x : ℕ). i < x) (sym D.number) l)))
            (below D) (sym (sent_from cols i C) ∙ e ∙ sent_from cols j D);
      }
    where
      at : (j : ℕ) → j < length (sent_of hidden cols) → From j
      at j l = from j (subst (λ (k : ℕ). j < k) (length_sent cols) l)

      below : {j : ℕ} (C : From j) → C.place < length cols
      below C = subst (λ (k : ℕ). C.place < k) long C.inside
