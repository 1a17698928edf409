-- The places that pass a test, numbered anew: place q, where it passes, is number `count q`. Sums, counts and choices over the new numbers are those
-- over the places, with nothing where the test fails.
use Rattle.std.specs.Prelude.{◌≡◌, Bool, ◌&&◌}
use Rattle.std.proofs.Math.Path.{refl, sym, ap}
use Rattle.std.proofs.Common.{◌∙◌, subst, not-suc-le-zero, add-one}
use Rattle.std.proofs.Math.Bool.{true, false, cond, not}
use Rattle.std.proofs.lemmas.Bool.{false≢true}
use mathlib.Core.List.{List, [], ◌∷◌, ◌++◌, append-nil}
use Prim.Native.Nat.{ℕ, zero, suc, ◌+◌, ◌<◌, ◌≤◌}
use Rattle.std.proofs.Math.Nat.{add-zero}
use Rattle.std.proofs.Math.Decide.{dec_lt}
use native.Mathlib.Omega.{arith}
use Rattle.std.proofs.Math.ListN.{get_or-append}
use Rattle.std.proofs.Math.Seq.{get_or_at}
use Rattle.algebra.specs.Field.{Ops, Laws}
use Rattle.algebra.specs.FieldLaws.{add-nought}
use Rattle.algebra.specs.Lists.{entry_of}
use Rattle.algebra.specs.Places.{count, chosen}
use Rattle.algebra.specs.PlaceLaws.{length-chosen, count_more}
use Rattle.algebra.specs.Sum.{sum}

module _ (p : ℕ → Bool) where
  -- ---- where a place goes

  pub count_turn : (q : ℕ) (b : Bool) → p q ≡ b → count (q + 1) p ≡ cond b (count q p + 1) (count q p)
  unfolding count
  count_turn q true e = ap (λ (k : ℕ). count k p) (add-one q) ∙ ap (λ (b : Bool). count q p + cond b 1 0) e
  count_turn q false e = ap (λ (k : ℕ). count k p) (add-one q) ∙ ap (λ (b : Bool). count q p + cond b 1 0) e ∙ add-zero (count q p)

  pub chosen_turn : (w : ℕ → ℕ) (q : ℕ) (b : Bool) → p q ≡ b → chosen (q + 1) p w ≡ chosen q p w ++ cond b (w q ∷ []) []
  unfolding chosen
  chosen_turn w q b e = ap (λ (k : ℕ). chosen k p w) (add-one q) ∙ ap (λ (b : Bool). chosen q p w ++ cond b (w q ∷ []) []) e

  -- a place that passes is itself counted below n, and not before it
  pub count_below : (q n : ℕ) → q < n → p q ≡ true → count q p < count n p
  count_below q n l e =
      let next : count (q + 1) p ≡ count q p + 1 = count_turn q true e in
      let after : count (q + 1) p ≤ count n p = count_more n p (omega arith) in
      omega arith

  -- the new numbers rise with the places
  pub count_orders : (q r : ℕ) → count q p < count r p → q < r
  count_orders q r l = decided (dec_lt q r)
    where
      decided : Dec (q < r) → q < r
      decided (yes a) = a
      decided (no na) = absurd (omega (arith, l, count_more q {i = r} p (omega arith)))

  pub entry_chosen : (n : ℕ) (w : ℕ → ℕ) (q : ℕ) → q < n → p q ≡ true → entry_of (chosen n p w) (count q p) ≡ w q
  unfolding chosen
  entry_chosen zero w q l t = absurd (not-suc-le-zero l)
  entry_chosen (suc n) w q l t = decided (dec_lt q n) (entry_chosen n w q)
    where
      decided : Dec (q < n) → (q < n → p q ≡ true → entry_of (chosen n p w) (count q p) ≡ w q)
          → entry_of (chosen n p w ++ cond (p n) (w n ∷ []) []) (count q p) ≡ w q
      decided (yes m) earlier =
          get_or-append (chosen n p w) (cond (p n) (w n ∷ []) []) 0 (count q p)
          (subst (λ (k : ℕ). count q p < k) (sym (length-chosen n p w)) (count_below q n m t))
          ∙ earlier m t
      decided (no nm) earlier =
          let last : n ≡ q = omega arith in
          ap (λ (b : Bool). entry_of (chosen n p w ++ cond b (w n ∷ []) []) (count q p)) (ap p last ∙ t)
          ∙ get_or_at (chosen n p w) (w n) [] 0 (count q p) (length-chosen n p w ∙ ap (λ (k : ℕ). count k p) last)
          ∙ ap w last

  -- ---- where a number comes from

  pub record Comes (n j : ℕ) : Type 0 where
    pub place : ℕ
    pub inside : place < n
    pub passes : p place ≡ true
    pub number : count place p ≡ j

  pub comes : (n j : ℕ) → j < count n p → Comes n j
  unfolding count
  comes zero j l = absurd (not-suc-le-zero l)
  comes (suc n) j l = decided (p n) refl l (dec_lt j (count n p)) (comes n j)
    where
      further : Comes n j → Comes (suc n) j
      further C =
          let l = C.inside in
          record { place = C.place; inside = omega arith; passes = C.passes; number = C.number }

      decided : (b : Bool) → p n ≡ b → j < count n p + cond b 1 0 → Dec (j < count n p) → (j < count n p → Comes n j) → Comes (suc n) j
      decided b e l (yes a) earlier = further (earlier a)
      decided false e l (no na) earlier = absurd (omega arith)
      decided true e l (no na) earlier = record { place = n; inside = omega arith; passes = e; number = omega arith }

  pub chosen_at : (n j : ℕ) (w : ℕ → ℕ) (C : Comes n j) → entry_of (chosen n p w) j ≡ w C.place
  chosen_at n j w C =
      ap (entry_of (chosen n p w)) (sym C.number) ∙ entry_chosen n w C.place C.inside C.passes

  -- ---- over the new numbers, and over the places

  module _ {A : Type 0} (K : Ops A) (F : Laws K) where
    pub sum_chosen : (n : ℕ) (f : ℕ → A) → sum K (count n p) f ≡ sum K n (λ q. cond (p q) (f (count q p)) K.nought)
    unfolding sum count
    sum_chosen zero f = refl
    sum_chosen (suc n) f =
        last (p n) (count n p) ∙ ap (λ (x : A). K.add x (cond (p n) (f (count n p)) K.nought)) (sum_chosen n f)
      where
        last : (b : Bool) (k : ℕ) → sum K (k + cond b 1 0) f ≡ K.add (sum K k f) (cond b (f k) K.nought)
        last true k = ap (λ (i : ℕ). sum K i f) (add-one k)
        last false k = ap (λ (i : ℕ). sum K i f) (add-zero k) ∙ sym (add-nought K F (sum K k f))

  pub count_chosen : (n : ℕ) (f : ℕ → Bool) → count (count n p) f ≡ count n (λ q. p q && f (count q p))
  unfolding count
  count_chosen zero f = refl
  count_chosen (suc n) f =
      last (p n) (count n p) ∙ ap (λ (x : ℕ). x + cond (p n && f (count n p)) 1 0) (count_chosen n f)
    where
      last : (b : Bool) (k : ℕ) → count (k + cond b 1 0) f ≡ count k f + cond (b && f k) 1 0
      last true k = ap (λ (i : ℕ). count i f) (add-one k)
      last false k = ap (λ (i : ℕ). count i f) (add-zero k) ∙ sym (add-zero (count k f))

  pub chosen-chosen : (n : ℕ) (f : ℕ → Bool) (w : ℕ → ℕ)
      → chosen (count n p) f w ≡ chosen n (λ q. p q && f (count q p)) (λ q. w (count q p))
  unfolding chosen count
  chosen-chosen zero f w = refl
  chosen-chosen (suc n) f w =
      last (p n) (count n p)
      ∙ ap (λ (x : List ℕ). x ++ cond (p n && f (count n p)) (w (count n p) ∷ []) []) (chosen-chosen n f w)
    where
      last : (b : Bool) (k : ℕ) → chosen (k + cond b 1 0) f w ≡ chosen k f w ++ cond (b && f k) (w k ∷ []) []
      last true k = ap (λ (i : ℕ). chosen i f w) (add-one k)
      last false k = ap (λ (i : ℕ). chosen i f w) (add-zero k) ∙ sym (append-nil (chosen k f w))

  -- a test that holds wherever the first fails: what passes both, and what fails the first
  pub count_parts : (n : ℕ) (f : ℕ → Bool) → ((q : ℕ) → q < n → p q ≡ false → f q ≡ true)
      → count n f ≡ count n (λ q. p q && f q) + count n (λ q. not (p q))
  unfolding count
  count_parts zero f h = refl
  count_parts (suc n) f h =
      ap (λ (x : ℕ). x + cond (f n) 1 0) (count_parts n f (λ q l. h q (omega arith)))
      ∙ last (p n) (f n) (h n (omega arith)) (count n (λ q. p q && f q)) (count n (λ q. not (p q)))
    where
      last : (a b : Bool) → (a ≡ false → b ≡ true) → (x y : ℕ) → x + y + cond b 1 0 ≡ x + cond (a && b) 1 0 + (y + cond (not a) 1 0)
      last true true q x y = omega arith
      last true false q x y = omega arith
      last false true q x y = omega arith
      last false false q x y = absurd (false≢true (q refl))
