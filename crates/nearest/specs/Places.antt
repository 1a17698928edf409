-- The places below n that pass a test, numbered from the left: `place n p k` is the one with k others before it.
--
-- So the errors of a received word, which are the places where it differs from a code word, become points e 0, .., e (w − 1), as the locator theorem
-- asks for them.
use Rattle.std.specs.Prelude.{◌≡◌, ◌≢◌, Bool, ◌&&◌}
use Rattle.std.proofs.Math.Path.{refl, ap}
use Rattle.std.proofs.Common.{sym, ◌∙◌, subst, not-suc-le-zero, add-zero, add-one, arith, eqb-true, eq-eqb, ne_eqb}
use Rattle.std.proofs.Math.Bool.{true, false, cond}
use Rattle.std.proofs.lemmas.Bool.{false≢true}
use Prim.Native.Nat.{ℕ, zero, suc, ◌+◌, ◌<◌}
use Rattle.std.proofs.Math.Decide.{dec_lt, ℕ_discrete}
use Rattle.std.proofs.Math.Dec.{eqb}
use Rattle.algebra.specs.Flags.{both_true, both_hold}
use Rattle.algebra.specs.Field.{Ops, Laws}
use Rattle.algebra.specs.FieldLaws.{add-nought}
use Rattle.algebra.specs.Sum.{sum}
use Rattle.algebra.specs.SumLaws.{sum_cong}
use Rattle.algebra.specs.Places.{count, found}
use Rattle.algebra.specs.PlaceLaws.{found_passes}

unfoldable pub place : ℕ → (ℕ → Bool) → ℕ → ℕ
place n p k = found n (λ j. p j && eqb (count j p) k)

-- ---- the count before a place tells the places apart

count_grows : (p : ℕ → Bool) (i j : ℕ) → i < j → p i ≡ true → count i p < count j p
unfolding count
count_grows p i zero l t = absurd (not-suc-le-zero l)
count_grows p i (suc j) l t = decided (ℕ_discrete i j) (λ m. count_grows p i j m t)
  where
    here : (b : Bool) → b ≡ true → (k : ℕ) → k < k + cond b 1 0
    here true e k = omega arith
    here false e k = absurd (false≢true e)

    decided : Dec (i ≡ j) → (i < j → count i p < count j p) → count i p < count j p + cond (p j) 1 0
    decided (yes e) ih = subst (λ (k : ℕ). count i p < count k p + cond (p k) 1 0) e (here (p i) t (count i p))
    decided (no ne) ih =
        let before : count i p < count j p = ih (omega arith) in omega arith

same_count : (p : ℕ → Bool) (i j : ℕ) → p i ≡ true → p j ≡ true → count i p ≡ count j p → i ≡ j
same_count p i j ti tj e = decided (dec_lt i j) (dec_lt j i)
  where
    decided : Dec (i < j) → Dec (j < i) → i ≡ j
    decided (yes l) d =
        let more : count i p < count j p = count_grows p i j l ti in absurd (omega arith)
    decided (no nl) (yes l) =
        let more : count j p < count i p = count_grows p j i l tj in absurd (omega arith)
    decided (no nl) (no nl') = omega arith

-- ---- every number below the count is one of a place

there_is : (n : ℕ) (p : ℕ → Bool) (k : ℕ) → k < count n p → (j : ℕ) × (j < n) × (p j ≡ true) × (count j p ≡ k)
unfolding count
there_is zero p k l = absurd (not-suc-le-zero l)
there_is (suc n) p k l = decided (dec_lt k (count n p)) (p n) refl l (there_is n p k)
  where
    decided : Dec (k < count n p) → (b : Bool) → p n ≡ b → k < count n p + cond b 1 0
        → (k < count n p → (j : ℕ) × (j < n) × (p j ≡ true) × (count j p ≡ k)) → (j : ℕ) × (j < suc n) × (p j ≡ true) × (count j p ≡ k)
    decided (yes m) b e l ih =
        let (j, lj, t, c) = ih m in (j, omega arith, t, c)
    decided (no nm) true e l ih = (n, omega arith, e, omega arith)
    decided (no nm) false e l ih = absurd (omega arith)

found_lt : (n : ℕ) (p : ℕ → Bool) → 0 < n → found n p < n
unfolding found
found_lt zero p l = absurd (omega arith)
found_lt (suc n) p l = decided (p n) (ℕ_discrete n 0) (found_lt n p)
  where
    decided : (b : Bool) → Dec (n ≡ 0) → (0 < n → found n p < n) → cond b n (found n p) < suc n
    decided true d ih = omega arith
    decided false (yes e) ih = subst (λ (k : ℕ). found k p < suc k) (sym e) nothing
      where
        nothing : found 0 p < 1
        nothing = omega arith
    decided false (no ne) ih =
        let small : found n p < n = ih (omega arith) in omega arith

pub place_is : (n : ℕ) (p : ℕ → Bool) (k : ℕ) → k < count n p
    → (place n p k < n) × (p (place n p k) ≡ true) × (count (place n p k) p ≡ k)
unfolding place
place_is n p k l =
    let (j, lj, t, c) = there_is n p k l in
    let positive : 0 < n = omega arith in
    let (passes, before) =
    both_true (p (place n p k)) (eqb (count (place n p k) p) k)
    (found_passes n (λ j. p j && eqb (count j p) k) j lj (both_hold t (eq-eqb (count j p) k c))) in
    (found_lt n (λ j. p j && eqb (count j p) k) positive, passes, eqb-true (count (place n p k) p) k before)

pub place_distinct : (n : ℕ) (p : ℕ → Bool) (i k : ℕ) → i < k → k < count n p → place n p i ≢ place n p k
place_distinct n p i k l lk e =
    let before_i : count (place n p i) p ≡ i = (place_is n p i (omega arith)).2 in
    let before_k : count (place n p k) p ≡ k = (place_is n p k lk).2 in
    let same : i ≡ k = sym before_i ∙ ap (λ (j : ℕ). count j p) e ∙ before_k in
    omega arith

-- every place that passes is one of them
pub place_of : (n : ℕ) (p : ℕ → Bool) (j : ℕ) → j < n → p j ≡ true → (count j p < count n p) × (place n p (count j p) ≡ j)
place_of n p j l t =
    let more : count j p < count n p = count_grows p j n l t in
    let (inside, passes, before) = place_is n p (count j p) more in
    (more, same_count p (place n p (count j p)) j passes t before)

-- ---- a sum over the places that pass

module _ {A : Type 0} (K : Ops A) (F : Laws K) where
  pub sum_places : (n : ℕ) (p : ℕ → Bool) (f : ℕ → A)
      → sum K n (λ j. cond (p j) (f j) K.nought) ≡ sum K (count n p) (λ k. f (place n p k))
  unfolding sum count place found
  sum_places zero p f = refl
  sum_places (suc n) p f =
      ap (λ (x : A). K.add x (cond (p n) (f n) K.nought)) (sum_places n p f ∙ sum_cong K (count n p) (λ k l. ap f (sym (earlier k l))))
      ∙ last (p n) refl
    where
      earlier : (k : ℕ) → k < count n p → place (suc n) p k ≡ place n p k
      earlier k l = ap (λ (b : Bool). cond b n (place n p k)) (beyond (p n) (ne_eqb (count n p) k (λ e. omega arith)))
        where
          beyond : (b : Bool) → eqb (count n p) k ≡ false → (b && eqb (count n p) k) ≡ false
          beyond true e = e
          beyond false e = refl

      here : p n ≡ true → place (suc n) p (count n p) ≡ n
      here t = ap (λ (b : Bool). cond b n (place n p (count n p))) (both_hold t (eq-eqb (count n p) (count n p) refl))

      last : (b : Bool) → p n ≡ b
          → K.add (sum K (count n p) (λ k. f (place (suc n) p k))) (cond b (f n) K.nought)
          ≡ sum K (count n p + cond b 1 0) (λ k. f (place (suc n) p k))
      last true t =
          ap (λ (x : A). K.add (sum K (count n p) (λ k. f (place (suc n) p k))) x) (ap f (sym (here t)))
          ∙ ap (λ (c : ℕ). sum K c (λ k. f (place (suc n) p k))) (sym (add-one (count n p)))
      last false t =
          add-nought K F (sum K (count n p) (λ k. f (place (suc n) p k)))
          ∙ ap (λ (c : ℕ). sum K c (λ k. f (place (suc n) p k))) (sym (add-zero (count n p)))
