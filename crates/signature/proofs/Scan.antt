-- The loops of this crate, over plain numbers and lists: what holds at their begin, at each turn and at their end.
use mathlib.Core.Path.{◌≡◌, sym, ap, ap₂, ◌∙◌, subst}
use mathlib.Core.Bool.{Bool, true, false, not, ◌&&◌, false≢true}
use mathlib.Core.List.{List, ◌∷◌}
use Prim.Native.Nat.{ℕ, zero, suc, ◌+◌, ◌<◌}
use native.Mathlib.Omega.{arith}
use native.Mathlib.Numerals.{add-one}
use lib.Dec.{eqb}
use lib.ListN.{length}
use Rattle.std.specs.List.{IsAnyAnswer}
use borrow.Author.Tests.{eq-eqb, eqb-true, ne_eqb}
use Rattle.algebra.specs.All.{all}
use Rattle.algebra.specs.AllLaws.{all-false}
use Rattle.algebra.specs.Distinct.{distinct}
use Rattle.algebra.specs.DistinctLaws.{distinct_is}
use Rattle.algebra.specs.Flags.{refuted}
use Rattle.algebra.specs.Xor.{◌⊕◌}
use Rattle.algebra.specs.XorLaws.{xor, ⊕-lt}
use Rattle.slices.specs.Lengths.{is_power}
use Rattle.slices.specs.LengthLaws.{power_is}
use Rattle.signature.specs.Tests.{pair_kept, affine}
use Rattle.signature.specs.TestLaws.{EqualToFirst}
use Rattle.algebra.specs.Lists.{entry_of}

-- ---- the pairs i, j

pub index_below : (n i j : ℕ) → is_power n ≡ true → i < n → j < n → i ⊕ j < n
index_below n i j t li lj =
    let (e, l, v) = power_is n t in
    subst (λ (x : ℕ). i ⊕ j < x) (sym v) (⊕-lt e i j (subst (λ (x : ℕ). i < x) v li) (subst (λ (x : ℕ). j < x) v lj))

module _ (f : ℕ → ℕ) where
  -- the sum that a turn of the inner loop compares with, its part of i being made before the loop
  pair_sum : (i j : ℕ) → f j ⊕ (f i ⊕ f 0) ≡ f i ⊕ f j ⊕ f 0
  pair_sum i j = simp xor

  pub pair_kept_lem : (i j : ℕ) → f (i ⊕ j) ≡ f j ⊕ (f i ⊕ f 0) → pair_kept f i j ≡ true
  unfolding pair_kept
  pair_kept_lem i j e = eq-eqb (f (i ⊕ j)) (f i ⊕ f j ⊕ f 0) (e ∙ pair_sum i j)

  pub pair_broken : (n i j : ℕ) → i < n → j < n → (f (i ⊕ j) ≡ f j ⊕ (f i ⊕ f 0) → ⊥) → affine n f ≡ false
  unfolding pair_kept affine
  pair_broken n i j li lj ne =
      all-false n (λ i. all n (pair_kept f i)) i li
      (all-false n (pair_kept f i) j lj (ne_eqb (f (i ⊕ j)) (f i ⊕ f j ⊕ f 0) (λ e. ne (e ∙ sym (pair_sum i j)))))

-- ---- equal entries

module _ (h : List ℕ) where
  pub first_twice : (i : ℕ) → 0 < i → i < length h → entry_of h 0 ≡ entry_of h i → distinct h ≡ false
  first_twice i p l e = refuted (distinct h) (λ t. (distinct_is h).0 t 0 i p l e)

  pub first_once : EqualToFirst h → ((k : ℕ) → 0 < k → k < length h → entry_of h 0 ≡ entry_of h k → ⊥) → distinct h ≡ true
  first_once repeated none =
      (distinct_is h).1
      (λ i j l lj e.
      let (k, p, lk, q) = repeated i j l lj e in none k p lk q)

-- the first entry looked for among the others
pub first_among : (first : ℕ) (others : List ℕ) (r : Bool) → EqualToFirst (first ∷ others) → IsAnyAnswer (λ y b. eqb y first ≡ b) others r
    → not r ≡ distinct (first ∷ others)
first_among first others true repeated (k, l, found) =
    sym (first_twice (first ∷ others) (suc k) (omega arith) (omega arith) (sym (eqb-true _ first (found 0))))
first_among first others false repeated each = sym (first_once (first ∷ others) repeated none)
  where
    none : (k : ℕ) → 0 < k → k < length (first ∷ others) → entry_of (first ∷ others) 0 ≡ entry_of (first ∷ others) k → ⊥
    none zero p l e = omega arith
    none (suc k) p l e = false≢true (sym (each k 0 (omega arith) (omega arith)) ∙ eq-eqb _ first (sym e))

pub none_different : (h : List ℕ) → length h ≡ 0 → true ≡ distinct h
none_different h z = sym ((distinct_is h).1 (λ i j l lj e. omega arith))
