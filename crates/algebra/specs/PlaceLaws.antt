-- Laws of the places that pass a test: their number, the entries there, and that a search finds one.
use Rattle.std.specs.Prelude.{◌≡◌, refl, Bool, true, false, cond, not, List, [], ◌∷◌, ◌++◌, ℕ, zero, suc, ◌+◌, ◌-◌, ◌<◌, ◌≤◌, length, take, drop}
use Rattle.std.proofs.Common.{sym, ap, ap₂, ◌∙◌, append-nil, not-suc-le-zero, add-zero, le_of_eq, add-one, arith, length-append, take-suc, take_at, drop_at}
use Rattle.std.proofs.lemmas.Bool.{false≢true}
use Rattle.std.proofs.Math.Decide.{dec_lt}
use Rattle.algebra.specs.AllLaws.{below_suc}
use Rattle.algebra.specs.Lists.{entry_of}
use Rattle.algebra.specs.Places.{count, chosen, found}

pub length-chosen : (n : ℕ) (p : ℕ → Bool) (w : ℕ → ℕ) → length (chosen n p w) ≡ count n p
unfolding chosen count
length-chosen zero p w = refl
length-chosen (suc n) p w =
    length-append (chosen n p w) (cond (p n) (w n ∷ []) []) ∙ ap₂ (λ (x y : ℕ). x + y) (length-chosen n p w) (one (p n))
  where
    one : (b : Bool) → length (cond b (w n ∷ []) []) ≡ cond b 1 0
    one true = refl
    one false = refl

pub chosen_cong : (n : ℕ) (p : ℕ → Bool) (w v : ℕ → ℕ) → ((q : ℕ) → q < n → p q ≡ true → w q ≡ v q) → chosen n p w ≡ chosen n p v
unfolding chosen
chosen_cong zero p w v h = refl
chosen_cong (suc n) p w v h = ap₂ (λ (x y : List ℕ). x ++ y) (chosen_cong n p w v (λ q l. h q (omega arith))) (last (p n) (h n (omega arith)))
  where
    last : (b : Bool) → (b ≡ true → w n ≡ v n) → cond b (w n ∷ []) [] ≡ cond b (v n ∷ []) []
    last true e = ap (λ (x : ℕ). x ∷ []) (e refl)
    last false e = refl

-- equal choices come from words that agree there
pub chosen_same : (n : ℕ) (p : ℕ → Bool) (w v : ℕ → ℕ) → chosen n p w ≡ chosen n p v → (q : ℕ) → q < n → p q ≡ true → w q ≡ v q
unfolding chosen
chosen_same zero p w v e = λ q l. absurd (not-suc-le-zero l)
chosen_same (suc n) p w v e = below_suc (λ (q : ℕ). p q ≡ true → w q ≡ v q) n (chosen_same n p w v front) (last (p n) back)
  where
    front : chosen n p w ≡ chosen n p v
    front =
        sym (take_at (chosen n p w) (cond (p n) (w n ∷ []) []) (count n p) (length-chosen n p w)) ∙ ap (take (count n p)) e
        ∙ take_at (chosen n p v) (cond (p n) (v n ∷ []) []) (count n p) (length-chosen n p v)

    back : cond (p n) (w n ∷ []) [] ≡ cond (p n) (v n ∷ []) []
    back =
        sym (drop_at (chosen n p w) (cond (p n) (w n ∷ []) []) (count n p) (length-chosen n p w)) ∙ ap (drop (count n p)) e
        ∙ drop_at (chosen n p v) (cond (p n) (v n ∷ []) []) (count n p) (length-chosen n p v)

    last : (b : Bool) → cond b (w n ∷ []) [] ≡ cond b (v n ∷ []) [] → b ≡ true → w n ≡ v n
    last true q t = ap (λ (l : List ℕ). entry_of l 0) q
    last false q t = absurd (false≢true t)

-- any k values can be placed
pub chosen_placed : (n : ℕ) (p : ℕ → Bool) (l : List ℕ) → count n p ≤ length l → chosen n p (λ q. entry_of l (count q p)) ≡ take (count n p) l
unfolding chosen count
chosen_placed zero p l h = refl
chosen_placed (suc n) p l h =
    ap (λ (x : List ℕ). x ++ cond (p n) (entry_of l (count n p) ∷ []) []) (chosen_placed n p l (omega arith)) ∙ last (p n) (count n p) h
  where
    last : (b : Bool) (k : ℕ) → k + cond b 1 0 ≤ length l → take k l ++ cond b (entry_of l k ∷ []) [] ≡ take (k + cond b 1 0) l
    last true k h = sym (take-suc l k 0 (omega arith)) ∙ ap (λ (j : ℕ). take j l) (sym (add-one k))
    last false k h = append-nil (take k l) ∙ ap (λ (j : ℕ). take j l) (sym (add-zero k))

pub chosen_tests : (n : ℕ) (p q : ℕ → Bool) (w : ℕ → ℕ) → ((j : ℕ) → j < n → p j ≡ q j) → chosen n p w ≡ chosen n q w
unfolding chosen
chosen_tests zero p q w h = refl
chosen_tests (suc n) p q w h =
    ap₂ (λ (x : List ℕ) (b : Bool). x ++ cond b (w n ∷ []) []) (chosen_tests n p q w (λ j l. h j (omega arith))) (h n (omega arith))

pub count_tests : (n : ℕ) (p q : ℕ → Bool) → ((j : ℕ) → j < n → p j ≡ q j) → count n p ≡ count n q
unfolding count
count_tests zero p q h = refl
count_tests (suc n) p q h = ap₂ (λ (x : ℕ) (b : Bool). x + cond b 1 0) (count_tests n p q (λ j l. h j (omega arith))) (h n (omega arith))

pub count-le : (n : ℕ) (p : ℕ → Bool) → count n p ≤ n
unfolding count
count-le zero p = omega arith
count-le (suc n) p = omega (arith, count-le n p, one (p n))
  where
    one : (b : Bool) → cond b 1 0 ≤ 1
    one true = omega arith
    one false = omega arith

-- of more places no fewer pass
pub count_more : (k : ℕ) {i : ℕ} (p : ℕ → Bool) → i ≤ k → count i p ≤ count k p
unfolding count
count_more zero {i} p l =
    let same : i ≡ 0 = omega arith in le_of_eq (ap (λ (j : ℕ). count j p) same)
count_more (suc k) {i} p l = decided (dec_lt k i) (λ le. count_more k p le)
  where
    decided : Dec (k < i) → (i ≤ k → count i p ≤ count k p) → count i p ≤ count k p + cond (p k) 1 0
    decided (yes more) earlier =
        let same : i ≡ suc k = omega arith in le_of_eq (ap (λ (j : ℕ). count j p) same)
    decided (no less) earlier = omega (arith, earlier (omega arith))

pub count_full : (n : ℕ) (f : ℕ → Bool) → n ≤ count n f → (q : ℕ) → q < n → f q ≡ true
unfolding count
count_full zero f h = λ q l. absurd (not-suc-le-zero l)
count_full (suc n) f h = below_suc (λ (q : ℕ). f q ≡ true) n (count_full n f (rest (f n) h)) (last (f n) h)
  where
    rest : (b : Bool) → suc n ≤ count n f + cond b 1 0 → n ≤ count n f
    rest true k = omega arith
    rest false k = omega arith

    last : (b : Bool) → suc n ≤ count n f + cond b 1 0 → b ≡ true
    last true k = refl
    last false k = absurd (omega (arith, count-le n f))

pub count_none : (n : ℕ) (f : ℕ → Bool) → ((q : ℕ) → q < n → f q ≡ false) → count n f ≡ 0
unfolding count
count_none zero f h = refl
count_none (suc n) f h = ap₂ (λ (x : ℕ) (b : Bool). x + cond b 1 0) (count_none n f (λ q l. h q (omega arith))) (h n (omega arith))

-- the places that do not pass are the rest
pub free_count_lem : (n : ℕ) (f : ℕ → Bool) → count n (λ p. not (f p)) ≡ n - count n f
unfolding count
free_count_lem n f =
    let both : count n (λ p. not (f p)) + count n f ≡ n = together n in omega arith
  where
    one : (b : Bool) (x y : ℕ) → x + cond (not b) 1 0 + (y + cond b 1 0) ≡ suc (x + y)
    one true x y = omega arith
    one false x y = omega arith

    together : (n : ℕ) → count n (λ p. not (f p)) + count n f ≡ n
    together zero = refl
    together (suc n) = one (f n) (count n (λ p. not (f p))) (count n f) ∙ ap suc (together n)

-- a search finds what is there
pub found_passes : (n : ℕ) (p : ℕ → Bool) (i : ℕ) → i < n → p i ≡ true → p (found n p) ≡ true
unfolding found
found_passes zero p i l t = absurd (not-suc-le-zero l)
found_passes (suc n) p i l t = decided (p n) refl (λ m. found_passes n p i m t)
  where
    below : (i ≡ n → ⊥) → i < n
    below ne = omega arith

    decided : (b : Bool) → p n ≡ b → (i < n → p (found n p) ≡ true) → p (cond (p n) n (found n p)) ≡ true
    decided true e ih = ap (λ (b : Bool). p (cond b n (found n p))) e ∙ e
    decided false e ih = ap (λ (b : Bool). p (cond b n (found n p))) e ∙ ih (below (λ z. false≢true (sym e ∙ ap p (sym z) ∙ t)))
