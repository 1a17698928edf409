-- What tests over a range say: that they hold at every number below n, or at some.
use Rattle.std.specs.Prelude.{◌≡◌, refl, Bool, true, false, ◌&&◌, ◌||◌, ℕ, zero, suc, ◌<◌}
use Rattle.std.proofs.Common.{sym, ap, ap₂, ◌∙◌, subst, not-suc-le-zero, arith}
use Rattle.std.proofs.Math.Bool.{or-true}
use Rattle.std.proofs.lemmas.Bool.{false≢true}
use Rattle.std.proofs.Math.Decide.{dec_lt}
use Rattle.algebra.specs.All.{all, some}
use Rattle.algebra.specs.Flags.{both_true, refuted}

-- what holds below n and at n holds below n + 1
pub below_suc : (P : ℕ → Type 0) (n : ℕ) → ((i : ℕ) → i < n → P i) → P n → (i : ℕ) → i < suc n → P i
below_suc P n f p i h = decided (dec_lt i n)
  where
    decided : Dec (i < n) → P i
    decided (yes l) = f i l
    decided (no nl) = subst P (omega arith) p

pub all_is : (n : ℕ) (p : ℕ → Bool) → all n p ≡ true → (i : ℕ) → i < n → p i ≡ true
unfolding all
all_is zero p e = λ i h. absurd (not-suc-le-zero h)
all_is (suc n) p e = below_suc (λ (i : ℕ). p i ≡ true) n (all_is n p (both_true (all n p) (p n) e).0) (both_true (all n p) (p n) e).1

pub all_true : (n : ℕ) (p : ℕ → Bool) → ((i : ℕ) → i < n → p i ≡ true) → all n p ≡ true
unfolding all
all_true zero p h = refl
all_true (suc n) p h = ap₂ (λ (a b : Bool). a && b) (all_true n p (λ i l. h i (omega arith))) (h n (omega arith))

pub all-false : (n : ℕ) (p : ℕ → Bool) (i : ℕ) → i < n → p i ≡ false → all n p ≡ false
all-false n p i h e = refuted (all n p) (λ q. false≢true (sym e ∙ all_is n p q i h))

-- where not all hold, one fails
pub all_fails : (n : ℕ) (p : ℕ → Bool) → all n p ≡ false → (i : ℕ) × (i < n) × (p i ≡ false)
unfolding all
all_fails zero p e = absurd (false≢true (sym e))
all_fails (suc n) p e = decided (all n p) refl e (all_fails n p)
  where
    decided : (b : Bool) → all n p ≡ b → (all n p && p n) ≡ false → (all n p ≡ false → (i : ℕ) × (i < n) × (p i ≡ false))
        → (i : ℕ) × (i < suc n) × (p i ≡ false)
    decided true q e ih = (n, omega arith, sym (ap (λ (b : Bool). b && p n) q) ∙ e)
    decided false q e ih =
        let (i, l, f) = ih q in (i, omega arith, f)

pub all_cong : (n : ℕ) {p q : ℕ → Bool} → ((i : ℕ) → i < n → p i ≡ q i) → all n p ≡ all n q
unfolding all
all_cong zero h = refl
all_cong (suc n) h = ap₂ (λ (a b : Bool). a && b) (all_cong n (λ i l. h i (omega arith))) (h n (omega arith))

pub some-true : (n : ℕ) (p : ℕ → Bool) (i : ℕ) → i < n → p i ≡ true → some n p ≡ true
unfolding some
some-true zero p i h e = absurd (not-suc-le-zero h)
some-true (suc n) p i h e = decided (dec_lt i n) (λ l. some-true n p i l e)
  where
    decided : Dec (i < n) → (i < n → some n p ≡ true) → (some n p || p n) ≡ true
    decided (yes l) ih = ap (λ (b : Bool). b || p n) (ih l)
    decided (no nl) ih = ap (λ (b : Bool). some n p || b) (subst (λ (j : ℕ). p j ≡ true) (omega arith) e) ∙ or-true (some n p)

pub some_is : (n : ℕ) (p : ℕ → Bool) → some n p ≡ true → (i : ℕ) × (i < n) × (p i ≡ true)
unfolding some
some_is zero p e = absurd (false≢true e)
some_is (suc n) p e = decided (some n p) refl e (some_is n p)
  where
    decided : (b : Bool) → some n p ≡ b → (some n p || p n) ≡ true → (some n p ≡ true → (i : ℕ) × (i < n) × (p i ≡ true))
        → (i : ℕ) × (i < suc n) × (p i ≡ true)
    decided true q e ih =
        let (i, l, h) = ih q in (i, omega arith, h)
    decided false q e ih = (n, omega arith, sym (ap (λ (b : Bool). b || p n) q) ∙ e)
