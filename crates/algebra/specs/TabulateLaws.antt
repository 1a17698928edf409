-- Laws of lists that are given by their entries: their length, their entries, and when two are equal.
use Rattle.std.specs.Prelude.{◌≡◌, length}
use Rattle.std.proofs.Math.Path.{refl, sym, ap, ap₂}
use Rattle.std.proofs.Common.{◌∙◌, subst, not-suc-le-zero, add-zero, add-suc, ext_get_or}
use mathlib.Core.List.{List, [], ◌∷◌, ◌++◌, append_assoc, append-nil}
use Prim.Native.Nat.{ℕ, zero, suc, ◌+◌, ◌<◌}
use Rattle.std.proofs.Math.Decide.{dec_lt}
use Rattle.std.proofs.Math.Numerals.{add-one}
use native.Mathlib.Omega.{arith}
use Rattle.std.proofs.Math.ListN.{get_or, length-append, get_or-append}
use Rattle.std.proofs.Math.Seq.{get_or_at}
use Rattle.algebra.specs.Tabulate.{tabulate}

module _ {A : Type 0} where
  pub length-tabulate : (n : ℕ) (f : ℕ → A) → length (tabulate n f) ≡ n
  unfolding tabulate
  length-tabulate zero f = refl
  length-tabulate (suc n) f = length-append (tabulate n f) (f n ∷ []) ∙ ap (λ (k : ℕ). k + 1) (length-tabulate n f) ∙ add-one n

  pub get_d_tabulate : (n : ℕ) (f : ℕ → A) (i : ℕ) (d : A) → i < n → get_or (tabulate n f) i d ≡ f i
  unfolding tabulate
  get_d_tabulate zero f i d h = absurd (not-suc-le-zero h)
  get_d_tabulate (suc n) f i d h = decided (dec_lt i n) (get_d_tabulate n f i d)
    where
      decided : Dec (i < n) → (i < n → get_or (tabulate n f) i d ≡ f i) → get_or (tabulate n f ++ f n ∷ []) i d ≡ f i
      decided (yes l) ih = get_or-append (tabulate n f) (f n ∷ []) d i (subst (λ (k : ℕ). i < k) (sym (length-tabulate n f)) l) ∙ ih l
      decided (no nl) ih =
          let last : n ≡ i = omega arith in
          get_or_at (tabulate n f) (f n) [] d i (length-tabulate n f ∙ last) ∙ ap f last

  pub tabulate_cong : (n : ℕ) {f g : ℕ → A} → ((i : ℕ) → i < n → f i ≡ g i) → tabulate n f ≡ tabulate n g
  unfolding tabulate
  tabulate_cong zero h = refl
  tabulate_cong (suc n) h = ap₂ (λ (l : List A) (x : A). l ++ x ∷ []) (tabulate_cong n (λ i l. h i (omega arith))) (h n (omega arith))

  pub tabulate-append : (n k : ℕ) (f : ℕ → A) → tabulate (n + k) f ≡ tabulate n f ++ tabulate k (λ j. f (n + j))
  unfolding tabulate
  tabulate-append n zero f = ap (λ (l : ℕ). tabulate l f) (add-zero n) ∙ sym (append-nil (tabulate n f))
  tabulate-append n (suc k) f =
      ap (λ (l : ℕ). tabulate l f) (add-suc n k) ∙ ap (λ (l : List A). l ++ f (n + k) ∷ []) (tabulate-append n k f)
      ∙ append_assoc (tabulate n f) (tabulate k (λ j. f (n + j))) (f (n + k) ∷ [])

  pub tabulate-get_or : (l : List A) (d : A) → tabulate (length l) (λ i. get_or l i d) ≡ l
  tabulate-get_or l d =
      ext_get_or d (tabulate (length l) (λ i. get_or l i d)) l (length-tabulate (length l) (λ i. get_or l i d))
      (λ i h. get_d_tabulate (length l) (λ i. get_or l i d) i d (subst (λ (k : ℕ). i < k) (length-tabulate (length l) (λ i. get_or l i d)) h))
