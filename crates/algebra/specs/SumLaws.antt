-- Laws of finite sums.
--
-- Everything that sums, the products of dyadic blocks, the syndromes, the checks of a word, goes by these laws and by no recursion of its own.
-- Assumes nothing.
use Rattle.std.specs.Prelude.{◌≡◌, ◌≢◌}
use Rattle.std.proofs.Math.Path.{refl, sym, ap, ap₂}
use Rattle.std.proofs.Common.{◌∙◌, not-suc-le-zero, add-zero, add-suc, arith}
use Prim.Native.Nat.{ℕ, zero, suc, ◌+◌ as ◌+ℕ◌, ◌-◌, ◌^◌, ◌<◌}
use Rattle.std.proofs.Math.Nat.{two-pow-succ}
use Rattle.std.proofs.Math.Decide.{ℕ_discrete, dec_lt}
use Rattle.std.proofs.Math.Arith.{lt-one}
use Rattle.algebra.specs.Field.{Ops, Laws}
use Rattle.algebra.specs.FieldLaws.{ring, add-nought, mul-nought}
use Rattle.algebra.specs.Xor.{◌⊕◌}
use Rattle.algebra.specs.XorLaws.{⊕-zero, left_top, right_top, both_top}
use Rattle.algebra.specs.Sum.{sum}

pub sum_cong : {A : Type 0} (K : Ops A) {f g : ℕ → A} (n : ℕ) → ((j : ℕ) → j < n → f j ≡ g j) → sum K n f ≡ sum K n g
unfolding sum
sum_cong K zero h = refl
sum_cong K (suc n) h = ap₂ K.add (sum_cong K n (λ j l. h j (omega arith))) (h n (omega arith))

module _ {A : Type 0} (K : Ops A) (F : Laws K) where
  infixl 65 ◌+◌
  infixl 70 ◌·◌
  open K use {In, nought, add as ◌+◌, mul as ◌·◌}

  pub sum-nought : {f : ℕ → A} (n : ℕ) → ((j : ℕ) → j < n → f j ≡ nought) → sum K n f ≡ nought
  unfolding sum
  sum-nought zero h = refl
  sum-nought (suc n) h = ap₂ K.add (sum-nought n (λ j l. h j (omega arith))) (h n (omega arith)) ∙ F.nought_add nought

  pub sum-add : (n : ℕ) (f g : ℕ → A) → sum K n (λ j. f j + g j) ≡ sum K n f + sum K n g
  unfolding sum
  sum-add zero f g = sym (F.nought_add nought)
  sum-add (suc n) f g = ap (λ (x : A). x + (f n + g n)) (sum-add n f g) ∙ sorted (sum K n f) (sum K n g) (f n) (g n)
    where
      sorted : (a b c d : A) → a + b + (c + d) ≡ a + c + (b + d)
      sorted a b c d = simp ring

  pub sum-mul : (n : ℕ) (c : A) (f : ℕ → A) → c · sum K n f ≡ sum K n (λ j. c · f j)
  unfolding sum
  sum-mul zero c f = mul-nought K F c
  sum-mul (suc n) c f = F.mul_add c (sum K n f) (f n) ∙ ap (λ (x : A). x + c · f n) (sum-mul n c f)

  pub sum_swap : (n k : ℕ) (f : ℕ → ℕ → A) → sum K n (λ i. sum K k (λ j. f i j)) ≡ sum K k (λ j. sum K n (λ i. f i j))
  unfolding sum
  sum_swap zero k f = sym (sum-nought k (λ j l. refl))
  sum_swap (suc n) k f =
      ap (λ (x : A). x + sum K k (λ j. f n j)) (sum_swap n k f) ∙ sym (sum-add k (λ j. sum K n (λ i. f i j)) (λ j. f n j))

  pub sum_split : (n k : ℕ) (f : ℕ → A) → sum K (n +ℕ k) f ≡ sum K n f + sum K k (λ j. f (n +ℕ j))
  unfolding sum
  sum_split n zero f = ap (λ (m : ℕ). sum K m f) (add-zero n) ∙ sym (add-nought K F (sum K n f))
  sum_split n (suc k) f =
      ap (λ (m : ℕ). sum K m f) (add-suc n k) ∙ ap (λ (x : A). x + f (n +ℕ k)) (sum_split n k f)
      ∙ F.add_assoc (sum K n f) (sum K k (λ j. f (n +ℕ j))) (f (n +ℕ k))

  pub sum_single : (n k : ℕ) (f : ℕ → A) → k < n → ((j : ℕ) → j < n → j ≢ k → f j ≡ nought) → sum K n f ≡ f k
  unfolding sum
  sum_single zero k f l h = absurd (not-suc-le-zero l)
  sum_single (suc n) k f l h = decided (ℕ_discrete n k) (λ l'. sum_single n k f l' (λ j m. h j (omega arith)))
    where
      decided : Dec (n ≡ k) → (k < n → sum K n f ≡ f k) → sum K n f + f n ≡ f k
      decided (yes e) ih =
          ap (λ (x : A). x + f n) (sum-nought n (λ j m. h j (omega arith) (omega arith))) ∙ F.nought_add (f n) ∙ ap f e
      decided (no ne) ih = ap₂ (λ (x y : A). x + y) (ih (omega arith)) (h n (omega arith) ne) ∙ add-nought K F (f k)

  pub in_sum : (n : ℕ) (f : ℕ → A) → ((j : ℕ) → j < n → In (f j)) → In (sum K n f)
  unfolding sum
  in_sum zero f h = F.in_nought
  in_sum (suc n) f h = F.in_add (sum K n f) (f n) (in_sum n f (λ j l. h j (omega arith))) (h n (omega arith))

  -- By halves: where d has the top bit the halves of the range change places, and inside a half the other bits of d do the same.
  reindex_step : (e : ℕ) → ((d : ℕ) → d < 2 ^ e → (f : ℕ → A) → sum K (2 ^ e) (λ j. f (j ⊕ d)) ≡ sum K (2 ^ e) f)
      → (d : ℕ) (f : ℕ → A) → d < 2 ^ e +ℕ 2 ^ e → sum K (2 ^ e +ℕ 2 ^ e) (λ j. f (j ⊕ d)) ≡ sum K (2 ^ e +ℕ 2 ^ e) f
  reindex_step e ih d f l = sum_split (2 ^ e) (2 ^ e) (λ j. f (j ⊕ d)) ∙ halves (dec_lt d (2 ^ e)) ∙ sym (sum_split (2 ^ e) (2 ^ e) f)
    where
      upper : ℕ → A
      upper j = f (2 ^ e +ℕ j)

      swapped : (r : ℕ) → r < 2 ^ e → 2 ^ e +ℕ r ≡ d
          → sum K (2 ^ e) (λ j. f (j ⊕ d)) + sum K (2 ^ e) (λ j. f ((2 ^ e +ℕ j) ⊕ d)) ≡ sum K (2 ^ e) f + sum K (2 ^ e) upper
      swapped r lr er =
          ap₂ (λ (x y : A). x + y)
          (sum_cong K (2 ^ e) (λ j lj. ap f (ap (λ (x : ℕ). j ⊕ x) (sym er) ∙ right_top e j r lj lr)) ∙ ih r lr upper)
          (sum_cong K (2 ^ e) (λ j lj. ap f (ap (λ (x : ℕ). (2 ^ e +ℕ j) ⊕ x) (sym er) ∙ both_top e j r lj lr)) ∙ ih r lr f)
          ∙ F.add_comm (sum K (2 ^ e) upper) (sum K (2 ^ e) f)

      halves : Dec (d < 2 ^ e)
          → sum K (2 ^ e) (λ j. f (j ⊕ d)) + sum K (2 ^ e) (λ j. f ((2 ^ e +ℕ j) ⊕ d)) ≡ sum K (2 ^ e) f + sum K (2 ^ e) upper
      halves (yes m) =
          ap₂ (λ (x y : A). x + y) (ih d m f) (sum_cong K (2 ^ e) (λ j lj. ap f (left_top e j d lj m)) ∙ ih d m upper)
      halves (no m) = swapped (d - 2 ^ e) (omega arith) (omega arith)

  pub sum_reindex : (e d : ℕ) → d < 2 ^ e → (f : ℕ → A) → sum K (2 ^ e) (λ j. f (j ⊕ d)) ≡ sum K (2 ^ e) f
  sum_reindex zero d l f = sum_cong K 1 (λ j m. ap f (ap (λ (x : ℕ). j ⊕ x) (lt-one l) ∙ ⊕-zero j))
  sum_reindex (suc e) d l f = rw two-pow-succ (reindex_step e (sum_reindex e) d f (rw two-pow-succ at l))
