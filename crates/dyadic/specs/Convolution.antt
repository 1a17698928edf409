-- Convolutions of functions of an index below 2^e: by halves, both ways round, of two sums, and of a function with itself.
--
-- By halves: the indices below 2^(e+1) are those below 2^e and those with the bit 2^e, and ⊕ adds that bit apart from the others.
use Rattle.std.specs.Prelude.{◌≡◌, ◌≢◌}
use Rattle.std.proofs.Math.Path.{sym, ap}
use Rattle.std.proofs.Common.{ap₂, ◌∙◌, arith}
use Prim.Native.Nat.{ℕ, zero, suc, ◌+◌ as ◌+ℕ◌, ◌-◌, ◌^◌, ◌<◌}
use Rattle.std.proofs.Math.Nat.{two-pow-succ}
use Rattle.std.proofs.Math.Decide.{dec_lt}
use Rattle.std.proofs.Math.Arith.{lt-one}
use Rattle.algebra.specs.Field.{Ops, Laws}
use Rattle.algebra.specs.FieldLaws.{ring, nought-mul}
use Rattle.algebra.specs.Sum.{sum}
use Rattle.algebra.specs.SumLaws.{sum_cong, sum-add, sum_split, sum_reindex}
use Rattle.algebra.specs.XorLaws.{left_top, right_top, both_top, xor, ⊕-zero, ⊕-lt}
use Rattle.algebra.specs.Xor.{◌⊕◌}
use Rattle.dyadic.specs.Block.{convolution}

-- f on the upper half
abbrev pub upper : {A : Type 0} → ℕ → (ℕ → A) → ℕ → A
upper e f j = f (2 ^ e +ℕ j)

pub convolution_cong : {A : Type 0} (K : Ops A) (e : ℕ) {f f' g g' : ℕ → A} → ((j : ℕ) → j < 2 ^ e → f j ≡ f' j)
    → ((j : ℕ) → j < 2 ^ e → g j ≡ g' j) → (d : ℕ) → d < 2 ^ e → convolution K (2 ^ e) f g d ≡ convolution K (2 ^ e) f' g' d
convolution_cong K e ef eg d ld = sum_cong K (2 ^ e) (λ j lj. ap₂ K.mul (ef j lj) (eg (j ⊕ d) (⊕-lt e j d lj ld)))

module _ {A : Type 0} (K : Ops A) (F : Laws K) where
  infixl 65 ◌+◌
  infixl 70 ◌·◌
  open K use {nought, add as ◌+◌, mul as ◌·◌}

  pub convolution_lower : (e : ℕ) (f g : ℕ → A) (d : ℕ) → d < 2 ^ e
      → convolution K (2 ^ e +ℕ 2 ^ e) f g d ≡ convolution K (2 ^ e) f g d + convolution K (2 ^ e) (upper e f) (upper e g) d
  convolution_lower e f g d ld =
      sum_split K F (2 ^ e) (2 ^ e) (λ j. f j · g (j ⊕ d))
      ∙ ap (λ (x : A). convolution K (2 ^ e) f g d + x)
      (sum_cong K (2 ^ e) (λ j lj. ap (λ (i : ℕ). f (2 ^ e +ℕ j) · g i) (left_top e j d lj ld)))

  pub convolution-upper : (e : ℕ) (f g : ℕ → A) (d : ℕ) → d < 2 ^ e
      → convolution K (2 ^ e +ℕ 2 ^ e) f g (2 ^ e +ℕ d) ≡ convolution K (2 ^ e) f (upper e g) d + convolution K (2 ^ e) (upper e f) g d
  convolution-upper e f g d ld =
      sum_split K F (2 ^ e) (2 ^ e) (λ j. f j · g (j ⊕ (2 ^ e +ℕ d)))
      ∙ ap₂ (λ (x y : A). x + y)
      (sum_cong K (2 ^ e) (λ j lj. ap (λ (i : ℕ). f j · g i) (right_top e j d lj ld)))
      (sum_cong K (2 ^ e) (λ j lj. ap (λ (i : ℕ). f (2 ^ e +ℕ j) · g i) (both_top e j d lj ld)))

  pub convolution_comm : (e : ℕ) (f g : ℕ → A) (d : ℕ) → d < 2 ^ e → convolution K (2 ^ e) f g d ≡ convolution K (2 ^ e) g f d
  convolution_comm e f g d ld =
      sym (sum_reindex K F e d ld (λ j. f j · g (j ⊕ d)))
      ∙ sum_cong K (2 ^ e) (λ j lj. ap (λ (i : ℕ). f (j ⊕ d) · g i) (back j) ∙ F.mul_comm (f (j ⊕ d)) (g j))
    where
      back : (j : ℕ) → j ⊕ d ⊕ d ≡ j
      back j = simp xor

  -- ---- of two sums: beside fh and gk the mixed products are left, (f + g)(h + k) + fh + gk = fk + gh

  pub convolution_mixed : (n : ℕ) (f g h k : ℕ → A) (d : ℕ)
      → convolution K n f h d + convolution K n g k d + convolution K n (λ j. f j + g j) (λ j. h j + k j) d
      ≡ convolution K n f k d + convolution K n g h d
  convolution_mixed n f g h k d =
      ap (λ (x : A). x + convolution K n (λ j. f j + g j) (λ j. h j + k j) d) (sym (sum-add K F n (λ j. f j · h (j ⊕ d)) (λ j. g j · k (j ⊕ d))))
      ∙ sym (sum-add K F n (λ j. f j · h (j ⊕ d) + g j · k (j ⊕ d)) (λ j. (f j + g j) · (h (j ⊕ d) + k (j ⊕ d))))
      ∙ sum_cong K n (λ j lj. mixed (f j) (g j) (h (j ⊕ d)) (k (j ⊕ d)))
      ∙ sum-add K F n (λ j. f j · k (j ⊕ d)) (λ j. g j · h (j ⊕ d))
    where
      mixed : (w x y z : A) → w · y + x · z + (w + x) · (y + z) ≡ w · z + x · y
      mixed w x y z = simp ring

  -- ---- the square of f: the square of its sum at 0, and nought elsewhere

  sum_square : (n : ℕ) (f : ℕ → A) → sum K n (λ j. f j · f j) ≡ sum K n f · sum K n f
  unfolding sum
  sum_square zero f = sym (nought-mul K F nought)
  sum_square (suc n) f = ap (λ (x : A). x + f n · f n) (sum_square n f) ∙ expanded (sum K n f) (f n)
    where
      expanded : (a b : A) → a · a + b · b ≡ (a + b) · (a + b)
      expanded a b = simp ring

  pub square_start : (n : ℕ) (f : ℕ → A) → convolution K n f f 0 ≡ sum K n f · sum K n f
  square_start n f = sum_cong K n (λ j l. ap (λ (i : ℕ). f j · f i) (⊕-zero j)) ∙ sum_square n f

  -- in the upper half the two mixed products are equal, and cancel
  square_step : (e : ℕ) → ((f : ℕ → A) (d : ℕ) → d < 2 ^ e → d ≢ 0 → convolution K (2 ^ e) f f d ≡ nought)
      → (f : ℕ → A) (d : ℕ) → d < 2 ^ e +ℕ 2 ^ e → d ≢ 0 → convolution K (2 ^ e +ℕ 2 ^ e) f f d ≡ nought
  square_step e ih f d l ne = decided (dec_lt d (2 ^ e))
    where
      mixed : (r : ℕ) → r < 2 ^ e → 2 ^ e +ℕ r ≡ d → convolution K (2 ^ e +ℕ 2 ^ e) f f d ≡ nought
      mixed r lr er =
          ap (convolution K (2 ^ e +ℕ 2 ^ e) f f) (sym er) ∙ convolution-upper e f f r lr
          ∙ ap (λ (x : A). x + convolution K (2 ^ e) (upper e f) f r) (convolution_comm e f (upper e f) r lr)
          ∙ F.add_self (convolution K (2 ^ e) (upper e f) f r)

      decided : Dec (d < 2 ^ e) → convolution K (2 ^ e +ℕ 2 ^ e) f f d ≡ nought
      decided (yes ld) =
          convolution_lower e f f d ld ∙ ap₂ (λ (x y : A). x + y) (ih f d ld ne) (ih (upper e f) d ld ne) ∙ F.nought_add nought
      decided (no nl) = mixed (d - 2 ^ e) (omega arith) (omega arith)

  pub square_elsewhere : (e : ℕ) (f : ℕ → A) (d : ℕ) → d < 2 ^ e → d ≢ 0 → convolution K (2 ^ e) f f d ≡ nought
  square_elsewhere zero f d l ne = absurd (ne (lt-one l))
  square_elsewhere (suc e) f d l ne = rw two-pow-succ (square_step e (square_elsewhere e) f d (rw two-pow-succ at l) ne)
