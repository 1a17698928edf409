-- What the signatures of Block are to the full matrices, for blocks of s = 2^e elements, for every e, over any field of characteristic two.
use Rattle.std.specs.Prelude.{◌≡◌, ◌≢◌, ◌↔◌, List, ◌++◌, ℕ, ◌+◌ as ◌+ℕ◌, ◌^◌, ◌<◌, length}
use Rattle.std.proofs.Math.Path.{sym, ap, ap₂}
use Rattle.std.proofs.Common.{◌∙◌, length-append, pow_pos}
use Rattle.algebra.specs.Field.{Ops, Laws}
use Rattle.algebra.specs.Lists.{entry}
use Rattle.algebra.specs.SumLaws.{sum_cong, sum_reindex}
use Rattle.algebra.specs.XorLaws.{left_top, right_top, both_top, xor, ⊕_comm, ⊕-lt}
use Rattle.algebra.specs.TabulateLaws.{tabulate_cong, tabulate-append}
use Rattle.algebra.specs.Xor.{◌⊕◌}
use Rattle.dyadic.specs.Block.{matrix, block_sum, convolution, block_product, total, block_inverse}
use Rattle.dyadic.specs.Matrix.{Matrix, Same, matrix_sum, matrix_product, identity}
use Rattle.dyadic.specs.Convolution.{upper, convolution_cong, convolution_lower, convolution-upper, convolution_comm, convolution_mixed}
use Rattle.dyadic.specs.Entries.{length_sum, length_inverse, entry_sum, product_sized, entry_product}
use Rattle.dyadic.specs.Entries.{entry_front, entry_back, sum_tabulate, sum_products}
use Rattle.dyadic.proofs.Inverse.{identity_dyadic, identity_symmetric, identity_row, inverse_convolution, combined_rows}

module _ {A : Type 0} (K : Ops A) (F : Laws K) (e : ℕ) where
  infixl 70 ◌·◌
  open K use {In, nought, mul as ◌·◌}

  abbrev s : ℕ
  s = 2 ^ e

  -- ---- 01: "The sum and product are the signatures of the matrix sum and product."

  pub matrix_sum_lem : (a b : List A) → length a ≡ s → Same s (matrix K (block_sum K a b)) (matrix_sum K (matrix K a) (matrix K b))
  unfolding matrix matrix_sum
  matrix_sum_lem a b la i k li lk = entry_sum K a b (i ⊕ k) (rw la (⊕-lt e i k li lk))

  pub matrix_product_lem : (a b : List A) → length a ≡ s → Same s (matrix K (block_product K a b)) (matrix_product K s (matrix K a) (matrix K b))
  unfolding matrix matrix_product
  matrix_product_lem a b la i k li lk =
      entry_product K s a b la (i ⊕ k) (⊕-lt e i k li lk) ∙ sym (sum_reindex K F e i li (λ j. entry K a j · entry K b (j ⊕ (i ⊕ k))))
      ∙ sum_cong K s (λ j lj. ap₂ (λ (x y : ℕ). entry K a x · entry K b y) (⊕_comm j i) (moved j))
    where
      moved : (j : ℕ) → j ⊕ i ⊕ (i ⊕ k) ≡ j ⊕ k
      moved j = simp xor

  pub product_comm : (a b : List A) → length a ≡ s → length b ≡ s → block_product K a b ≡ block_product K b a
  product_comm a b la lb =
      product_sized K s a b la ∙ tabulate_cong s (λ d ld. convolution_comm K F e (entry K a) (entry K b) d ld) ∙ sym (product_sized K s b a lb)

  -- ---- 01: "a block of length 2s is two blocks of length s, laid out A B over B A; products are worked that way"

  pub matrix_halves : (a b : List A) → length a ≡ s → (i k : ℕ) → i < s → k < s
      → (matrix K (a ++ b) i k ≡ matrix K a i k) × (matrix K (a ++ b) i (s +ℕ k) ≡ matrix K b i k)
      × (matrix K (a ++ b) (s +ℕ i) k ≡ matrix K b i k) × (matrix K (a ++ b) (s +ℕ i) (s +ℕ k) ≡ matrix K a i k)
  unfolding matrix
  matrix_halves a b la i k li lk = (
    front,
    ap (entry K (a ++ b)) (right_top e i k li lk) ∙ back,
    ap (entry K (a ++ b)) (left_top e i k li lk) ∙ back,
    ap (entry K (a ++ b)) (both_top e i k li lk) ∙ front,
  )
    where
      front : entry K (a ++ b) (i ⊕ k) ≡ entry K a (i ⊕ k)
      front = entry_front K s a b la (i ⊕ k) (⊕-lt e i k li lk)

      back : entry K (a ++ b) (s +ℕ (i ⊕ k)) ≡ entry K b (i ⊕ k)
      back = entry_back K s a b la (i ⊕ k)

  pub product_halves : (a b c d : List A) → length a ≡ s → length b ≡ s → length c ≡ s → length d ≡ s
      → block_product K (a ++ b) (c ++ d)
      ≡ block_sum K (block_product K a c) (block_product K b d) ++ block_sum K (block_product K a d) (block_product K b c)
  product_halves a b c d la lb lc ld =
      product_sized K (s +ℕ s) (a ++ b) (c ++ d) (length-append a b ∙ ap₂ (λ (x y : ℕ). x +ℕ y) la lb)
      ∙ tabulate-append s s (convolution K (s +ℕ s) f g)
      ∙ ap₂ (λ (x y : List A). x ++ y)
      (tabulate_cong s (λ i li. convolution_lower K F e f g i li) ∙ sum_products K e a b c d la lb front_a front_c back_b back_d)
      (tabulate_cong s (λ i li. convolution-upper K F e f g i li) ∙ sum_products K e a b d c la lb front_a back_d back_b front_c)
    where
      f : ℕ → A
      f = entry K (a ++ b)

      g : ℕ → A
      g = entry K (c ++ d)

      front_a : (j : ℕ) → j < s → f j ≡ entry K a j
      front_a = entry_front K s a b la

      back_b : (j : ℕ) → j < s → upper e f j ≡ entry K b j
      back_b j lj = entry_back K s a b la j

      front_c : (j : ℕ) → j < s → g j ≡ entry K c j
      front_c = entry_front K s c d lc

      back_d : (j : ℕ) → j < s → upper e g j ≡ entry K d j
      back_d j lj = entry_back K s c d lc j

  -- ---- 01: "With halves A, B and C, D, compute AC, BD and (A + B)(C + D), and take the second half of the result as the third plus the first two."

  mixed_products : (a b c d : List A) → length a ≡ s → length b ≡ s → length c ≡ s → length d ≡ s
      → block_sum K (block_product K a d) (block_product K b c)
      ≡ block_sum K (block_sum K (block_product K a c) (block_product K b d)) (block_product K (block_sum K a b) (block_sum K c d))
  mixed_products a b c d la lb lc ld =
      ap₂ (block_sum K) (product_sized K s a d la) (product_sized K s b c lb)
      ∙ sum_tabulate K s (times a d) (times b c)
      ∙ tabulate_cong s (λ i li. sym (convolution_mixed K F s (entry K a) (entry K b) (entry K c) (entry K d) i)
      ∙ ap (λ (x : A). K.add (K.add (times a c i) (times b d i)) x) (sym (of_sums i li)))
      ∙ sym (sum_tabulate K s (λ i. K.add (times a c i) (times b d i)) (times (block_sum K a b) (block_sum K c d)))
      ∙ ap₂ (block_sum K)
      (sym (sum_tabulate K s (times a c) (times b d)) ∙ ap₂ (block_sum K) (sym (product_sized K s a c la)) (sym (product_sized K s b d lb)))
      (sym (product_sized K s (block_sum K a b) (block_sum K c d) (length_sum K a b ∙ la)))
    where
      times : List A → List A → ℕ → A
      times x y = convolution K s (entry K x) (entry K y)

      of_sums : (i : ℕ) → i < s → times (block_sum K a b) (block_sum K c d) i
          ≡ convolution K s (λ j. K.add (entry K a j) (entry K b j)) (λ j. K.add (entry K c j) (entry K d j)) i
      of_sums = convolution_cong K e (λ j lj. entry_sum K a b j (rw la lj)) (λ j lj. entry_sum K c d j (rw lc lj))

  pub product_three_halves : (a b c d : List A) → length a ≡ s → length b ≡ s → length c ≡ s → length d ≡ s
      → block_product K (a ++ b) (c ++ d)
      ≡ block_sum K (block_product K a c) (block_product K b d)
      ++ block_sum K (block_sum K (block_product K a c) (block_product K b d)) (block_product K (block_sum K a b) (block_sum K c d))
  product_three_halves a b c d la lb lc ld =
      product_halves a b c d la lb lc ld
      ∙ ap (λ (x : List A). block_sum K (block_product K a c) (block_product K b d) ++ x) (mixed_products a b c d la lb lc ld)

  -- ---- 01: "The inverse exists exactly if the sum of all s elements is nonzero; it is then the signature divided by the square of that sum."

  pub left_inverse : (a : List A) → length a ≡ s → ((i : ℕ) → i < s → In (entry K a i)) → total K a ≢ nought
      → Same s (matrix_product K s (matrix K (block_inverse K a)) (matrix K a)) (identity K)
  unfolding matrix
  left_inverse a la ins ne i k li lk =
      sym (matrix_product_lem (block_inverse K a) a (length_inverse K a ∙ la) i k li lk)
      ∙ entry_product K s (block_inverse K a) a (length_inverse K a ∙ la) (i ⊕ k) (⊕-lt e i k li lk)
      ∙ inverse_convolution K F e a la ins ne (i ⊕ k) (⊕-lt e i k li lk) ∙ sym (identity_dyadic K i k)

  pub right_inverse : (a : List A) → length a ≡ s → ((i : ℕ) → i < s → In (entry K a i)) → total K a ≢ nought
      → Same s (matrix_product K s (matrix K a) (matrix K (block_inverse K a))) (identity K)
  right_inverse a la ins ne i k li lk =
      sym (matrix_product_lem a (block_inverse K a) la i k li lk)
      ∙ ap (λ (x : List A). matrix K x i k) (product_comm a (block_inverse K a) la (length_inverse K a ∙ la))
      ∙ matrix_product_lem (block_inverse K a) a (length_inverse K a ∙ la) i k li lk ∙ left_inverse a la ins ne i k li lk

  -- any matrix X, dyadic or not
  pub no_left_inverse : (a : List A) → length a ≡ s → total K a ≡ nought
      → (X : Matrix A) → ¬ Same s (matrix_product K s X (matrix K a)) (identity K)
  unfolding matrix_product
  no_left_inverse a la z X same =
      F.one≢nought
      (sym (identity_row K F s 0 (pow_pos e)) ∙ sum_cong K s (λ k lk. sym (same 0 k (pow_pos e) lk)) ∙ combined_rows K F e a la z (X 0))

  -- dyadic matrices are their own transposes, so an inverse on the right would be, transposed, one on the left
  pub no_right_inverse : (a : List A) → length a ≡ s → total K a ≡ nought
      → (X : Matrix A) → ¬ Same s (matrix_product K s (matrix K a) X) (identity K)
  unfolding matrix_product matrix
  no_right_inverse a la z X same =
      no_left_inverse a la z (λ i j. X j i)
      (λ i k li lk. sum_cong K s (λ j lj. F.mul_comm (X j i) (matrix K a j k) ∙ ap (λ (n : ℕ). entry K a n · X j i) (⊕_comm j k))
      ∙ same k i lk li ∙ identity_symmetric K k i)

  pub invertible : (a : List A) → length a ≡ s → ((i : ℕ) → i < s → In (entry K a i))
      → (total K a ≢ nought)
      ↔ ((X : Matrix A) × Same s (matrix_product K s X (matrix K a)) (identity K) × Same s (matrix_product K s (matrix K a) X) (identity K))
  invertible a la ins =
      (λ ne. (matrix K (block_inverse K a), left_inverse a la ins ne, right_inverse a la ins ne), λ x z. no_left_inverse a la z x.0 x.1)
