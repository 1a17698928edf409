-- The lengths and entries of the signatures that Block defines, and how lists go in halves.
use Rattle.std.specs.Prelude.{◌≡◌, List, ◌++◌, ℕ, ◌+◌, ◌^◌, ◌<◌, length}
use Rattle.std.proofs.Common.{sym, ◌∙◌, get_or-append-add}
use Rattle.std.proofs.Math.Path.{ap, ap₂}
use Rattle.std.proofs.Math.ListN.{get_or-append}
use Rattle.algebra.specs.Field.{Ops}
use Rattle.algebra.specs.Lists.{entry}
use Rattle.algebra.specs.Tabulate.{tabulate}
use Rattle.algebra.specs.TabulateLaws.{length-tabulate, get_d_tabulate, tabulate_cong}
use Rattle.dyadic.specs.Block.{block_sum, convolution, block_product, total, quotient, block_inverse}
use Rattle.dyadic.specs.Convolution.{convolution_cong}

module _ {A : Type 0} (K : Ops A) where
  pub length_sum : (a b : List A) → length (block_sum K a b) ≡ length a
  unfolding block_sum
  length_sum a b = length-tabulate (length a) (λ i. K.add (entry K a i) (entry K b i))

  pub length_product : (a b : List A) → length (block_product K a b) ≡ length a
  unfolding block_product
  length_product a b = length-tabulate (length a) (convolution K (length a) (entry K a) (entry K b))

  pub length_inverse : (a : List A) → length (block_inverse K a) ≡ length a
  unfolding block_inverse quotient
  length_inverse a = length-tabulate (length a) (λ i. K.mul (entry K a i) (K.inv (K.mul (total K a) (total K a))))

  pub entry_sum : (a b : List A) (i : ℕ) → i < length a → entry K (block_sum K a b) i ≡ K.add (entry K a i) (entry K b i)
  unfolding block_sum
  entry_sum a b i l = get_d_tabulate (length a) (λ i. K.add (entry K a i) (entry K b i)) i K.nought l

  pub product_sized : (n : ℕ) (a b : List A) → length a ≡ n → block_product K a b ≡ tabulate n (convolution K n (entry K a) (entry K b))
  unfolding block_product
  product_sized n a b la = ap (λ (k : ℕ). tabulate k (convolution K k (entry K a) (entry K b))) la

  pub entry_product : (n : ℕ) (a b : List A) → length a ≡ n → (d : ℕ) → d < n → entry K (block_product K a b) d
      ≡ convolution K n (entry K a) (entry K b) d
  entry_product n a b la d ld =
      ap (λ (x : List A). entry K x d) (product_sized n a b la) ∙ get_d_tabulate n (convolution K n (entry K a) (entry K b)) d K.nought ld

  pub entry_inverse : (a : List A) (i : ℕ) → i < length a → entry K (block_inverse K a) i
      ≡ K.mul (entry K a i) (K.inv (K.mul (total K a) (total K a)))
  unfolding block_inverse quotient
  entry_inverse a i l = get_d_tabulate (length a) (λ i. K.mul (entry K a i) (K.inv (K.mul (total K a) (total K a)))) i K.nought l

  pub entry_front : (n : ℕ) (a b : List A) → length a ≡ n → (i : ℕ) → i < n → entry K (a ++ b) i ≡ entry K a i
  entry_front n a b la i l = get_or-append a b K.nought i (rw la l)

  pub entry_back : (n : ℕ) (a b : List A) → length a ≡ n → (i : ℕ) → entry K (a ++ b) (n + i) ≡ entry K b i
  entry_back n a b la i = ap (λ (k : ℕ). entry K (a ++ b) (k + i)) (sym la) ∙ get_or-append-add a b i K.nought

  -- a sum of tabulated signatures
  pub sum_tabulate : (n : ℕ) (f g : ℕ → A) → block_sum K (tabulate n f) (tabulate n g) ≡ tabulate n (λ i. K.add (f i) (g i))
  unfolding block_sum
  sum_tabulate n f g =
      ap (λ (k : ℕ). tabulate k (λ i. K.add (entry K (tabulate n f) i) (entry K (tabulate n g) i))) (length-tabulate n f)
      ∙ tabulate_cong n (λ i l. ap₂ K.add (get_d_tabulate n f i K.nought l) (get_d_tabulate n g i K.nought l))

  -- a sum of two products, given by functions that agree with the four factors
  pub sum_products : (e : ℕ) (a b c d : List A) → length a ≡ 2 ^ e → length b ≡ 2 ^ e → {f g h k : ℕ → A}
      → ((j : ℕ) → j < 2 ^ e → f j ≡ entry K a j) → ((j : ℕ) → j < 2 ^ e → g j ≡ entry K c j)
      → ((j : ℕ) → j < 2 ^ e → h j ≡ entry K b j) → ((j : ℕ) → j < 2 ^ e → k j ≡ entry K d j)
      → tabulate (2 ^ e) (λ i. K.add (convolution K (2 ^ e) f g i) (convolution K (2 ^ e) h k i))
      ≡ block_sum K (block_product K a c) (block_product K b d)
  sum_products e a b c d la lb ea ec eb ed =
      tabulate_cong (2 ^ e) (λ i li. ap₂ K.add (convolution_cong K e ea ec i li) (convolution_cong K e eb ed i li))
      ∙ sym (sum_tabulate (2 ^ e) (convolution K (2 ^ e) (entry K a) (entry K c)) (convolution K (2 ^ e) (entry K b) (entry K d)))
      ∙ ap₂ (block_sum K) (sym (product_sized (2 ^ e) a c la)) (sym (product_sized (2 ^ e) b d lb))
