-- Dyadic blocks, over the operations K of any field. A block is given by its signature, a list of s elements, s a power of two. The sum and the
-- product of two blocks and the inverse of one are signatures again; Laws says what they are to the full matrices.
use Rattle.std.specs.Prelude.{List, ℕ, length}
use Rattle.algebra.specs.Field.{Ops}
use Rattle.algebra.specs.Lists.{entry}
use Rattle.algebra.specs.Sum.{sum}
use Rattle.algebra.specs.Tabulate.{tabulate}
use Rattle.algebra.specs.Xor.{◌⊕◌}

module _ {A : Type 0} (K : Ops A) where
  -- 01: "Its matrix has entry i, j equal to the signature at i ⊕ j"
  unfoldable pub matrix : List A → ℕ → ℕ → A
  matrix a i j = entry K a (i ⊕ j)

  unfoldable pub block_sum : List A → List A → List A
  block_sum a b = tabulate (length a) (λ i. K.add (entry K a i) (entry K b i))

  -- the sum of f j · g (j ⊕ d) over the j below s
  abbrev pub convolution : ℕ → (ℕ → A) → (ℕ → A) → ℕ → A
  convolution s f g d = sum K s (λ j. K.mul (f j) (g (j ⊕ d)))

  -- entry d is the sum of a_j · b_(j ⊕ d) over all j
  unfoldable pub block_product : List A → List A → List A
  block_product a b = tabulate (length a) (convolution (length a) (entry K a) (entry K b))

  -- the sum of all elements
  unfoldable pub total : List A → A
  total a = sum K (length a) (entry K a)

  -- every entry divided by c
  unfoldable pub quotient : List A → A → List A
  quotient a c = tabulate (length a) (λ i. K.mul (entry K a i) (K.inv c))

  -- 01: "the signature divided by the square of that sum"
  unfoldable pub block_inverse : List A → List A
  block_inverse a = quotient a (K.mul (total a) (total a))
