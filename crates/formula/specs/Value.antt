-- The block that a formula stands for, over the field of width m and the blocks that are lent, and whether every inverse that it asks for exists.
-- Where one does not, the block means nothing, and the call answers 9.
use Rattle.std.specs.Prelude.{Bool, true, ◌&&◌, List, ℕ}
use Rattle.field.specs.Gf.{gf}
use Rattle.dyadic.specs.Block.{block_sum, block_product, block_inverse}
use Rattle.dyadic.specs.Invertible.{is_invertible}
use Rattle.formula.specs.Letters.{Lent, block_of}
use Rattle.formula.specs.Grammar.{Sum, product, ◌plus◌, Product, term, ◌times◌, ◌over◌, Term, letter, bracket, inverse}

module _ (m : ℕ) (β : Lent) where
  unfoldable mutual
    pub sum_block : Sum → List ℕ
    sum_block (product p) = product_block p
    sum_block (s plus p) = block_sum (gf m) (sum_block s) (product_block p)

    -- 01: "X/Y is X times the inverse of Y"
    pub product_block : Product → List ℕ
    product_block (term t) = term_block t
    product_block (p times t) = block_product (gf m) (product_block p) (term_block t)
    product_block (p over t) = block_product (gf m) (product_block p) (block_inverse (gf m) (term_block t))

    pub term_block : Term → List ℕ
    term_block (letter l) = block_of β l
    term_block (bracket s) = sum_block s
    term_block (inverse t) = block_inverse (gf m) (term_block t)

  -- every inverse exists
  unfoldable mutual
    pub sum_exists : Sum → Bool
    sum_exists (product p) = product_exists p
    sum_exists (s plus p) = sum_exists s && product_exists p

    pub product_exists : Product → Bool
    product_exists (term t) = term_exists t
    product_exists (p times t) = product_exists p && term_exists t
    product_exists (p over t) = product_exists p && (term_exists t && is_invertible m (term_block t))

    pub term_exists : Term → Bool
    term_exists (letter l) = true
    term_exists (bracket s) = sum_exists s
    term_exists (inverse t) = term_exists t && is_invertible m (term_block t)
