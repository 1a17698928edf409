-- The block of a formula is as long as the blocks that are lent, and its entries are elements of the field.
use Rattle.std.specs.Prelude.{◌≡◌, ℕ, zero, suc, length}
use Rattle.std.proofs.Common.{sym, ◌∙◌}
use Rattle.field.specs.Gf.{gf}
use Rattle.slices.specs.Elements.{Elements}
use Rattle.dyadic.specs.Block.{block_inverse}
use Rattle.dyadic.specs.Entries.{length_sum, length_product, length_inverse}
use Rattle.dyadic.specs.BlockElements.{sum_elements, product_elements, inverse_elements}
use Rattle.formula.specs.Letters.{Lent, is_lent}
use Rattle.formula.specs.Grammar.{Sum, product, ◌plus◌, Product, term, ◌times◌, ◌over◌, Term, letter, bracket, inverse}
use Rattle.formula.specs.Reading.{SumWithin, ProductWithin, TermWithin}
use Rattle.formula.specs.Value.{sum_block, product_block, term_block}
use Rattle.formula.specs.Callers.{Ready}

module _ {m : ℕ} {β : Lent} {n : ℕ} (R : Ready m β n) where
  mutual
    unfolding SumWithin sum_block

    pub sum_sized : (x : Sum) (k : ℕ) → SumWithin (is_lent β) x k → (length (sum_block m β x) ≡ n) × Elements m (sum_block m β x)
    sum_sized (product p) k w = product_sized p k w
    sum_sized (s plus p) k w =
        let (long, in_field) = sum_sized s k w.0 in
        let (long', in-field') = product_sized p k w.1 in
        (length_sum (gf m) _ _ ∙ long, sum_elements m R.width _ _ (long' ∙ sym long) in_field in-field')

    pub product_sized : (p : Product) (k : ℕ) → ProductWithin (is_lent β) p k → (length (product_block m β p) ≡ n) × Elements m (product_block m β p)
    product_sized (term t) k w = term_sized t k w
    product_sized (p times t) k w =
        (length_product (gf m) _ _ ∙ (product_sized p k w.0).0, product_elements m R.width (product_block m β p) (term_block m β t))
    product_sized (p over t) k w = (
      length_product (gf m) _ _ ∙ (product_sized p k w.0).0,
      product_elements m R.width (product_block m β p) (block_inverse (gf m) (term_block m β t)),
    )

    pub term_sized : (t : Term) (k : ℕ) → TermWithin (is_lent β) t k → (length (term_block m β t) ≡ n) × Elements m (term_block m β t)
    term_sized (letter l) k w = (R.sized l w, R.elements l)
    term_sized (bracket s) zero w = absurd w
    term_sized (bracket s) (suc k) w = sum_sized s k w
    term_sized (inverse t) k w =
        (length_inverse (gf m) _ ∙ (term_sized t k w).0, inverse_elements m R.width (term_block m β t))
