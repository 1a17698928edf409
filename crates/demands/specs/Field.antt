-- The field's calls in plain words: the inverse of 0 is 0, and that of any other element is the one whose product with it is 1; the product is the
-- polynomial product cut back by the word, and the product by u is a shift and one cut-back.
use Rattle.std.specs.Prelude.{◌≡◌, ◌≢◌, ◌↔◌, ℕ, ◌+◌, ◌*◌, ◌/◌, ◌^◌, ◌<◌}
use Rattle.std.proofs.Common.{sym, ap, ◌∙◌, subst, lt_of_lt_of_le, lit<, pow_mono}
use Rattle.algebra.specs.FieldLaws.{inv_unique}
use Rattle.algebra.specs.Xor.{◌⊕◌}
use Rattle.field.specs.Found.{Element}
use Rattle.field.specs.Answers.{element_rules, product_answer, inverse_answer}
use Rattle.field.specs.Division.{quotient, product_divides, product_only}
use Rattle.field.specs.Gf.{Width, gf}
use Rattle.field.proofs.GfLaws.{gf_is_field, gf_laws, inverse_is-zero}
use Rattle.field.specs.Product.{poly_product, product, inverse}
use Rattle.field.proofs.ProductByU.{shift_and_cut_back}
use Rattle.field.specs.RangeLaws.{width, element}
use Rattle.field.specs.Ring.{product_lt}
use Rattle.field.specs.Words.{word}
use Rattle.demands.specs.Demand1.{field_product_refuses, field_inverse_refuses}

same_value_lem : (a b : ℕ) → Element a ≡ Element b → a ≡ b
same_value_lem a b e = cc

module _ {m : ℕ} (W : Width m) {a : ℕ} (a_in : a < 2 ^ m) where
  product_answer_lem : (b : ℕ) → b < 2 ^ m → product_answer m a b ≡ Element (product m (word m) a b)
  unfolding element_rules
  product_answer_lem b b-in = (field_product_refuses m a b).0.0 (width m W.low W.high, (element m a a_in, (element m b b-in, tt)))

  inverse_answer_lem : inverse_answer m a ≡ Element (inverse m (word m) a)
  unfolding element_rules
  inverse_answer_lem = (field_inverse_refuses m a).0.0 (width m W.low W.high, (element m a a_in, tt))

  -- "Let the element inverse give 0 for 0": it gives 0 for no other element
  pub inverse_0_exactly : (inverse_answer m a ≡ Element 0) ↔ (a ≡ 0)
  inverse_0_exactly = (
    λ e. (inverse_is-zero m W a a_in).0 (same_value_lem _ _ (sym inverse_answer_lem ∙ e)),
    λ z. inverse_answer_lem ∙ ap Element ((inverse_is-zero m W a a_in).1 z),
  )

  -- for every other element the answer is x exactly if the product's answer for a and x is 1
  pub inverse_exactly : a ≢ 0 → (x : ℕ) → x < 2 ^ m → (inverse_answer m a ≡ Element x) ↔ (product_answer m a x ≡ Element 1)
  inverse_exactly ne x x-in = (
    λ e.
        let is : inverse m (word m) a ≡ x = same_value_lem _ _ (sym inverse_answer_lem ∙ e) in
        product_answer_lem x x-in ∙ ap Element (ap (product m (word m) a) (sym is) ∙ (gf_laws m W).mul_inv a a_in ne),
    λ e.
        let one : product m (word m) a x ≡ 1 = same_value_lem _ _ (sym (product_answer_lem x x-in) ∙ e) in
        inverse_answer_lem ∙ ap Element (sym (inv_unique (gf m) (gf_laws m W) a x a_in x-in ne one)),
  )

  -- the product's answer is the only polynomial of degree below m that differs from the polynomial product by a multiple of the word
  pub product_exactly : (b x : ℕ) → b < 2 ^ m
      → (product_answer m a b ≡ Element x)
      ↔ ((x < 2 ^ m) × ((j : ℕ) × (q : ℕ) × (poly_product m a b ≡ x ⊕ poly_product j (word m) q)))
  product_exactly b x b-in = (
    λ e.
        let is : product m (word m) a b ≡ x = same_value_lem _ _ (sym (product_answer_lem b b-in) ∙ e) in (
          subst (λ (y : ℕ). y < 2 ^ m) is (product_lt m (word m) (gf_is_field m W).degree a b),
          (
            m + m,
            quotient m (word m) (m + m) (poly_product m a b),
            product_divides m (word m) (gf_is_field m W).degree a b a_in
                ∙ ap (λ (y : ℕ). y ⊕ poly_product (m + m) (word m) (quotient m (word m) (m + m) (poly_product m a b))) is,
          ),
        ),
    λ r. product_answer_lem b b-in ∙ ap Element (sym (product_only m (word m) (gf_is_field m W).degree a b x r.1.0 r.1.1 a_in r.0 r.1.2)),
  )

-- "for every width and element … shift and cut-back give the product by u": the number 2 is u, a * 2 is a shifted, and a * 2 / 2 ^ m is the bit that
-- ran over, by which the word is multiplied
pub product_by_u : {m : ℕ} → Width m → (a : ℕ) → a < 2 ^ m → product_answer m 2 a ≡ Element (a * 2 ⊕ (a * 2 / 2 ^ m) * word m)
product_by_u {m} W a a_in =
    product_answer_lem W (lt_of_lt_of_le (lit< tt) (pow_mono W.low)) a a_in ∙ ap Element (sym (shift_and_cut_back m W a a_in))
