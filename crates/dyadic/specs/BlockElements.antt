-- Sums, products and inverses of blocks have elements of the field for their entries.
use Rattle.std.specs.Prelude.{◌≡◌, List, ℕ, ◌<◌, ◌^◌, length}
use Rattle.std.proofs.Common.{sym, subst}
use Rattle.algebra.specs.Lists.{entry}
use Rattle.algebra.specs.SumLaws.{in_sum}
use Rattle.algebra.specs.Tabulate.{tabulate}
use Rattle.algebra.specs.TabulateLaws.{length-tabulate, get_d_tabulate}
use Rattle.algebra.specs.Xor.{◌⊕◌}
use Rattle.field.specs.Gf.{Width, gf}
use Rattle.field.proofs.GfLaws.{gf_laws}
use Rattle.slices.specs.Elements.{Elements}
use Rattle.dyadic.specs.Block.{block_sum, block_product, quotient, block_inverse}

module _ (m : ℕ) (W : Width m) where
  tabulated : (n : ℕ) (f : ℕ → ℕ) → ((i : ℕ) → i < n → f i < 2 ^ m) → Elements m (tabulate n f)
  tabulated n f h i l =
      let l' : i < n = subst (λ (k : ℕ). i < k) (length-tabulate n f) l in
      subst (λ (x : ℕ). x < 2 ^ m) (sym (get_d_tabulate n f i 0 l')) (h i l')

  pub sum_elements : (a b : List ℕ) → length b ≡ length a → Elements m a → Elements m b → Elements m (block_sum (gf m) a b)
  unfolding block_sum
  sum_elements a b e ha hb =
      tabulated (length a) (λ i. (gf m).add (entry (gf m) a i) (entry (gf m) b i))
      (λ i l. (gf_laws m W).in_add (entry (gf m) a i) (entry (gf m) b i) (ha i l) (hb i (subst (λ (k : ℕ). i < k) (sym e) l)))

  pub product_elements : (a b : List ℕ) → Elements m (block_product (gf m) a b)
  unfolding block_product
  product_elements a b =
      tabulated (length a) _
      (λ d l. in_sum (gf m) (gf_laws m W) (length a) (λ j. (gf m).mul (entry (gf m) a j) (entry (gf m) b (j ⊕ d)))
      (λ j lj. (gf_laws m W).in_mul (entry (gf m) a j) (entry (gf m) b (j ⊕ d))))

  pub inverse_elements : (a : List ℕ) → Elements m (block_inverse (gf m) a)
  unfolding block_inverse quotient
  inverse_elements a = tabulated (length a) _ (λ i l. (gf_laws m W).in_mul (entry (gf m) a i) _)
