-- The step that the code makes its products of: shift an element and cut it back, by the word times the bit that ran over. It is the product by u,
-- for every width of the table and every element.
use Rattle.std.specs.Prelude.{◌≡◌, ℕ, ◌*◌, ◌/◌, ◌^◌, ◌<◌}
use Rattle.std.proofs.Math.Path.{sym, ap}
use Rattle.std.proofs.Common.{◌∙◌, mod-eq_of_lt, div-lt_iff_lt-mul, arith, pow_pos}
use Rattle.algebra.specs.Xor.{◌⊕◌}
use Rattle.field.specs.Gf.{Width}
use Rattle.field.proofs.GfLaws.{gf_is_field}
use Rattle.field.specs.Horner.{times_u}
use Rattle.field.specs.Product.{cut_back, product}
use Rattle.field.specs.Ring.{product_u}
use Rattle.field.specs.Words.{word}

module _ (m : ℕ) (W : Width m) (a : ℕ) (a_in : a < 2 ^ m) where
  -- what runs over is one bit, so that nothing has to be chosen: the word is multiplied by it
  pub over_is_bit : a * 2 / 2 ^ m < 2
  over_is_bit = (div-lt_iff_lt-mul (pow_pos m)).1 (omega arith)

  -- a * 2 is the element shifted, and the number 2 is the element u
  pub shift_and_cut_back : a * 2 ⊕ (a * 2 / 2 ^ m) * word m ≡ product m (word m) 2 a
  unfolding times_u cut_back
  shift_and_cut_back =
      ap (λ (over : ℕ). a * 2 ⊕ over * word m) (sym (mod-eq_of_lt over_is_bit))
      ∙ sym (product_u m (word m) (gf_is_field m W).degree a W.low a_in)
