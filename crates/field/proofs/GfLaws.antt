-- The field of each width of the table is a field.
use Rattle.std.specs.Prelude.{◌≡◌, ◌≢◌, ◌↔◌, ℕ, ◌^◌, ◌<◌}
use Rattle.std.proofs.Common.{ap, ◌∙◌, lt_of_lt_of_le, arith, pow_pos, pow_mono, lit<}
use Rattle.std.proofs.Math.Decide.{ℕ_discrete}
use Rattle.algebra.specs.Field.{Laws}
use Rattle.algebra.specs.FieldLaws.{inv_unique, inv≢nought}
use Rattle.algebra.specs.XorLaws.{⊕_comm, ⊕_assoc, ⊕_self, zero-⊕, ⊕-lt}
use Rattle.field.specs.Product.{product, inverse}
use Rattle.field.specs.Ring.{Degree, product_lt, product_comm, product_assoc, product-⊕, product-one}
use Rattle.field.specs.Inverse.{IsField, product-inverse, inverse-lt, inverse-zero}
use Rattle.field.specs.Words.{word}
use Rattle.field.proofs.Test.{word_is_field}
use Rattle.field.specs.Gf.{Width, gf}

pub gf_is_field : (m : ℕ) → Width m → IsField m (word m)
gf_is_field m W = word_is_field m W.low W.high

pub gf_laws : (m : ℕ) → Width m → Laws (gf m)
gf_laws m W =
    record {
      add_comm = ⊕_comm;
      add_assoc = ⊕_assoc;
      nought_add = zero-⊕;
      add_self = ⊕_self;
      mul_comm = product_comm m (word m) D;
      mul_assoc = product_assoc m (word m) D;
      mul_add = product-⊕ m (word m) D;
      one-mul = product-one m (word m) D;
      mul_inv = product-inverse m (word m) G;
      one≢nought = λ e. omega arith;
      nought? = λ a. ℕ_discrete a 0;
      in_nought = pow_pos m;
      in_one = lt_of_lt_of_le (lit< tt) (pow_mono D.positive);
      in_add = ⊕-lt m;
      in_mul = product_lt m (word m) D;
      in_inv = inverse-lt m (word m) G;
    }
  where
    G : IsField m (word m)
    G = gf_is_field m W

    D : Degree m (word m)
    D = G.degree

-- 01: "every nonzero element has exactly one inverse"
pub one_inverse : (m : ℕ) → Width m → (a : ℕ) → a < 2 ^ m → a ≢ 0
    → (b : ℕ) × (b < 2 ^ m) × (product m (word m) a b ≡ 1) × ((c : ℕ) → c < 2 ^ m → product m (word m) a c ≡ 1 → c ≡ b)
one_inverse m W a h ne =
    (inverse m (word m) a, (gf_laws m W).in_inv a, (gf_laws m W).mul_inv a h ne, λ c l e. inv_unique (gf m) (gf_laws m W) a c h l ne e)

-- "Let the element inverse give 0 for 0": it gives 0 for no other element
pub inverse_is-zero : (m : ℕ) → Width m → (a : ℕ) → a < 2 ^ m → (inverse m (word m) a ≡ 0) ↔ (a ≡ 0)
inverse_is-zero m W a h = (
  decided (ℕ_discrete a 0),
  λ z. ap (inverse m (word m)) z ∙ inverse-zero m (word m) (gf_is_field m W),
)
  where
    decided : Dec (a ≡ 0) → inverse m (word m) a ≡ 0 → a ≡ 0
    decided (yes z) e = z
    decided (no ne) e = absurd (inv≢nought (gf m) (gf_laws m W) a h ne e)
