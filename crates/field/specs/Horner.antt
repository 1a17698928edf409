-- The product by Horner's rule, b₀·a + u·(b₁·a + u·(…)), and the laws of a commutative ring for it, for every width and every word.
--
-- With `times_u` for "times u, cut back", `horner k b` is the polynomial b in the one operator `times_u`. Such operators are linear and commute with
-- each other, and that is all that the ring's laws need.
use Rattle.std.specs.Prelude.{◌≡◌}
use Rattle.std.proofs.Math.Path.{sym, ap, ap₂}
use Rattle.std.proofs.Common.{◌∙◌, zero-mul, one-mul}
use Prim.Native.Nat.{ℕ, zero, suc, ◌*◌, ◌/◌, ◌%◌, ◌^◌}
use Rattle.algebra.specs.BitLaws.{bit_cases, bit_⊕, ⊕_bit, ⊕_double}
use Rattle.algebra.specs.Xor.{◌⊕◌}
use Rattle.algebra.specs.XorLaws.{xor, ⊕_self, ⊕-div}
use Rattle.field.specs.Product.{cut_back}

-- two sums of two, added
pub ⊕_pairs : {p q : ℕ} (r s r' s' : ℕ) → p ≡ r ⊕ s → q ≡ r' ⊕ s' → p ⊕ q ≡ (r ⊕ r') ⊕ (s ⊕ s')
⊕_pairs r s r' s' e f = ap₂ (λ (x y : ℕ). x ⊕ y) e f ∙ sorted
  where
    sorted : (r ⊕ s) ⊕ (r' ⊕ s') ≡ (r ⊕ r') ⊕ (s ⊕ s')
    sorted = simp xor

module _ (m w : ℕ) where
  unfoldable pub times_u : ℕ → ℕ
  times_u a = cut_back m w (a * 2)

  unfoldable pub horner : ℕ → ℕ → ℕ → ℕ
  horner zero b a = 0
  horner (suc k) b a = (b % 2) * a ⊕ times_u (horner k (b / 2) a)

  pub cut_back-⊕ : (r s : ℕ) → cut_back m w (r ⊕ s) ≡ cut_back m w r ⊕ cut_back m w s
  unfolding cut_back
  cut_back-⊕ r s = ap (λ (x : ℕ). (r ⊕ s) ⊕ (x % 2) * w) (⊕-div r s m) ∙ ap (λ (x : ℕ). (r ⊕ s) ⊕ x) (⊕_bit (r / 2 ^ m) (s / 2 ^ m) w) ∙ simp xor

  pub times_u-⊕ : (a b : ℕ) → times_u (a ⊕ b) ≡ times_u a ⊕ times_u b
  unfolding times_u
  times_u-⊕ a b = ap (cut_back m w) (⊕_double a b) ∙ cut_back-⊕ (a * 2) (b * 2)

  pub times_u-zero : times_u 0 ≡ 0
  times_u-zero = ap times_u (sym (⊕_self 0)) ∙ times_u-⊕ 0 0 ∙ ⊕_self (times_u 0)

  times_u_bit : (c a : ℕ) → times_u ((c % 2) * a) ≡ (c % 2) * times_u a
  times_u_bit c a = bit_cases (λ (s : ℕ). times_u (s * a) ≡ s * times_u a) (simp (zero-mul, times_u-zero)) (simp one-mul) c

  pub horner-⊕ : (k b x y : ℕ) → horner k b (x ⊕ y) ≡ horner k b x ⊕ horner k b y
  unfolding horner
  horner-⊕ zero b x y = sym (⊕_self 0)
  horner-⊕ (suc k) b x y =
      ⊕_pairs ((b % 2) * x) ((b % 2) * y) (times_u (horner k (b / 2) x)) (times_u (horner k (b / 2) y)) (bit_⊕ b x y)
      (ap times_u (horner-⊕ k (b / 2) x y) ∙ times_u-⊕ (horner k (b / 2) x) (horner k (b / 2) y))

  horner-zero : (k b : ℕ) → horner k b 0 ≡ 0
  horner-zero k b = ap (horner k b) (sym (⊕_self 0)) ∙ horner-⊕ k b 0 0 ∙ ⊕_self (horner k b 0)

  horner_bit : (k b c a : ℕ) → horner k b ((c % 2) * a) ≡ (c % 2) * horner k b a
  horner_bit k b c a = bit_cases (λ (s : ℕ). horner k b (s * a) ≡ s * horner k b a) (simp (zero-mul, horner-zero)) (simp one-mul) c

  pub horner-times_u : (k b a : ℕ) → horner k b (times_u a) ≡ times_u (horner k b a)
  unfolding horner
  horner-times_u zero b a = sym times_u-zero
  horner-times_u (suc k) b a =
      ap₂ (λ (x y : ℕ). x ⊕ y) (sym (times_u_bit b a)) (ap times_u (horner-times_u k (b / 2) a))
      ∙ sym (times_u-⊕ ((b % 2) * a) (times_u (horner k (b / 2) a)))

  -- polynomials in one operator commute
  pub horner_comm : (k b j c a : ℕ) → horner k b (horner j c a) ≡ horner j c (horner k b a)
  unfolding horner
  horner_comm zero b j c a = sym (horner-zero j c)
  horner_comm (suc k) b j c a =
      ap₂ (λ (x y : ℕ). x ⊕ y) (sym (horner_bit j c b a))
      (ap times_u (horner_comm k (b / 2) j c a) ∙ sym (horner-times_u j c (horner k (b / 2) a)))
      ∙ sym (horner-⊕ j c ((b % 2) * a) (times_u (horner k (b / 2) a)))

  pub ⊕-horner : (k b c a : ℕ) → horner k (b ⊕ c) a ≡ horner k b a ⊕ horner k c a
  unfolding horner
  ⊕-horner zero b c a = sym (⊕_self 0)
  ⊕-horner (suc k) b c a =
      ⊕_pairs ((b % 2) * a) ((c % 2) * a) (times_u (horner k (b / 2) a)) (times_u (horner k (c / 2) a)) (⊕_bit b c a)
      (ap times_u (ap (λ (x : ℕ). horner k x a) (⊕-div b c 1) ∙ ⊕-horner k (b / 2) (c / 2) a)
      ∙ times_u-⊕ (horner k (b / 2) a) (horner k (c / 2) a))
