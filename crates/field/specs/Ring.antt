-- The product is Horner's rule, and elements below 2^m with ⊕ and the product are a commutative ring, for every m and every word of degree m.
use Rattle.std.specs.Prelude.{◌≡◌}
use Rattle.std.proofs.Math.Path.{sym, ap, ap₂}
use Rattle.std.proofs.Common.{◌∙◌, subst, zero-add, zero-mul, one-mul, le_refl, mul-one, mod-lt, zero-lt-suc, add-suc, mod-eq_of_lt, mul-div_cancel, div-add-mod', lt_of_lt_of_le, add-one, lit<, pow_mono}
use Prim.Native.Nat.{ℕ, zero, suc, ◌+◌, ◌-◌, ◌*◌, ◌/◌, ◌%◌, ◌^◌, ◌≤◌, ◌<◌}
use Rattle.std.proofs.Math.Nat.{add-zero, pow-suc, div-eq_of_lt, mod-one, mul-mod_left}
use Rattle.std.proofs.Math.Decide.{dec_lt}
use native.Mathlib.Omega.{arith}
use Rattle.std.proofs.Math.Pow.{pow_pos, high}
use Rattle.std.proofs.lemmas.Nat.{mod-pow-add}
use Rattle.algebra.specs.Xor.{◌⊕◌}
use Rattle.algebra.specs.XorLaws.{⊕_self, ⊕-zero, zero-⊕, ⊕_comm, ⊕-lt, ⊕_block, ⊕_shifted, ⊕-div, ⊕-mod}
use Rattle.field.specs.Product.{poly_product, cut_back, remainder, product}
use Rattle.algebra.specs.BitLaws.{bit_times_lt}
use Rattle.field.specs.Horner.{times_u, times_u-zero, horner, ⊕-horner, horner_comm, cut_back-⊕}

-- a word of degree m, as a number: its bit m is the highest
pub record Degree (m w : ℕ) : Type 0 where
  pub positive : 0 < m
  pub monic : 2 ^ m ≤ w
  pub top : w < 2 ^ suc m

-- what is below 2^m has nothing to cut back
pub cut_back_small : (m w r : ℕ) → r < 2 ^ m → cut_back m w r ≡ r
unfolding cut_back
cut_back_small m w r h = ap (λ (x : ℕ). r ⊕ (x % 2) * w) (div-eq_of_lt h) ∙ ap (λ (x : ℕ). r ⊕ x) (zero-mul w) ∙ ⊕-zero r

-- 2^m ≤ x < 2^(m+1): x is 2^m and a rest below it
over : (m x : ℕ) → 2 ^ m ≤ x → x < 2 ^ suc m → (r : ℕ) × (r < 2 ^ m) × (x ≡ 1 * 2 ^ m + r)
over m x l h = (x - 2 ^ m, below (rw pow-suc at h), omega arith)
  where
    below : x < 2 ^ m * 2 → x - 2 ^ m < 2 ^ m
    below t = omega arith

-- where both have the term u^m, it goes away
cut_back_over : (m a b : ℕ) → a < 2 ^ m → b < 2 ^ m → cut_back m (1 * 2 ^ m + b) (1 * 2 ^ m + a) ≡ a ⊕ b
unfolding cut_back
cut_back_over m a b ha hb =
    ap (λ (x : ℕ). (1 * 2 ^ m + a) ⊕ (x % 2) * (1 * 2 ^ m + b)) (high 1 m ha)
    ∙ ap (λ (x : ℕ). (1 * 2 ^ m + a) ⊕ x) (one-mul (1 * 2 ^ m + b)) ∙ ⊕_block m 1 1 a b ha hb
    ∙ ap (λ (x : ℕ). x * 2 ^ m + (a ⊕ b)) (⊕_self 1) ∙ ap (λ (x : ℕ). x + (a ⊕ b)) (zero-mul (2 ^ m)) ∙ zero-add (a ⊕ b)

horner-nought : (m w k a : ℕ) → horner m w k 0 a ≡ 0
horner-nought m w k a = ap (λ (x : ℕ). horner m w k x a) (sym (⊕_self 0)) ∙ ⊕-horner m w k 0 0 a ∙ ⊕_self (horner m w k 0 a)

-- the polynomial u itself: its coefficients are 0, 1, 0, ..
horner_u : (m w k a : ℕ) → horner m w (suc (suc k)) 2 a ≡ times_u m w a
unfolding horner
horner_u m w k a =
    ap₂ (λ (x y : ℕ). x ⊕ times_u m w y) (zero-mul a)
    (ap₂ (λ (x y : ℕ). x ⊕ y) (one-mul a) (ap (times_u m w) (horner-nought m w k a) ∙ times_u-zero m w) ∙ ⊕-zero a)
    ∙ zero-⊕ (times_u m w a)

module _ (m w : ℕ) (D : Degree m w) where
  -- 2^m goes away against the word's, and what is left lies below it
  pub cut_back-lt : (r : ℕ) → r < 2 ^ suc m → cut_back m w r < 2 ^ m
  cut_back-lt r h = decided (dec_lt r (2 ^ m))
    where
      both : (x : (a : ℕ) × (a < 2 ^ m) × (r ≡ 1 * 2 ^ m + a)) (y : (b : ℕ) × (b < 2 ^ m) × (w ≡ 1 * 2 ^ m + b)) → cut_back m w r < 2 ^ m
      both x y =
          subst (λ (z : ℕ). z < 2 ^ m)
          (sym (ap₂ (λ (v z : ℕ). cut_back m v z) y.2 x.2 ∙ cut_back_over m x.0 y.0 x.1 y.1))
          (⊕-lt m x.0 y.0 x.1 y.1)

      decided : Dec (r < 2 ^ m) → cut_back m w r < 2 ^ m
      decided (yes l) = subst (λ (x : ℕ). x < 2 ^ m) (sym (cut_back_small m w r l)) l
      decided (no nl) = both (over m r (omega (arith)) h) (over m w D.monic D.top)

  pub times_u-lt : (a : ℕ) → a < 2 ^ m → times_u m w a < 2 ^ m
  unfolding times_u
  times_u-lt a h = cut_back-lt (a * 2) (subst (λ (x : ℕ). a * 2 < x) (sym (pow-suc 2 m)) (omega arith))

  pub bit_lt : (b a : ℕ) → a < 2 ^ m → (b % 2) * a < 2 ^ m
  bit_lt b a h = bit_times_lt m (b % 2) a (mod-lt b (zero-lt-suc 1)) h

  pub horner-lt : (k b a : ℕ) → a < 2 ^ m → horner m w k b a < 2 ^ m
  unfolding horner
  horner-lt zero b a h = pow_pos m
  horner-lt (suc k) b a h = ⊕-lt m ((b % 2) * a) (times_u m w (horner m w k (b / 2) a)) (bit_lt b a h)
      (times_u-lt (horner m w k (b / 2) a) (horner-lt k (b / 2) a h))

  -- below half the range u is a shift
  times_u_shift : (k x : ℕ) → suc k ≤ m → x < 2 ^ k → times_u m w x ≡ x * 2
  unfolding times_u
  times_u_shift k x l h = cut_back_small m w (x * 2) (lt_of_lt_of_le (subst (λ (y : ℕ). x * 2 < y) (sym (pow-suc 2 k)) (omega arith)) (pow_mono l))

  -- the polynomial b in u, at the element 1, is b itself
  pub horner-one : (k b : ℕ) → k ≤ m → horner m w k b 1 ≡ b % 2 ^ k
  unfolding horner
  horner-one zero b l = sym (mod-one b)
  horner-one (suc k) b l =
      ap₂ (λ (x y : ℕ). x ⊕ y) (mul-one (b % 2))
      (ap (times_u m w) (horner-one k (b / 2) (omega arith)) ∙ times_u_shift k (b / 2 % 2 ^ k) l (mod-lt (b / 2) (pow_pos k)))
      ∙ ⊕_comm (b % 2) (b / 2 % 2 ^ k * 2) ∙ ⊕_shifted (b / 2 % 2 ^ k) 1 (b % 2) (mod-lt b (zero-lt-suc 1))
      ∙ sym (mod-pow-add b k 1) ∙ ap (λ (x : ℕ). b % 2 ^ x) (add-one k)

  -- ---- the remainder, and with it the product, is Horner's rule
  pub remainder-⊕ : (k x y : ℕ) → remainder m w k (x ⊕ y) ≡ remainder m w k x ⊕ remainder m w k y
  unfolding remainder
  remainder-⊕ zero x y = sym (⊕_self 0)
  remainder-⊕ (suc k) x y =
      ap (cut_back m w)
      (ap₂ (λ (p q : ℕ). p * 2 + q) (ap (remainder m w k) (⊕-div x y 1) ∙ remainder-⊕ k (x / 2) (y / 2)) (⊕-mod x y 1)
      ∙ sym (⊕_block 1 (remainder m w k (x / 2)) (remainder m w k (y / 2)) (x % 2) (y % 2) (mod-lt x (zero-lt-suc 1)) (mod-lt y (zero-lt-suc 1))))
      ∙ cut_back-⊕ m w (remainder m w k (x / 2) * 2 + x % 2) (remainder m w k (y / 2) * 2 + y % 2)

  pub remainder_double : (k x : ℕ) → remainder m w (suc k) (x * 2) ≡ times_u m w (remainder m w k x)
  unfolding remainder times_u
  remainder_double k x =
      ap (cut_back m w)
      (ap₂ (λ (p q : ℕ). p * 2 + q) (ap (remainder m w k) (mul-div_cancel x (zero-lt-suc 1))) (mul-mod_left x 2)
      ∙ add-zero (remainder m w k x * 2))

  pub remainder_small : (k x : ℕ) → x < 2 ^ m → x < 2 ^ k → remainder m w k x ≡ x
  unfolding remainder
  remainder_small zero x h l = omega arith
  remainder_small (suc k) x h l =
      ap (λ (r : ℕ). cut_back m w (r * 2 + x % 2)) (remainder_small k (x / 2) (omega arith) (half (rw pow-suc at l)))
      ∙ ap (cut_back m w) (div-add-mod' x 2) ∙ cut_back_small m w x h
    where
      half : x < 2 ^ k * 2 → x / 2 < 2 ^ k
      half t = omega arith

  remainder_poly : (j a b : ℕ) → a < 2 ^ m → remainder m w (m + j) (poly_product j a b) ≡ horner m w j b a
  unfolding poly_product horner
  remainder_poly zero a b h = remainder_small (m + 0) 0 (pow_pos m) (pow_pos (m + 0))
  remainder_poly (suc j) a b h =
      ap (λ (n : ℕ). remainder m w n ((b % 2) * a ⊕ poly_product j a (b / 2) * 2)) (add-suc m j)
      ∙ remainder-⊕ (suc (m + j)) ((b % 2) * a) (poly_product j a (b / 2) * 2)
      ∙ ap₂ (λ (x y : ℕ). x ⊕ y)
      (remainder_small (suc (m + j)) ((b % 2) * a) (bit_lt b a h) (lt_of_lt_of_le (bit_lt b a h) (pow_mono (omega arith))))
      (remainder_double (m + j) (poly_product j a (b / 2)) ∙ ap (times_u m w) (remainder_poly j a (b / 2) h))

  pub product-horner : (a b : ℕ) → product m w a b ≡ horner m w m b (a % 2 ^ m)
  unfolding product
  product-horner a b = remainder_poly m (a % 2 ^ m) b (mod-lt a (pow_pos m))

  -- ---- the ring
  pub product_lt : (a b : ℕ) → product m w a b < 2 ^ m
  product_lt a b = subst (λ (x : ℕ). x < 2 ^ m) (sym (product-horner a b)) (horner-lt m b (a % 2 ^ m) (mod-lt a (pow_pos m)))

  at_one : (a b : ℕ) → product m w a b ≡ horner m w m b (horner m w m a 1)
  at_one a b = product-horner a b ∙ ap (horner m w m b) (sym (horner-one m a (le_refl m)))

  pub product_comm : (a b : ℕ) → product m w a b ≡ product m w b a
  product_comm a b = at_one a b ∙ horner_comm m w m b m a 1 ∙ sym (at_one b a)

  -- a product is an element, so that nothing of it is cut away as a factor
  product_times : (a b c : ℕ) → product m w (product m w a b) c ≡ horner m w m c (product m w a b)
  product_times a b c = product-horner (product m w a b) c ∙ ap (horner m w m c) (mod-eq_of_lt (product_lt a b))

  pub product_assoc : (a b c : ℕ) → product m w (product m w a b) c ≡ product m w a (product m w b c)
  product_assoc a b c =
      product_times a b c ∙ ap (horner m w m c) (at_one a b ∙ horner_comm m w m b m a 1)
      ∙ horner_comm m w m c m a (horner m w m b 1) ∙ ap (horner m w m a) (sym (at_one b c))
      ∙ sym (product_times b c a) ∙ product_comm (product m w b c) a

  pub product-⊕ : (a b c : ℕ) → product m w a (b ⊕ c) ≡ product m w a b ⊕ product m w a c
  product-⊕ a b c =
      product-horner a (b ⊕ c) ∙ ⊕-horner m w m b c (a % 2 ^ m)
      ∙ ap₂ (λ (x y : ℕ). x ⊕ y) (sym (product-horner a b)) (sym (product-horner a c))

  pub product-one : (a : ℕ) → a < 2 ^ m → product m w 1 a ≡ a
  product-one a h =
      product-horner 1 a ∙ ap (horner m w m a) (mod-eq_of_lt (lt_of_lt_of_le (lit< tt) (pow_mono D.positive)))
      ∙ horner-one m a (le_refl m) ∙ mod-eq_of_lt h

  -- "shift and cut back" is the product by u
  pub product_u : (a : ℕ) → 2 ≤ m → a < 2 ^ m → product m w 2 a ≡ times_u m w a
  product_u a l h =
      product_comm 2 a ∙ product-horner a 2 ∙ ap (horner m w m 2) (mod-eq_of_lt h)
      ∙ ap (λ (n : ℕ). horner m w n 2 a) from_two ∙ horner_u m w (m - 2) a
    where
      from_two : m ≡ suc (suc (m - 2))
      from_two = omega arith
