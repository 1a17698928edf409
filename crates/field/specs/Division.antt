-- What the product is, without an algorithm for the remainder: the only polynomial of degree below m that differs from the polynomial product
-- by a multiple of the word.
use Rattle.std.specs.Prelude.{◌≡◌}
use Rattle.std.proofs.Math.Path.{sym, ap, ap₂, subst}
use Rattle.std.proofs.Common.{◌∙◌, zero-mul, one-mul, add-zero, mod-eq_of_lt, zero-lt-suc, add-suc, lt_of_lt_of_le, div-add-mod', pow_mono}
use Prim.Native.Nat.{ℕ, zero, suc, ◌+◌, ◌*◌, ◌/◌, ◌%◌, ◌^◌, ◌≤◌, ◌<◌}
use Rattle.std.proofs.Math.Nat.{mod-lt, pow-suc, div-eq_of_lt-le}
use native.Mathlib.Omega.{arith}
use Rattle.std.proofs.Math.Arith.{digits_div, digits_mod}
use Rattle.std.proofs.Math.Pow.{pow_pos}
use Rattle.algebra.specs.Xor.{◌⊕◌}
use Rattle.algebra.specs.XorLaws.{xor, ⊕_self, ⊕-zero, ⊕_block, ⊕-lt, ⊕_eq}
use Rattle.field.specs.Product.{poly_product, cut_back, remainder, product}
use Rattle.algebra.specs.BitLaws.{bit_cases}
use Rattle.field.specs.Horner.{times_u, times_u-zero}
use Rattle.field.specs.Ring.{Degree, remainder-⊕, remainder_small, remainder_double, bit_lt, product_lt}

two_pos : 0 < 2
two_pos = zero-lt-suc 1

crossed : (r p x y : ℕ) → r ⊕ x ≡ p ⊕ y → r ⊕ p ≡ x ⊕ y
crossed r p x y e = apart r p x ∙ ap (λ (z : ℕ). z ⊕ (x ⊕ p)) e ∙ together p x y
  where
    apart : (r p x : ℕ) → r ⊕ p ≡ (r ⊕ x) ⊕ (x ⊕ p)
    apart r p x = simp xor

    together : (p x y : ℕ) → (p ⊕ y) ⊕ (x ⊕ p) ≡ x ⊕ y
    together p x y = simp xor

module _ (m w : ℕ) where
  -- the coefficients with which the long division takes w away
  unfoldable pub quotient : ℕ → ℕ → ℕ
  quotient zero x = 0
  quotient (suc k) x = quotient k (x / 2) * 2 + (remainder m w k (x / 2) * 2 + x % 2) / 2 ^ m % 2

  -- one step: x = 2·y + b, where y = r + w·p, and r·2 + b is cut back with the coefficient c
  division_step : (x r p c : ℕ) → x / 2 ≡ r ⊕ p → x ≡ ((r * 2 + x % 2) ⊕ c * w) ⊕ (c * w ⊕ p * 2)
  division_step x r p c e =
      sym (div-add-mod' x 2) ∙ ap₂ (λ (y b : ℕ). y * 2 + b) e (sym (⊕-zero (x % 2)))
      ∙ sym (⊕_block 1 r p (x % 2) 0 (mod-lt x two_pos) two_pos) ∙ ap (λ (y : ℕ). (r * 2 + x % 2) ⊕ y) (add-zero (p * 2))
      ∙ cancel (r * 2 + x % 2) (c * w) (p * 2)
    where
      cancel : (u v z : ℕ) → u ⊕ z ≡ (u ⊕ v) ⊕ (v ⊕ z)
      cancel u v z = simp xor

  pub divided : (k x : ℕ) → x < 2 ^ k → x ≡ remainder m w k x ⊕ poly_product k w (quotient k x)
  unfolding quotient remainder poly_product cut_back
  divided zero x h = zero_only ∙ sym (⊕_self 0)
    where
      zero_only : x ≡ 0
      zero_only = omega arith
  divided (suc k) x h =
      let r : ℕ = remainder m w k (x / 2) in
      let q : ℕ = quotient k (x / 2) in
      let c : ℕ = (r * 2 + x % 2) / 2 ^ m % 2 in
      let c< : c < 2 = mod-lt ((r * 2 + x % 2) / 2 ^ m) two_pos in
      division_step x r (poly_product k w q) c (divided k (x / 2) (half (rw pow-suc at h)))
      ∙ ap₂ (λ (u v : ℕ). ((r * 2 + x % 2) ⊕ c * w) ⊕ (u * w ⊕ poly_product k w v * 2)) (sym (digits_mod q c<)) (sym (digits_div q c<))
    where
      half : x < 2 ^ k * 2 → x / 2 < 2 ^ k
      half t = omega arith

  module _ (D : Degree m w) where
    poly_lt : (k a b : ℕ) → a < 2 ^ m → poly_product k a b < 2 ^ (m + k)
    unfolding poly_product
    poly_lt zero a b h = pow_pos (m + 0)
    poly_lt (suc k) a b h =
        ⊕-lt (m + suc k) ((b % 2) * a) (poly_product k a (b / 2) * 2) (lt_of_lt_of_le (bit_lt m w D b a h) (pow_mono (omega arith)))
        (subst (λ (n : ℕ). poly_product k a (b / 2) * 2 < 2 ^ n) (sym (add-suc m k)) (doubled (poly_lt k a (b / 2) h)))
      where
        doubled : poly_product k a (b / 2) < 2 ^ (m + k) → poly_product k a (b / 2) * 2 < 2 ^ suc (m + k)
        doubled t = subst (λ (y : ℕ). poly_product k a (b / 2) * 2 < y) (sym (pow-suc 2 (m + k))) (omega arith)

    -- the word itself leaves nothing, and so do its multiples
    word_zero : (n : ℕ) → m ≤ n → remainder m w (suc n) w ≡ 0
    unfolding remainder cut_back
    word_zero n h =
        ap (λ (r : ℕ). cut_back m w (r * 2 + w % 2)) (remainder_small m w D n (w / 2) half (lt_of_lt_of_le half (pow_mono h)))
        ∙ ap (cut_back m w) (div-add-mod' w 2) ∙ ap (λ (c : ℕ). w ⊕ (c % 2) * w) once ∙ ap (λ (x : ℕ). w ⊕ x) (one-mul w) ∙ ⊕_self w
      where
        top : w < 2 ^ m * 2
        top = rw pow-suc at D.top

        half : w / 2 < 2 ^ m
        half = omega arith

        once : w / 2 ^ m ≡ 1
        once = div-eq_of_lt-le (2 ^ m) (omega (arith, D.monic)) (omega arith)

    zero-remainder : (n : ℕ) → remainder m w n 0 ≡ 0
    zero-remainder n = remainder_small m w D n 0 (pow_pos m) (pow_pos n)

    multiple_zero : (j q n : ℕ) → suc m + j ≤ n → remainder m w n (poly_product j w q) ≡ 0
    unfolding poly_product
    multiple_zero zero q n h = zero-remainder n
    multiple_zero (suc j) q zero h = absurd (omega arith)
    multiple_zero (suc j) q (suc n) h =
        remainder-⊕ m w D (suc n) ((q % 2) * w) (poly_product j w (q / 2) * 2)
        ∙ ap₂ (λ (x y : ℕ). x ⊕ y) (bit_zero (omega arith))
        (remainder_double m w D n (poly_product j w (q / 2)) ∙ ap (times_u m w) (multiple_zero j (q / 2) n (omega arith)) ∙ times_u-zero m w)
        ∙ ⊕_self 0
      where
        bit_zero : m ≤ n → remainder m w (suc n) ((q % 2) * w) ≡ 0
        bit_zero l =
            bit_cases (λ (s : ℕ). remainder m w (suc n) (s * w) ≡ 0) (ap (remainder m w (suc n)) (zero-mul w) ∙ zero-remainder (suc n))
            (ap (remainder m w (suc n)) (one-mul w) ∙ word_zero n l) q

    pub product_divides : (a b : ℕ) → a < 2 ^ m
        → poly_product m a b ≡ product m w a b ⊕ poly_product (m + m) w (quotient (m + m) (poly_product m a b))
    unfolding product
    product_divides a b h =
        divided (m + m) (poly_product m a b) (poly_lt m a b h)
        ∙ ap (λ (c : ℕ). remainder m w (m + m) (poly_product m c b) ⊕ poly_product (m + m) w (quotient (m + m) (poly_product m a b)))
        (sym (mod-eq_of_lt h))

    pub product_only : (a b r j q : ℕ) → a < 2 ^ m → r < 2 ^ m → poly_product m a b ≡ r ⊕ poly_product j w q → r ≡ product m w a b
    product_only a b r j q h l e =
        let p : ℕ = product m w a b in
        let q' : ℕ = quotient (m + m) (poly_product m a b) in
        let n : ℕ = suc m + j + (m + m) in
        let small : r ⊕ p < 2 ^ m = ⊕-lt m r p l (product_lt m w D a b) in
        ⊕_eq r p
        (sym (remainder_small m w D n (r ⊕ p) small (lt_of_lt_of_le small (pow_mono (omega arith))))
        ∙ ap (remainder m w n) (crossed r p (poly_product j w q) (poly_product (m + m) w q') (sym e ∙ product_divides a b h))
        ∙ remainder-⊕ m w D n (poly_product j w q) (poly_product (m + m) w q')
        ∙ ap₂ (λ (x y : ℕ). x ⊕ y) (multiple_zero j q n (omega arith)) (multiple_zero (m + m) q' n (omega arith)) ∙ ⊕_self 0)
