-- Laws of bits: numbers below two as factors, and the bits of a number.
use Rattle.std.specs.Prelude.{◌≡◌, ℕ, zero, suc, ◌+◌, ◌*◌, ◌/◌, ◌%◌, ◌^◌, ◌<◌}
use Rattle.std.proofs.Common.{sym, ap, ap₂, ◌∙◌, subst, suc-le-suc, zero-mul, one-mul, mod-lt, zero-lt-suc, add-zero, div-one, pow-suc, arith, pow_pos, shr-shr}
use Rattle.std.proofs.Math.Nat.{div-eq_of_lt, zero-div}
use Rattle.algebra.specs.Xor.{◌⊕◌}
use Rattle.algebra.specs.XorLaws.{xor, ⊕_self, ⊕-zero, zero-⊕, ⊕_block, ⊕-div, ⊕-mod}
use Rattle.algebra.specs.Bits.{bit_at}

-- what holds at 0 and at 1 holds at every remainder by two
pub bit_cases : (P : ℕ → Type 0) → P 0 → P 1 → (b : ℕ) → P (b % 2)
bit_cases P p0 p1 b = below (b % 2) (mod-lt b (zero-lt-suc 1))
  where
    below : (x : ℕ) → x < 2 → P x
    below zero h = p0
    below (suc zero) h = p1
    below (suc (suc x)) h = absurd (omega arith)

-- a bit times a number of k bits has k bits
pub bit_times_lt : (k b x : ℕ) → b < 2 → x < 2 ^ k → b * x < 2 ^ k
bit_times_lt k zero x hb hx = subst (λ (y : ℕ). y < 2 ^ k) (sym (zero-mul x)) (pow_pos k)
bit_times_lt k (suc zero) x hb hx = subst (λ (y : ℕ). y < 2 ^ k) (sym (one-mul x)) hx
bit_times_lt k (suc (suc b)) x hb hx = absurd (omega arith)

pub bit_⊕ : (b x y : ℕ) → (b % 2) * (x ⊕ y) ≡ (b % 2) * x ⊕ (b % 2) * y
bit_⊕ b x y = bit_cases (λ (s : ℕ). s * (x ⊕ y) ≡ s * x ⊕ s * y) (simp (zero-mul, xor)) (simp one-mul) b

pub ⊕_bit : (b c x : ℕ) → ((b ⊕ c) % 2) * x ≡ (b % 2) * x ⊕ (c % 2) * x
⊕_bit b c x =
    ap (λ (s : ℕ). s * x) (⊕-mod b c 1)
    ∙ bit_cases (λ (s : ℕ). (s ⊕ (c % 2)) * x ≡ s * x ⊕ (c % 2) * x) (simp (zero-mul, zero-⊕))
    (bit_cases (λ (s : ℕ). (1 ⊕ s) * x ≡ 1 * x ⊕ s * x) (simp (zero-mul, ⊕-zero)) (ap (λ (s : ℕ). s * x) (⊕_self 1) ∙ simp (zero-mul, ⊕_self)) c) b

pub ⊕_double : (a b : ℕ) → (a ⊕ b) * 2 ≡ a * 2 ⊕ b * 2
⊕_double a b =
    sym (add-zero ((a ⊕ b) * 2)) ∙ ap (λ (x : ℕ). (a ⊕ b) * 2 + x) (sym (⊕_self 0)) ∙ sym (⊕_block 1 a b 0 0 (zero-lt-suc 1) (zero-lt-suc 1))
    ∙ ap₂ (λ (x y : ℕ). x ⊕ y) (add-zero (a * 2)) (add-zero (b * 2))

pub bit_at_lt : (x b : ℕ) → bit_at x b < 2
unfolding bit_at
bit_at_lt x b = mod-lt (x / 2 ^ b) (zero-lt-suc 1)

pub bit_at-⊕ : (x y b : ℕ) → bit_at (x ⊕ y) b ≡ bit_at x b ⊕ bit_at y b
unfolding bit_at
bit_at-⊕ x y b = ap (λ (z : ℕ). z % 2) (⊕-div x y b) ∙ ⊕-mod (x / 2 ^ b) (y / 2 ^ b) 1

pub bit_at-zero : (b : ℕ) → bit_at 0 b ≡ 0
unfolding bit_at
bit_at-zero b = ap (λ (z : ℕ). z % 2) (zero-div (2 ^ b))

pub bit_at_small : (b x : ℕ) → x < 2 ^ b → bit_at x b ≡ 0
unfolding bit_at
bit_at_small b x h = ap (λ (z : ℕ). z % 2) (div-eq_of_lt h)

bit_at_half : (x b : ℕ) → bit_at (x / 2) b ≡ bit_at x (suc b)
unfolding bit_at
bit_at_half x b = ap (λ (z : ℕ). z % 2) (shr-shr x 1 b ∙ ap (λ (k : ℕ). x / 2 ^ k) (one_more b))
  where
    one_more : (b : ℕ) → 1 + b ≡ suc b
    one_more b = omega arith

-- a number without bits is zero
pub bits_zero : (m x : ℕ) → x < 2 ^ m → ((b : ℕ) → b < m → bit_at x b ≡ 0) → x ≡ 0
unfolding bit_at
bits_zero zero x h z = omega arith
bits_zero (suc m) x h z =
    whole (bits_zero m (x / 2) (half (rw pow-suc at h)) (λ b l. bit_at_half x b ∙ z (suc b) (suc-le-suc l))) (z 0 (zero-lt-suc m))
  where
    half : x < 2 ^ m * 2 → x / 2 < 2 ^ m
    half t = omega arith

    lowest : bit_at x 0 ≡ x % 2
    lowest = ap (λ (y : ℕ). y % 2) (div-one x)

    whole : x / 2 ≡ 0 → bit_at x 0 ≡ 0 → x ≡ 0
    whole e f =
        let last : x % 2 ≡ 0 = sym lowest ∙ f in omega arith
