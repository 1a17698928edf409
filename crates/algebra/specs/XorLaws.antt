-- Laws of exclusive or.
-- Assumes nothing.
use Rattle.std.specs.Prelude.{◌≡◌, refl, ℕ, zero, suc, ◌+◌, ◌*◌, ◌/◌, ◌%◌, ◌^◌, ◌<◌}
use Rattle.std.proofs.Common.{sym, ap, ap₂, ◌∙◌, mod-lt, zero-lt-suc, zero-mul, one-mul, zero-add, arith}
use Rattle.std.proofs.Math.Arith.{bin_ind}
use Rattle.std.specs.Int.Bits.{differ, xor_step, xor_self, xor_zero_l, xor_zero_r, xor_shifted}
use Rattle.std.proofs.lemmas.Nat.{xor_comm, xor_lt, xor_block, xor_shr, xor_mod}
use Rattle.algebra.specs.Xor.{◌⊕◌}

pub ⊕_comm : (a b : ℕ) → a ⊕ b ≡ b ⊕ a
unfolding ◌⊕◌
⊕_comm = xor_comm

pub ⊕_self : (a : ℕ) → a ⊕ a ≡ 0
unfolding ◌⊕◌
⊕_self = xor_self

pub zero-⊕ : (a : ℕ) → 0 ⊕ a ≡ a
unfolding ◌⊕◌
zero-⊕ = xor_zero_l

pub ⊕-zero : (a : ℕ) → a ⊕ 0 ≡ a
unfolding ◌⊕◌
⊕-zero = xor_zero_r

pub ⊕-lt : (k a b : ℕ) → a < 2 ^ k → b < 2 ^ k → a ⊕ b < 2 ^ k
unfolding ◌⊕◌
⊕-lt = xor_lt

-- the low k bits and the rest are added apart
pub ⊕_block : (k a b r s : ℕ) → r < 2 ^ k → s < 2 ^ k → (a * 2 ^ k + r) ⊕ (b * 2 ^ k + s) ≡ (a ⊕ b) * 2 ^ k + (r ⊕ s)
unfolding ◌⊕◌
⊕_block = xor_block

pub ⊕_shifted : (a k b : ℕ) → b < 2 ^ k → (a * 2 ^ k) ⊕ b ≡ a * 2 ^ k + b
unfolding ◌⊕◌
⊕_shifted = xor_shifted

pub ⊕-div : (a b k : ℕ) → (a ⊕ b) / 2 ^ k ≡ (a / 2 ^ k) ⊕ (b / 2 ^ k)
unfolding ◌⊕◌
⊕-div = xor_shr

pub ⊕-mod : (a b k : ℕ) → (a ⊕ b) % 2 ^ k ≡ (a % 2 ^ k) ⊕ (b % 2 ^ k)
unfolding ◌⊕◌
⊕-mod = xor_mod

-- digit by digit: `differ` is the sum of two bits
⊕_step : (a b : ℕ) → a ⊕ b ≡ ((a / 2) ⊕ (b / 2)) * 2 + differ (a % 2) (b % 2)
unfolding ◌⊕◌
⊕_step = xor_step

⊕_half : (a b : ℕ) → (a ⊕ b) / 2 ≡ (a / 2) ⊕ (b / 2)
⊕_half a b = ⊕-div a b 1

⊕_odd : (a b : ℕ) → (a ⊕ b) % 2 ≡ differ (a % 2) (b % 2)
unfolding ◌⊕◌
⊕_odd a b = ⊕-mod a b 1 ∙ bits (a % 2) (b % 2) (mod-lt a (zero-lt-suc 1)) (mod-lt b (zero-lt-suc 1))
  where
    bits : (x y : ℕ) → x < 2 → y < 2 → x ⊕ y ≡ differ x y
    bits zero y hx hy = refl
    bits (suc zero) zero hx hy = refl
    bits (suc zero) (suc zero) hx hy = refl
    bits (suc zero) (suc (suc y)) hx hy = omega arith
    bits (suc (suc x)) y hx hy = omega arith

differ_assoc : (x y z : ℕ) → x < 2 → y < 2 → z < 2 → differ (differ x y) z ≡ differ x (differ y z)
differ_assoc zero y z hx hy hz = refl
differ_assoc (suc zero) zero z hx hy hz = refl
differ_assoc (suc zero) (suc zero) zero hx hy hz = refl
differ_assoc (suc zero) (suc zero) (suc zero) hx hy hz = refl
differ_assoc (suc zero) (suc zero) (suc (suc z)) hx hy hz = omega arith
differ_assoc (suc zero) (suc (suc y)) z hx hy hz = omega arith
differ_assoc (suc (suc x)) y z hx hy hz = omega arith

pub ⊕_assoc : (a b c : ℕ) → (a ⊕ b) ⊕ c ≡ a ⊕ (b ⊕ c)
⊕_assoc =
    bin_ind (λ (n : ℕ). (b c : ℕ) → (n ⊕ b) ⊕ c ≡ n ⊕ (b ⊕ c)) (λ b c. ap (λ (x : ℕ). x ⊕ c) (zero-⊕ b) ∙ sym (zero-⊕ (b ⊕ c)))
    (λ n ih b c. step n b c (ih (b / 2) (c / 2)))
  where
    step : (n b c : ℕ) → ((n / 2) ⊕ (b / 2)) ⊕ (c / 2) ≡ (n / 2) ⊕ ((b / 2) ⊕ (c / 2)) → (n ⊕ b) ⊕ c ≡ n ⊕ (b ⊕ c)
    step n b c e =
        ⊕_step (n ⊕ b) c
        ∙ ap₂ (λ (x y : ℕ). x * 2 + y)
        (ap (λ (x : ℕ). x ⊕ (c / 2)) (⊕_half n b) ∙ e ∙ ap (λ (x : ℕ). (n / 2) ⊕ x) (sym (⊕_half b c)))
        (ap (λ (x : ℕ). differ x (c % 2)) (⊕_odd n b)
        ∙ differ_assoc (n % 2) (b % 2) (c % 2) (mod-lt n (zero-lt-suc 1)) (mod-lt b (zero-lt-suc 1)) (mod-lt c (zero-lt-suc 1))
        ∙ ap (λ (x : ℕ). differ (n % 2) x) (sym (⊕_odd b c)))
        ∙ sym (⊕_step n (b ⊕ c))

-- the two that sort and cancel nested sums under `simp`
pub ⊕_left_comm : (a b c : ℕ) → a ⊕ (b ⊕ c) ≡ b ⊕ (a ⊕ c)
⊕_left_comm a b c = sym (⊕_assoc a b c) ∙ ap (λ (x : ℕ). x ⊕ c) (⊕_comm a b) ∙ ⊕_assoc b a c

pub ⊕_cancel : (a b : ℕ) → a ⊕ (a ⊕ b) ≡ b
⊕_cancel a b = sym (⊕_assoc a a b) ∙ ap (λ (x : ℕ). x ⊕ b) (⊕_self a) ∙ zero-⊕ b

-- equal to zero means equal
pub ⊕_eq : (a b : ℕ) → a ⊕ b ≡ 0 → a ≡ b
⊕_eq a b e = sym (⊕_cancel b a) ∙ ap (λ (x : ℕ). b ⊕ x) (⊕_comm b a ∙ e) ∙ ⊕-zero b

pub ruleset xor = (⊕_assoc, ⊕_comm, ⊕_left_comm, ⊕_self, ⊕_cancel, zero-⊕, ⊕-zero)

-- a number of e bits with the bit above them set, on the left, on the right and on both sides of ⊕
pub left_top : (e j d : ℕ) → j < 2 ^ e → d < 2 ^ e → (2 ^ e + j) ⊕ d ≡ 2 ^ e + (j ⊕ d)
left_top e j d lj ld = simp (one-mul, zero-mul, zero-add, ⊕-zero) at (⊕_block e 1 0 j d lj ld)

pub right_top : (e j d : ℕ) → j < 2 ^ e → d < 2 ^ e → j ⊕ (2 ^ e + d) ≡ 2 ^ e + (j ⊕ d)
right_top e j d lj ld = simp (one-mul, zero-mul, zero-add, zero-⊕) at (⊕_block e 0 1 j d lj ld)

pub both_top : (e j d : ℕ) → j < 2 ^ e → d < 2 ^ e → (2 ^ e + j) ⊕ (2 ^ e + d) ≡ j ⊕ d
both_top e j d lj ld = simp (one-mul, zero-mul, zero-add, ⊕_self) at (⊕_block e 1 1 j d lj ld)
