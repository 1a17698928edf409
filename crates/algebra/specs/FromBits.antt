-- A number from its bits.
use Rattle.std.specs.Prelude.{◌≡◌, ◌≢◌, ℕ, zero, suc, ◌+◌, ◌-◌, ◌*◌, ◌/◌, ◌%◌, ◌^◌, ◌<◌}
use Rattle.std.proofs.Common.{sym, ap, ap₂, ◌∙◌, subst, mul_assoc, mod-eq_of_lt, lt_of_lt_of_le, not-suc-le-zero, arith, one-add, lit<, shl_lt, pow-add, pow_mono}
use Rattle.std.proofs.Math.Nat.{div-eq_of_lt}
use Rattle.std.proofs.Math.Decide.{dec_lt}
use Rattle.std.specs.Int.Bits.{shifted_even}
use Rattle.std.proofs.lemmas.Nat.{shl-shr}
use Rattle.algebra.specs.AllLaws.{below_suc}
use Rattle.algebra.specs.Xor.{◌⊕◌}
use Rattle.algebra.specs.XorLaws.{⊕-zero, zero-⊕, ⊕-lt}
use Rattle.algebra.specs.Bits.{bit_at}
use Rattle.algebra.specs.BitLaws.{bit_at-⊕, bit_at_small}

-- one bit, moved to place n, is that bit there and nothing elsewhere
pub shifted_at : (b n : ℕ) → b < 2 → bit_at (b * 2 ^ n) n ≡ b
unfolding bit_at
shifted_at b n h = ap (λ (x : ℕ). x % 2) (shl-shr b n) ∙ mod-eq_of_lt h

pub shifted_other : (b n q : ℕ) → b < 2 → q ≢ n → bit_at (b * 2 ^ n) q ≡ 0
unfolding bit_at
shifted_other b n q h ne = decided (dec_lt q n)
  where
    below : (d : ℕ) → n ≡ suc d + q → b * 2 ^ n / 2 ^ q % 2 ≡ 0
    below d e =
        ap (λ (k : ℕ). b * 2 ^ k / 2 ^ q % 2) e ∙ ap (λ (x : ℕ). b * x / 2 ^ q % 2) (pow-add 2 (suc d) q)
        ∙ ap (λ (x : ℕ). x / 2 ^ q % 2) (sym (mul_assoc b (2 ^ suc d) (2 ^ q))) ∙ ap (λ (x : ℕ). x % 2) (shl-shr (b * 2 ^ suc d) q)
        ∙ shifted_even b d

    above : n < q → b * 2 ^ n < 2 ^ q
    above l = lt_of_lt_of_le (shl_lt 1 n h) (pow_mono (omega arith))

    decided : Dec (q < n) → b * 2 ^ n / 2 ^ q % 2 ≡ 0
    decided (yes l) = below (n - suc q) (omega arith)
    decided (no nl) = ap (λ (x : ℕ). x % 2) (div-eq_of_lt (above (omega arith)))

unfoldable pub number_of : ℕ → (ℕ → ℕ) → ℕ
number_of zero f = 0
number_of (suc n) f = number_of n f ⊕ f n * 2 ^ n

pub number_of-lt : (n : ℕ) (f : ℕ → ℕ) → ((j : ℕ) → j < n → f j < 2) → number_of n f < 2 ^ n
unfolding number_of
number_of-lt zero f h = lit< tt
number_of-lt (suc n) f h =
    ⊕-lt (suc n) (number_of n f) (f n * 2 ^ n) (lt_of_lt_of_le (number_of-lt n f (λ j l. h j (omega arith))) (pow_mono (omega arith)))
    (subst (λ (k : ℕ). f n * 2 ^ n < 2 ^ k) (one-add n) (shl_lt 1 n (h n (omega arith))))

pub number_of_bit : (n : ℕ) (f : ℕ → ℕ) → ((j : ℕ) → j < n → f j < 2) → (q : ℕ) → q < n → bit_at (number_of n f) q ≡ f q
unfolding number_of
number_of_bit zero f h = λ q l. absurd (not-suc-le-zero l)
number_of_bit (suc n) f h =
    below_suc (λ (q : ℕ). bit_at (number_of n f ⊕ f n * 2 ^ n) q ≡ f q) n
    (λ q l.
    bit_at-⊕ (number_of n f) (f n * 2 ^ n) q
    ∙ ap₂ (λ (x y : ℕ). x ⊕ y) (number_of_bit n f (λ j l. h j (omega arith)) q l) (shifted_other (f n) n q (h n (omega arith)) (λ e. omega arith))
    ∙ ⊕-zero (f q))
    (bit_at-⊕ (number_of n f) (f n * 2 ^ n) n
    ∙ ap₂ (λ (x y : ℕ). x ⊕ y) (bit_at_small n (number_of n f) (number_of-lt n f (λ j l. h j (omega arith)))) (shifted_at (f n) n (h n (omega arith)))
    ∙ zero-⊕ (f n))
