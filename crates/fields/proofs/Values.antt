-- What the bytes passed say: a number of as many digits, each below 16.
use mathlib.Core.Path.{◌≡◌, refl, sym, ap₂, subst}
use Prim.Native.Nat.{ℕ, suc, ◌+◌, ◌*◌, ◌%◌, ◌^◌, ◌≤◌, ◌<◌}
use native.Mathlib.Nat.{pow-suc, pow-le-pow_right, lt_of_lt_of_le}
use native.Mathlib.Numerals.{add-one}
use native.Mathlib.Omega.{arith}
use lib.Dec.{lit<}
use Rattle.fields.specs.Fields.{field_width, value_of}

pub record Value (byte : ℕ → ℕ) (v i : ℕ) : Type 0 where
  pub bound : i ≤ field_width
  pub is : v ≡ value_of byte i
  pub small : v < 16 ^ i

pub value_start : (byte : ℕ → ℕ) → Value byte 0 0
unfolding value_of
value_start byte = record { bound = omega arith; is = refl; small = lit< tt }

module _ {byte : ℕ → ℕ} {v i : ℕ} (so_far : Value byte v i) (b : ℕ) (l : i < field_width) where
  more : v * 10 + b % 16 < 16 ^ suc i
  more = omega (arith, pow-suc 16 i, so_far.small)

  pub value_fits : v * 10 + b % 16 < 16 ^ field_width
  value_fits = lt_of_lt_of_le more (pow-le-pow_right {n = 16} (lit< tt) {i = suc i} {j = field_width} l)

  pub value_turn : b ≡ byte i → Value byte (v * 10 + b % 16) (i + 1)
  unfolding value_of
  value_turn e =
      subst (Value byte (v * 10 + b % 16)) (sym (add-one i))
      (record { bound = l; is = ap₂ (λ (x y : ℕ). x * 10 + y % 16) so_far.is e; small = more })
