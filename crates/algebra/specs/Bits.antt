-- The bits of a number.
use Rattle.std.specs.Prelude.{ℕ, ◌/◌, ◌%◌, ◌^◌}

unfoldable pub bit_at : ℕ → ℕ → ℕ
bit_at x b = x / 2 ^ b % 2
