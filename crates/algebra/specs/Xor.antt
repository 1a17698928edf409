-- Exclusive or of numbers, bit by bit: the sum of field elements, and the ⊕ of indices.
-- It is the logic's `bit_xor` under a shut name, so that proofs go by its laws (`XorLaws.antt`) and never by its digits.
use Rattle.std.specs.Prelude.{ℕ}
use Rattle.std.specs.Int.Bits.{bit_xor}

infixl 65 ◌⊕◌
unfoldable pub ◌⊕◌ : ℕ → ℕ → ℕ
a ⊕ b = bit_xor a b
