-- The field's product, as 01 says it: "the polynomial product reduced by one word of the table".
--
-- A number is a polynomial in u over the two-element field: bit i is the coefficient of u^i. So `a ⊕ b` is the sum of two polynomials, `a * 2`
-- is u times a, and `b % 2` is b's constant coefficient. The reduction word w stands for a polynomial of degree m.
use Rattle.std.specs.Prelude.{ℕ, zero, suc, pred, ◌+◌, ◌*◌, ◌/◌, ◌%◌, ◌^◌}
use Rattle.algebra.specs.Xor.{◌⊕◌}

-- the product of two polynomials, b having at most k coefficients: a times the constant coefficient, plus u times a times the rest
unfoldable pub poly_product : ℕ → ℕ → ℕ → ℕ
poly_product zero a b = 0
poly_product (suc k) a b = (b % 2) * a ⊕ poly_product k a (b / 2) * 2

-- r, of degree at most m, with w taken away if it has a term u^m: the cut-back
unfoldable pub cut_back : ℕ → ℕ → ℕ → ℕ
cut_back m w r = r ⊕ (r / 2 ^ m % 2) * w

-- the remainder of x, of at most k coefficients, by w. It is long division: bring down the next coefficient, and cut back
unfoldable pub remainder : ℕ → ℕ → ℕ → ℕ → ℕ
remainder m w zero x = 0
remainder m w (suc k) x = cut_back m w (remainder m w k (x / 2) * 2 + x % 2)

-- the product of two elements. Bits of a and b from m on are not looked at, so that the ring's laws hold for all numbers
unfoldable pub product : ℕ → ℕ → ℕ → ℕ → ℕ
product m w a b = remainder m w (m + m) (poly_product m (a % 2 ^ m) b)

-- a² · a⁴ ⋯ a^(2^k)
unfoldable pub squares : ℕ → ℕ → ℕ → ℕ → ℕ
squares m w zero a = 1
squares m w (suc k) a = let b = product m w a a in product m w b (squares m w k b)

-- a^(2^m − 2), since 2 + 4 + ⋯ + 2^(m−1) is 2^m − 2: 0 for 0, and the inverse for every other element
unfoldable pub inverse : ℕ → ℕ → ℕ → ℕ
inverse m w a = squares m w (pred m) a
