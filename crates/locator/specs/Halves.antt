-- The halves of a polynomial as lists: coefficients, the lowest first, of a fixed length, and nought past the degree.
use Rattle.std.specs.Prelude.{◌≡◌, List, ℕ, zero, suc, ◌+◌, ◌/◌, ◌<◌, ◌≤◌, ◌^◌, length}
use Rattle.algebra.specs.Field.{Ops}
use Rattle.field.specs.Gf.{gf}
use Rattle.slices.specs.Lengths.{longest}
use Rattle.algebra.specs.Lists.{entry_of}

-- the length of a half: enough for the larger degree, which reaches 2t + 1 where t is half of the longest word
abbrev pub half : ℕ
half = longest / 2 + 2

-- c 0 + y·(c 1 + y·(.. c (n − 1) ..))
unfoldable pub horner : {A : Type 0} → Ops A → ℕ → (ℕ → A) → A → A
horner K zero c y = K.nought
horner K (suc n) c y = K.add (c 0) (K.mul y (horner K n (λ k. c (suc k)) y))

unfoldable pub evaluate : Ops ℕ → List ℕ → ℕ → ℕ
evaluate K l y = horner K (length l) (entry_of l) y

-- a list of field elements of which only the first n can be other than nought
pub record Half (m n : ℕ) (l : List ℕ) : Type 0 where
  pub long : length l ≡ half
  pub inside : (k : ℕ) → entry_of l k < 2 ^ m
  pub ends : (k : ℕ) → n ≤ k → entry_of l k ≡ 0

-- the halves of a polynomial of degree d at most
pub record Pair (m d : ℕ) (even odd : List ℕ) : Type 0 where
  pub even_half : Half m (d / 2 + 1) even
  pub odd_half : Half m ((d + 1) / 2) odd

-- one half of a turn: a·other + b·pivot, with as many coefficients as the other one has
pub record Combined (m n a b : ℕ) (pivot other other' : List ℕ) : Type 0 where
  pub shape : Half m n other'
  pub sum : (y : ℕ) → evaluate (gf m) other' y ≡ (gf m).add ((gf m).mul a (evaluate (gf m) other y)) ((gf m).mul b (evaluate (gf m) pivot y))

-- (y + r)·pivot, with one coefficient more
pub record Lifted (m n r : ℕ) (pivot pivot' : List ℕ) : Type 0 where
  pub shape : Half m (n + 1) pivot'
  pub multiple : (y : ℕ) → evaluate (gf m) pivot' y ≡ (gf m).mul ((gf m).add y r) (evaluate (gf m) pivot y)

-- a half that is c everywhere
pub record Constant (c : ℕ) (l : List ℕ) : Type 0 where
  pub long : length l ≡ half
  pub lowest : entry_of l 0 ≡ c
  pub ends : (k : ℕ) → 1 ≤ k → entry_of l k ≡ 0
