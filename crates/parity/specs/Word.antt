-- Words, their syndromes, and which of them are code words.
--
-- A code is given by its parameters c and its signature h, and by `cols`, the code's columns that the places of a word stand for: place j is column
-- cols_j. The whole code has the columns 0, 1, .., n − 1.
use Rattle.std.specs.Prelude.{Bool, List, ℕ, zero, suc, eqb, length}
use Rattle.algebra.specs.All.{all}
use Rattle.algebra.specs.Lists.{entry_of}
use Rattle.algebra.specs.Sum.{sum}
use Rattle.algebra.specs.Tabulate.{tabulate}
use Rattle.algebra.specs.Xor.{◌⊕◌}
use Rattle.field.specs.Gf.{gf}
use Rattle.field.specs.Product.{inverse}
use Rattle.field.specs.Words.{word}
use Rattle.params.specs.declared.Parameters.{Parameters}
use Rattle.signature.specs.Signature.{root_at, support_at}

-- the columns of the whole code
unfoldable pub whole : ℕ → List ℕ
whole n = tabulate n (λ j. j)

-- 1/(z_i + L_j), the entry of the parity check matrix in row i and column j
unfoldable pub parity_at : Parameters → List ℕ → ℕ → ℕ → ℕ
parity_at c h i j = inverse c.m (word c.m) (root_at (gf c.m) c.omega (entry_of h) i ⊕ support_at (gf c.m) c.omega (entry_of h) j)

-- x where the bit is one, else nothing
unfoldable pub held : ℕ → ℕ → ℕ
held zero x = 0
held (suc b) x = x

module _ (c : Parameters) (h cols : List ℕ) where
  -- "the sum of 1/(z_i + L_j) over the places j that hold 1"
  unfoldable pub syndrome_at : List ℕ → ℕ → ℕ
  syndrome_at w i = sum (gf c.m) (length cols) (λ j. held (entry_of w j) (parity_at c h i (entry_of cols j)))

  -- "Its syndrome is those t sums in order of i."
  unfoldable pub syndrome_of : List ℕ → List ℕ
  syndrome_of w = tabulate c.t (syndrome_at w)

  -- "It is a code word if for every i below t the sum … is zero."
  unfoldable pub is_code_word : List ℕ → Bool
  is_code_word w = all c.t (λ i. eqb (syndrome_at w i) 0)
