-- 01's three conditions as computations on a signature h.
use Rattle.std.specs.Prelude.{Bool, not, List, [], ◌∷◌, ℕ, eqb, length}
use Rattle.algebra.specs.All.{all}
use Rattle.algebra.specs.Distinct.{distinct}
use Rattle.algebra.specs.Lists.{entry_of}
use Rattle.algebra.specs.Xor.{◌⊕◌}
use Rattle.refusals.specs.Rules.{Rule, ◌unless◌}
use Rattle.field.specs.Product.{inverse}
use Rattle.field.specs.Words.{word}

-- 1/h_i
unfoldable pub inverse_at : ℕ → List ℕ → ℕ → ℕ
inverse_at m h i = inverse m (word m) (entry_of h i)

-- 4, 01's "blank"
unfoldable pub nonzero : List ℕ → ℕ → Bool
nonzero h i = not (eqb (entry_of h i) 0)

unfoldable pub no_zero : List ℕ → Bool
no_zero h = all (length h) (nonzero h)

-- 01's rule for f at one pair
unfoldable pub pair_kept : (ℕ → ℕ) → ℕ → ℕ → Bool
pair_kept f i j = eqb (f (i ⊕ j)) (f i ⊕ f j ⊕ f 0)

-- the rule below n: i from 0 and, for each i, j from 0
unfoldable pub affine : ℕ → (ℕ → ℕ) → Bool
affine n f = all n (λ i. all n (pair_kept f i))

-- 5, 01's "crossed"
unfoldable pub linear : ℕ → List ℕ → Bool
linear m h = affine (length h) (inverse_at m h)

-- 4 to 6, 01's three conditions; 6 is 01's "twin"
unfoldable pub signature_rules : ℕ → List ℕ → List Rule
signature_rules m h = (4 unless no_zero h) ∷ (5 unless linear m h) ∷ (6 unless distinct h) ∷ []
