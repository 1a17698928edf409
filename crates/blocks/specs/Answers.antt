-- What the calls on blocks answer, and what they leave in the lent buffer, for every input. Where a rule does not hold that is the number of the
-- first such rule, and the buffer as it was.
use Rattle.std.specs.Prelude.{List, [], ◌∷◌, ◌++◌, ℕ, eqb, length}
use Rattle.refusals.specs.Rules.{Rule, ◌unless◌, fault, unless_refused}
use Rattle.refusals.specs.Outcome.{Outcome}
use Rattle.refusals.specs.Outcome.{Done, Refused}
use Rattle.field.specs.Gf.{gf}
use Rattle.field.specs.Range.{is_width}
use Rattle.slices.specs.Lengths.{is_power}
use Rattle.slices.specs.Elements.{all_elements}
use Rattle.dyadic.specs.Block.{block_sum, block_product, block_inverse}
use Rattle.dyadic.specs.Invertible.{is_invertible}

-- s is the length of a block and n that of the buffer for the result: 1, 01's "width", then 2, 01's "length"
unfoldable pub size_rules : ℕ → ℕ → ℕ → List Rule
size_rules m s n = (1 unless is_width m) ∷ (2 unless is_power s) ∷ (2 unless eqb n s) ∷ []

-- 3, 01's "stranger", after every length
unfoldable pub block_rules : ℕ → List ℕ → ℕ → List Rule
block_rules m a n = size_rules m (length a) n ++ (3 unless all_elements m a) ∷ []

unfoldable pub pair_rules : ℕ → List ℕ → List ℕ → ℕ → List Rule
pair_rules m a b n =
    size_rules m (length a) n ++ (2 unless eqb (length b) (length a)) ∷ (3 unless all_elements m a) ∷ (3 unless all_elements m b) ∷ []

-- 9, 01's "dead block": the elements sum to zero
unfoldable pub inverse_rules : ℕ → List ℕ → ℕ → List Rule
inverse_rules m a n = block_rules m a n ++ (9 unless is_invertible m a) ∷ []

unfoldable pub size_fault : ℕ → ℕ → ℕ → ℕ
size_fault m s n = fault (size_rules m s n)

unfoldable pub block_fault : ℕ → List ℕ → ℕ → ℕ
block_fault m a n = fault (block_rules m a n)

unfoldable pub pair_fault : ℕ → List ℕ → List ℕ → ℕ → ℕ
pair_fault m a b n = fault (pair_rules m a b n)

unfoldable pub inverse_fault : ℕ → List ℕ → ℕ → ℕ
inverse_fault m a n = fault (inverse_rules m a n)

-- ---- the answers, and what stands in the lent buffer `out` after the call

unfoldable pub sum_answer : ℕ → List ℕ → List ℕ → List ℕ → Outcome
sum_answer m a b out = unless_refused (pair_fault m a b (length out)) Refused Done

unfoldable pub sum_after : ℕ → List ℕ → List ℕ → List ℕ → List ℕ
sum_after m a b out = unless_refused (pair_fault m a b (length out)) (λ k. out) (block_sum (gf m) a b)

unfoldable pub product_answer : ℕ → List ℕ → List ℕ → List ℕ → Outcome
product_answer m a b out = unless_refused (pair_fault m a b (length out)) Refused Done

unfoldable pub product_after : ℕ → List ℕ → List ℕ → List ℕ → List ℕ
product_after m a b out = unless_refused (pair_fault m a b (length out)) (λ k. out) (block_product (gf m) a b)

unfoldable pub inverse_answer : ℕ → List ℕ → List ℕ → Outcome
inverse_answer m a out = unless_refused (inverse_fault m a (length out)) Refused Done

unfoldable pub inverse_after : ℕ → List ℕ → List ℕ → List ℕ
inverse_after m a out = unless_refused (inverse_fault m a (length out)) (λ k. out) (block_inverse (gf m) a)
