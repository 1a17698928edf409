-- What the field's public calls answer, for every input: the number of the first rule that does not hold, or the element.
use Rattle.std.specs.Prelude.{List, [], ◌∷◌, ◌++◌, ℕ}
use Rattle.algebra.specs.Xor.{◌⊕◌}
use Rattle.field.specs.Found.{Answer}
use Rattle.field.specs.Found.{Element, Refused}
use Rattle.field.specs.Product.{product, inverse}
use Rattle.field.specs.Words.{word}
use Rattle.refusals.specs.Rules.{Rule, ◌unless◌, fault, unless_refused}
use Rattle.field.specs.Range.{is_width, is_element}

unfoldable pub element_rules : ℕ → ℕ → List Rule
element_rules m a = (1 unless is_width m) ∷ (3 unless is_element m a) ∷ []

unfoldable pub element_fault : ℕ → ℕ → ℕ
element_fault m a = fault (element_rules m a)

unfoldable pub pair_fault : ℕ → ℕ → ℕ → ℕ
pair_fault m a b = fault (element_rules m a ++ (3 unless is_element m b) ∷ [])

unfoldable pub sum_answer : ℕ → ℕ → ℕ → Answer
sum_answer m a b = unless_refused (pair_fault m a b) Refused (Element (a ⊕ b))

unfoldable pub product_answer : ℕ → ℕ → ℕ → Answer
product_answer m a b = unless_refused (pair_fault m a b) Refused (Element (product m (word m) a b))

-- the inverse of 0 is 0
unfoldable pub inverse_answer : ℕ → ℕ → Answer
inverse_answer m a = unless_refused (element_fault m a) Refused (Element (inverse m (word m) a))
