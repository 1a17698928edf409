-- What falls: the allowance of brackets, and within it the order in which the evaluators call each other: a sum calls for products, a product for
-- terms, and a term for a sum with one bracket less. In a loop it is the text that remains. The loops' invariants: a sum, a product that is held up to
-- the first cursor, from whatever place on, is held up to the present one.
use mathlib.Core.Path.{◌≡◌}
use Prim.Native.Nat.{◌+◌, ◌*◌, ◌-◌}
use lib.ListN.{length, get_or}
use Rattle.slices.specs.Elements.{Elements}
use Rattle.formula.specs.declared.evaluators.Cursor.{Cursor}
use Rattle.formula.specs.Lending.{lent}
use Rattle.formula.specs.Evaluated.{sums, products, terms, Held, Ends}
use Rattle.formula.proofs.evaluators.+evaluators.Given as goal

abbrev pub decreases-term : goal.decreases-term
decreases-term l = 5 * l.brackets

abbrev pub decreases-multiply_term : goal.decreases-multiply_term
decreases-multiply_term l = 5 * l.brackets + 1

abbrev pub decreases-product : goal.decreases-product
decreases-product l = 5 * l.brackets + 2

abbrev pub decreases-add_product : goal.decreases-add_product
decreases-add_product l = 5 * l.brackets + 3

abbrev pub decreases-sum : goal.decreases-sum
decreases-sum l = 5 * l.brackets + 4

abbrev pub decreases-sum-loop-value : goal.decreases-sum-loop-value
decreases-sum-loop-value l = length l.text - l.cursor.at

abbrev pub invariant-sum-loop-value : goal.invariant-sum-loop-value
invariant-sum-loop-value l =
    (length l.value ≡ length l.initial.value) × Ends products (get_or l.text l.cursor.at 0)
    × ((start : Cursor) → Held sums l.letters.m (lent l.letters.blocks) l.brackets l.text start l.initial.cursor l.initial.value
    → Held sums l.letters.m (lent l.letters.blocks) l.brackets l.text start l.cursor l.value)

abbrev pub decreases-product-loop-value : goal.decreases-product-loop-value
decreases-product-loop-value l = length l.text - l.cursor.at

abbrev pub invariant-product-loop-value : goal.invariant-product-loop-value
invariant-product-loop-value l =
    (length l.value ≡ length l.initial.value) × Elements l.letters.m l.value × Ends terms (get_or l.text l.cursor.at 0)
    × ((start : Cursor) → Held products l.letters.m (lent l.letters.blocks) l.brackets l.text start l.initial.cursor l.initial.value
    → Held products l.letters.m (lent l.letters.blocks) l.brackets l.text start l.cursor l.value)
