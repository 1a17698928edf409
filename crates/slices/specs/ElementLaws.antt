-- What the test of elements says.
use Rattle.std.specs.Prelude.{◌≡◌, ◌↔◌, true, List, ℕ, length}
use Rattle.algebra.specs.AllLaws.{all_is, all_true}
use Rattle.algebra.specs.Lists.{entry_of}
use Rattle.field.specs.Range.{is_element}
use Rattle.field.specs.RangeLaws.{element, element_is}
use Rattle.slices.specs.Elements.{Elements, all_elements}

pub elements_are : (m : ℕ) (a : List ℕ) → (all_elements m a ≡ true) ↔ Elements m a
unfolding all_elements
elements_are m a = (
  λ t i l. element_is m (entry_of a i) (all_is (length a) (λ i. is_element m (entry_of a i)) t i l),
  λ h. all_true (length a) (λ i. is_element m (entry_of a i)) (λ i l. element m (entry_of a i) (h i l)),
)
