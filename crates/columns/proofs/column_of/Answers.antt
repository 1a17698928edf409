-- `column_of` meets its contract: nothing is cut off.
use Rattle.algebra.specs.Xor.{◌⊕◌}
use borrow.Author.Rules.{rules}
use Rattle.columns.proofs.column_of.Goals as goal

pub overflow_add-result : goal.overflow_add-result
unfolding ◌⊕◌
overflow_add-result c = search rules

pub overflow_cast-result-3 : goal.overflow_cast-result-3
unfolding ◌⊕◌
overflow_cast-result-3 c = search rules

pub returns : goal.returns
unfolding ◌⊕◌
returns c = search rules
