-- There are no more message columns than columns.
use Rattle.std.specs.Prelude.{ℕ, ◌≤◌, List, length}
use Rattle.std.proofs.Common.{subst}
use Rattle.algebra.specs.PlaceLaws.{count-le}
use Rattle.params.specs.declared.Parameters.{Parameters}
use Rattle.parity.specs.Columns.{is_message_column, dimension, message_length}
use Rattle.parity.specs.Selected.{length_whole}
use Rattle.parity.specs.Word.{whole}

pub dimension-le : (c : Parameters) (h cols : List ℕ) → dimension c h cols ≤ length cols
unfolding dimension
dimension-le c h cols = count-le (length cols) (is_message_column c h cols)

pub message_length-le : (c : Parameters) (h : List ℕ) → message_length c h ≤ c.n
message_length-le c h = subst (λ (k : ℕ). message_length c h ≤ k) (length_whole c.n) (dimension-le c h (whole c.n))
