-- The selection that leaves no block out.
use Rattle.std.specs.Prelude.{◌/◌}
use Rattle.algebra.specs.Tabulate.{tabulate}
use Rattle.params.specs.declared.Parameters.{Parameters}
use Rattle.parity.specs.Word.{whole}
use Rattle.columns.specs.Choice.{Choice, Choice.selection}

-- all blocks in order, with no shifts
abbrev pub all_blocks : Parameters → Choice
all_blocks c = selection (whole (c.n / c.t)) (tabulate (c.n / c.t) (λ b. 0))
