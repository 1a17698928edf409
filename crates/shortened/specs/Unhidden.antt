-- The setting with a mark of 0 at every place.
use Rattle.algebra.specs.Tabulate.{tabulate}
use Rattle.params.specs.declared.Parameters.{Parameters}
use Rattle.columns.specs.Choice.{Choice, all_places}
use Rattle.shortened.specs.Setting.{Setting, shortened}

abbrev pub unhidden : Parameters → Choice → Setting
unhidden c choice = shortened choice (tabulate (all_places c choice) (λ p. 0))
