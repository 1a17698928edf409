-- The choice of columns that is lent to a call, as the definitions have it.
use Rattle.columns.specs.declared.Choice.{Choice as LentChoice}
use Rattle.columns.specs.declared.Choice.TheVariants.{WholeCode, Selection}
use Rattle.columns.specs.Choice.{Choice, Choice.whole_code, Choice.selection}

abbrev pub choice_of : LentChoice → Choice
choice_of WholeCode = whole_code
choice_of (Selection s) = selection s.blocks.now s.shifts.now
