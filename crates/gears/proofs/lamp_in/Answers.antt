-- `lamp_in` meets its contract: sums of bytes fit.
use Rattle.gears.specs.Rows.{lamp_in}
use borrow.Author.Rules.{rules}
use Rattle.gears.proofs.lamp_in.Goals as goal

pub returns : goal.returns
unfolding lamp_in
returns c = search rules
