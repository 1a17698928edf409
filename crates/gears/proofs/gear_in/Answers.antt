-- `gear_in` meets its contract: sums of bytes fit.
use Rattle.gears.specs.Rows.{gear_in}
use borrow.Author.Rules.{rules}
use Rattle.gears.proofs.gear_in.Goals as goal

pub returns : goal.returns
unfolding gear_in
returns c = search rules
