-- `put_column` meets its contract.
use Rattle.lines.specs.Listing.{column_line}
use Rattle.lines.proofs.put_column.Goals as goal

pub returns : goal.returns
unfolding column_line
returns c = c.put_line.ensures
