-- `internal::is_width` meets its contract.
use Rattle.std.proofs.Common.{rules, tests}
use Rattle.field.specs.Range.{is_width}
use Rattle.field.proofs.internal.is_width.Goals as goal

pub returns : goal.returns
unfolding is_width
returns c = search (rules, tests)
