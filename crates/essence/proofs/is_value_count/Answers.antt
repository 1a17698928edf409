-- `is_value_count` meets its contract.
use Rattle.std.proofs.Common.{rules, tests}
use Rattle.essence.specs.Answers.{is_value_count}
use Rattle.essence.proofs.is_value_count.Goals as goal

pub returns : goal.returns
unfolding is_value_count
returns c = search (rules, tests)
