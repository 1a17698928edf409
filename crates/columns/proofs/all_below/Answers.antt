-- `all_below` meets its contract: the iterator tests every number.
use Rattle.std.proofs.Common.{rules, ◌≡◌, true, false}
use Rattle.std.proofs.lemmas.Iterator.{cases_from_all, YieldsList-from_slice}
use lib.Dec.{ltb}
use borrow.Author.Tests.{tests}
use Rattle.slices.proofs.Entries.{tests_entries}
use Rattle.columns.specs.Choice.{all_below}
use Rattle.columns.proofs.all_below.Goals as goal

pub returns : goal.returns
unfolding all_below
returns c =
    let bound = c.args.bound in
    tests_entries c.args.numbers.now (λ x. ltb x bound) _
    (cases_from_all _ _ _ (λ x. ltb x bound ≡ true) (λ x. ltb x bound ≡ false) c.all.ensures.ran
    (YieldsList-from_slice c.args.numbers.now cc) (λ x q k. search (rules, tests)) (λ x q k. search (rules, tests)))
