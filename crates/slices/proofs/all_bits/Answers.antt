-- `all_bits` meets its contract: the iterator tests every entry.
use Rattle.std.proofs.Common.{rules, ◌≡◌, true, false}
use Rattle.std.proofs.lemmas.Iterator.{cases_from_all, YieldsList-from_slice}
use borrow.Author.Tests.{tests}
use lib.Dec.{ltb}
use Rattle.slices.specs.Bits.{all_bits}
use Rattle.slices.proofs.Entries.{tests_entries}
use Rattle.slices.proofs.all_bits.Goals as goal

pub returns : goal.returns
unfolding all_bits
returns c =
    tests_entries c.args.a.now (λ x. ltb x 2) _
    (cases_from_all _ _ _ (λ x. ltb x 2 ≡ true) (λ x. ltb x 2 ≡ false) c.all.ensures.ran (YieldsList-from_slice c.args.a.now cc)
    (λ x q k. search (rules, tests)) (λ x q k. search (rules, tests)))
