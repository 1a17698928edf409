-- `all_elements` meets its contract: the iterator tests every entry.
use Rattle.std.proofs.Common.{rules, ◌≡◌, true, false}
use Rattle.std.proofs.lemmas.Iterator.{cases_from_all, YieldsList-from_slice}
use borrow.Author.Tests.{tests}
use Rattle.field.specs.Range.{is_element}
use Rattle.slices.specs.Elements.{all_elements}
use Rattle.slices.proofs.Entries.{tests_entries}
use Rattle.slices.proofs.all_elements.Goals as goal

pub returns : goal.returns
unfolding all_elements
returns c =
    tests_entries c.args.a.now (is_element c.args.m) _
    (cases_from_all _ _ _ (λ x. is_element c.args.m x ≡ true) (λ x. is_element c.args.m x ≡ false) c.all.ensures.ran
    (YieldsList-from_slice c.args.a.now cc) (λ x q k. search (rules, tests)) (λ x q k. search (rules, tests)))
