-- `hides_free` meets its contract: the iterator tests every mark beside its lead.
use Rattle.std.proofs.Common.{rules, ◌≡◌, ap, ◌∙◌, true, false}
use Rattle.std.proofs.lemmas.Iterator.{cases_from_all, YieldsList-from_slice, YieldsList-from_zip}
use Rattle.std.specs.Slice.Iter.{iter_rest}
use mathlib.Core.Bool.{not, ◌||◌}
use lib.Dec.{eqb}
use borrow.Author.Tests.{tests}
use Rattle.slices.proofs.Entries.{tests_pairs}
use Rattle.basis.specs.Table.{lead_at, free_at}
use Rattle.shortened.specs.Marks.{hidden_pass}
use Rattle.shortened.proofs.hides_free.Goals as goal

pub returns : goal.returns
unfolding hidden_pass free_at lead_at
returns c =
    let a = c.args in
    tests_pairs a.hidden.now a.leads.now (λ mark lead. eqb mark 0 || not (eqb lead 1)) _ c.requires
    (cases_from_all c.all.new.self _ _ (λ p. (eqb p.0 0 || not (eqb p.1 1)) ≡ true) (λ p. (eqb p.0 0 || not (eqb p.1 1)) ≡ false) c.all.ensures.ran
    (YieldsList-from_zip (YieldsList-from_slice _ (ap iter_rest c.zip.ensures.first ∙ c.iter.ensures.rest)) (YieldsList-from_slice _ (search rules)))
    (λ x q k. search (rules, tests)) (λ x q k. search (rules, tests)))
