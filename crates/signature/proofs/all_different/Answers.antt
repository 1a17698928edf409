-- `all_different` meets its contract: the first entry is looked for among the others.
use mathlib.Core.Path.{sym, ap, ◌∙◌, subst}
use Rattle.algebra.specs.Distinct.{distinct}
use Rattle.signature.specs.TestLaws.{EqualToFirst}
use Rattle.signature.proofs.Scan.{first_among, none_different}
use Rattle.signature.proofs.all_different.Goals as goal

pub returns-in-Some : goal.returns-in-Some
returns-in-Some c =
    let whole = c.in-Some.ensures.cases.0 in
    first_among _ _ c.contains.result (subst EqualToFirst whole c.requires) c.contains.ensures.cases ∙ ap distinct (sym whole)

pub returns-in-None : goal.returns-in-None
returns-in-None c = none_different _ c.in-None.ensures.cases
