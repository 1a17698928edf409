-- `check_card` meets its contract: the test by which a call on words of the code begins, where it is lent what it needs.
use mathlib.Core.Path.{refl, sym, ◌∙◌}
use Rattle.refusals.specs.RuleLaws.{refuse, given}
use Rattle.refusals.specs.Outcome.{Done, Refused}
use Rattle.refusals.specs.Testing.{handed_on}
use Rattle.shortened.proofs.ListedSentLaws.{sent_due, sent_none, listed_at}
use Rattle.codes.proofs.check_card.Goals as goal

pub returns-in_err-list_sent : goal.returns-in_err-list_sent
returns-in_err-list_sent c =
    let (due, ne) = sent_due (listed_at c.in_err-list_sent.ensures c.whole_code-s.ensures) refl in
    handed_on _ c.from_residual.ensures.1 ∙ refuse Refused Done due ne

pub returns : goal.returns
returns c =
    sym (given Refused Done (sent_none (listed_at c.in_ok-list_sent.ensures c.whole_code-s.ensures) refl))
