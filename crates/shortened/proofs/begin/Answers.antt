-- `begin` meets its contract: it lists the columns of the sent places, with the inverses.
use mathlib.Core.Path.{refl}
use Rattle.refusals.specs.Testing.{handed_on}
use Rattle.parity.proofs.OfCode.{accepted_code}
use Rattle.shortened.proofs.ListedSentLaws.{sent_due, sent_none, sent_numbered, sent_on_columns, sent_few}
use Rattle.shortened.proofs.Beginning.{begun_refused, begun_passed}
use Rattle.shortened.proofs.begin.Goals as goal

pub returns-in_err-sent : goal.returns-in_err-sent
returns-in_err-sent c = begun_refused refl (sent_due c.in_err-sent.ensures.listed refl) (handed_on _ c.from_residual.ensures.1)

pub shared_ref_as_front-result : goal.shared_ref_as_front-result
shared_ref_as_front-result c = sent_few c.in_ok-sent.ensures.listed refl

pub invariant_of-result : goal.invariant_of-result
invariant_of-result c =
    let O = sent_on_columns c.in_ok-sent.ensures.listed refl in
    record { accepted = accepted_code O.accepted; inverted = c.in_ok-sent.ensures.by_index _ refl; selected = O.selected }

pub returns : goal.returns
returns c =
    let L = c.in_ok-sent.ensures.listed in
    begun_passed refl (sent_none L refl) (record { parameters = refl; signature = refl; columns = sent_numbered L refl }) refl
