-- `hides_messages` meets its contract: where nothing is hidden there is nothing to test, and else the free places are the message columns.
use mathlib.Core.Path.{sym, ◌∙◌}
use native.Mathlib.Omega.{arith}
use Rattle.parity.specs.Selected.{columns_short}
use Rattle.shortened.proofs.Marking.{nothing_hidden, hides_by_leads}
use Rattle.shortened.proofs.hides_messages.Goals as goal

pub returns-then-sent_places-hidden : goal.returns-then-sent_places-hidden
returns-then-sent_places-hidden c =
    let a = c.args in
    nothing_hidden a.c a.h.now a.cols.now a.hidden.now (sym c.sent_places.ensures ∙ c.if-sent_places-hidden.true)

pub message_columns-requires : goal.message_columns-requires
message_columns-requires c =
    let O = c.requires.0 in (O, omega (arith, columns_short O))

pub returns : goal.returns
returns c =
    let a = c.args in
    c.hides_free.ensures
    ∙ hides_by_leads a.c a.h.now a.cols.now a.hidden.now c.message_columns.ensures c.requires.1
