-- `list_sent_inverses` meets its contract: it numbers the columns of all places, and keeps those of the sent ones.
use mathlib.Core.Path.{refl, sym, ◌∙◌}
use native.Mathlib.Omega.{arith}
use Rattle.refusals.specs.Answered.{counted_apart}
use Rattle.refusals.specs.Testing.{handed_on}
use Rattle.columns.proofs.ListedLaws.{listed_as}
use Rattle.shortened.proofs.ListedSentLaws.{listed_at}
use Rattle.shortened.proofs.Shortening.{columns_refused, marks_columns, marks_short, marks_listed}
use Rattle.shortened.proofs.list_sent_inverses.Goals as goal

pub sent_columns-requires : goal.sent_columns-requires
sent_columns-requires c =
    let hidden = c.s.inside.hidden.now in
    let L = listed_as c.in_ok-choose_columns.ensures.listed c.is_all_places.ensures in
    (marks_columns hidden L c.args.lent.words refl, omega (arith, marks_short hidden L c.args.lent.words refl))

pub returns-in_err-choose_columns : goal.returns-in_err-choose_columns
returns-in_err-choose_columns c =
    let L = listed_as c.in_err-choose_columns.ensures.listed c.is_all_places.ensures in
    let handed = handed_on _ c.from_residual.ensures.1 in
    record {
      listed = listed_at (columns_refused c.s.inside.hidden.now L c.args.lent.words refl handed) c.s.view_is;
      by_index = λ k e. absurd (counted_apart k _ (sym handed ∙ e));
    }

pub returns : goal.returns
returns c =
    let L = listed_as c.in_ok-choose_columns.ensures.listed c.is_all_places.ensures in
    let record { value = answer; columns_after = kept } = c.sent_columns.ensures in
    record {
      listed = listed_at (marks_listed c.s.inside.hidden.now L c.args.lent.words refl answer kept) c.s.view_is;
      by_index = λ k e. c.in_ok-choose_columns.ensures.by_index _ refl;
    }
