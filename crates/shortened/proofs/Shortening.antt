-- How `list_sent_inverses` ends, once the columns of all places are found: refused by what refused those, or as the marks say.
use mathlib.Core.Path.{◌≡◌, sym, ap, ◌∙◌, subst}
use mathlib.Core.Bool.{Bool}
use mathlib.Core.List.{List}
use Prim.Native.Nat.{ℕ, ◌≤◌}
use lib.Dec.{eqb}
use lib.ListN.{length, take}
use borrow.Author.Tests.{eqb-true}
use Rattle.refusals.specs.Counted.{Counted}
use Rattle.refusals.specs.Counted.{Count, Refused}
use Rattle.refusals.specs.Rules.{fault, unless_refused}
use Rattle.refusals.specs.RuleLaws.{first_holds, fault_rest}
use Rattle.refusals.specs.Ending.{first_refuses}
use Rattle.slices.specs.Lengths.{longest}
use Rattle.params.specs.declared.Parameters.{Parameters}
use Rattle.parity.specs.Selected.{OnColumns}
use Rattle.columns.specs.Choice.{Choice, all_places, all_columns, choice_rules}
use Rattle.columns.proofs.ChoiceLaws.{choice_numbered}
use Rattle.columns.specs.Listed.{Listed}
use Rattle.columns.proofs.ListedLaws.{found_due, listed_none, listed_places, listed_few, listed_accepted, listed_numbered, listed_columns}
use Rattle.shortened.specs.Marks.{sent_count, sent_of, mark_rules}
use Rattle.shortened.specs.Setting.{shortened, columns_of, setting_rules}
use Rattle.shortened.specs.ListedSent.{ListedSent}

module _ (hidden : List ℕ) {c : Parameters} {h : List ℕ} {choice : Choice} {others : Bool} {columns : List ℕ} {found : Counted}
    (L : Listed c h choice others (eqb (length hidden) (all_places c choice)) columns found) (words : Bool) where
  -- the columns were refused
  pub columns_refused : {number : ℕ} → found ≡ Refused number → {columns' : List ℕ} {r : Counted} → r ≡ Refused number
      → ListedSent c h (shortened choice hidden) others words columns' r
  unfolding setting_rules
  columns_refused e handed =
      let rules = choice_rules c h choice others (eqb (length hidden) (all_places c choice)) in
      let more = mark_rules c h (all_columns c choice) hidden words in
      let (due, ne) = found_due rules (all_places c choice) L.answer e in
      record {
        answer = handed ∙ first_refuses rules more Refused (Count (sent_count hidden)) due ne;
        numbered = λ none. absurd (ne (due ∙ first_holds rules more none));
      }

  module _ {k : ℕ} (e : found ≡ Count k) where
    -- the columns of all places stand at the front
    all_marked : k ≡ length hidden
    all_marked = listed_places L e ∙ sym (eqb-true (length hidden) (all_places c choice) (listed_accepted L e).1)

    pub marks_columns : OnColumns c h (take (length hidden) columns)
    marks_columns = subst (λ (i : ℕ). OnColumns c h (take i columns)) all_marked (listed_columns L e)

    pub marks_short : length hidden ≤ longest
    marks_short = subst (λ (i : ℕ). i ≤ longest) all_marked (listed_few L e)

    all_numbered : take (length hidden) columns ≡ all_columns c choice
    all_numbered = ap (λ (i : ℕ). take i columns) (sym all_marked) ∙ listed_numbered L e

    -- what the marks say decides
    marks_decide : fault (mark_rules c h (take (length hidden) columns) hidden words) ≡ fault (setting_rules c h (shortened choice hidden) others words)
    unfolding setting_rules
    marks_decide =
        ap (λ (cols : List ℕ). fault (mark_rules c h cols hidden words)) all_numbered
        ∙ sym
        (fault_rest (choice_rules c h choice others (eqb (length hidden) (all_places c choice)))
        (mark_rules c h (all_columns c choice) hidden words)
        (choice_numbered c h choice others (eqb (length hidden) (all_places c choice))) (listed_none L e))

    pub marks_listed : {columns' : List ℕ} {r : Counted}
        → r ≡ unless_refused (fault (mark_rules c h (take (length hidden) columns) hidden words)) Refused (Count (sent_count hidden))
        → (fault (mark_rules c h (take (length hidden) columns) hidden words) ≡ 0
        → take (sent_count hidden) columns' ≡ sent_of hidden (take (length hidden) columns))
        → ListedSent c h (shortened choice hidden) others words columns' r
    unfolding columns_of
    marks_listed answer kept =
        record {
          answer = answer ∙ ap (λ (i : ℕ). unless_refused i Refused (Count (sent_count hidden))) marks_decide;
          numbered = λ none. kept (marks_decide ∙ none) ∙ ap (sent_of hidden) all_numbered;
        }
