-- What a list of the sent places' columns says of them: what refuses the call, or that they are columns of an accepted code, each at most once.
use Rattle.std.specs.Prelude.{◌≡◌, ◌≢◌, Bool, List, ℕ, ◌≤◌, take}
use Rattle.std.proofs.Common.{sym, ap, ◌∙◌, subst}
use Rattle.refusals.specs.Counted.{Counted}
use Rattle.refusals.specs.Counted.{Count, Refused}
use Rattle.refusals.specs.Rules.{fault}
use Rattle.slices.specs.Lengths.{longest}
use Rattle.params.specs.declared.Parameters.{Parameters}
use Rattle.params.specs.Code.{Accepted}
use Rattle.parity.specs.Selected.{OnColumns}
use Rattle.columns.proofs.ListedLaws.{found_due, found_none}
use Rattle.shortened.specs.Fits.{Fits}
use Rattle.shortened.specs.ListedSent.{ListedSent}
use Rattle.shortened.specs.Setting.{Setting, places, columns_of, setting_rules}
use Rattle.shortened.proofs.SettingLaws.{setting_accepted, fits_columns, places_short}

module _ {c : Parameters} {h : List ℕ} {s : Setting} {others words : Bool} {columns : List ℕ} {found : Counted}
    (L : ListedSent c h s others words columns found) where
  pub sent_due : {number : ℕ} → found ≡ Refused number → (number ≡ fault (setting_rules c h s others words)) × (number ≢ 0)
  sent_due e = found_due (setting_rules c h s others words) (places s) L.answer e

  -- ---- k places

  module _ {k : ℕ} (e : found ≡ Count k) where
    pub sent_none : fault (setting_rules c h s others words) ≡ 0
    sent_none = (found_none (setting_rules c h s others words) (places s) L.answer e).0

    sent_places : k ≡ places s
    sent_places = (found_none (setting_rules c h s others words) (places s) L.answer e).1

    sent_accepted : Accepted c h × Fits c h s
    sent_accepted = let (o, w, A, F) = setting_accepted c h s others words sent_none in (A, F)

    pub sent_numbered : take k columns ≡ columns_of c s
    sent_numbered = ap (λ (i : ℕ). take i columns) sent_places ∙ L.numbered sent_none

    pub sent_on_columns : OnColumns c h (take k columns)
    sent_on_columns = let (A, F) = sent_accepted in subst (OnColumns c h) (sym sent_numbered) (fits_columns A s F)

    pub sent_few : k ≤ longest
    sent_few = let (A, F) = sent_accepted in subst (λ (i : ℕ). i ≤ longest) (sym sent_places) (places_short A s F)

-- the same of the setting that another names
pub listed_at : {c : Parameters} {h : List ℕ} {s s' : Setting} {others words : Bool} {columns : List ℕ} {found : Counted}
    → ListedSent c h s others words columns found → s ≡ s' → ListedSent c h s' others words columns found
listed_at {c} {h} {others = others} {words = words} {columns = columns} {found = found} L is =
    subst (λ (s : Setting). ListedSent c h s others words columns found) is L
