-- How a call goes on that has found the columns of all places: what that refuses is refused, and else the list begins with columns of an accepted
-- code.
use Rattle.std.specs.Prelude.{◌≡◌, refl, ◌≢◌, Bool, true, List, ◌++◌, ℕ, zero, suc, ◌≤◌, length, take}
use Rattle.std.proofs.Common.{sym, ap, ◌∙◌, subst}
use Rattle.refusals.specs.Counted.{Counted}
use Rattle.refusals.specs.Counted.{Count, Refused}
use Rattle.refusals.specs.Answered.{refused_due, counted_apart, same_counted}
use Rattle.refusals.specs.Ending.{first_refuses, second_decides}
use Rattle.refusals.specs.Rules.{Rule, fault, unless_refused}
use Rattle.slices.specs.Lengths.{longest}
use Rattle.params.specs.declared.Parameters.{Parameters}
use Rattle.params.specs.Code.{Accepted}
use Rattle.parity.specs.Selected.{OnColumns}
use Rattle.columns.specs.Choice.{Choice, all_places, all_columns, choice_rules}
use Rattle.columns.proofs.ChoiceLaws.{choice_numbered, choice_accepted, all_on_columns, all_short, length_all}
use Rattle.columns.specs.Fits.{ChoiceFits}
use Rattle.columns.specs.Listed.{Listed}

-- ---- what a number that was counted, or that refuses, says of the rules

value_found : (n : ℕ) {p k : ℕ} → Count k ≡ unless_refused n Refused (Count p) → (n ≡ 0) × (k ≡ p)
unfolding unless_refused
value_found zero e = (refl, cc)
value_found (suc n) {p} {k} e = absurd (counted_apart k (suc n) (sym e))

module _ (rules : List Rule) (p : ℕ) {found : Counted} (answer : found ≡ unless_refused (fault rules) Refused (Count p)) where
  pub found_due : {number : ℕ} → found ≡ Refused number → (number ≡ fault rules) × (number ≢ 0)
  found_due e =
      let (ne, is) = refused_due Refused (Count p) (counted_apart p) same_counted (fault rules) (sym answer ∙ e) in
      (sym is, λ z. ne (is ∙ z))

  pub found_none : {k : ℕ} → found ≡ Count k → (fault rules ≡ 0) × (k ≡ p)
  found_none e = value_found (fault rules) (sym e ∙ answer)

-- ---- all places

module _ {c : Parameters} {h : List ℕ} {s : Choice} {others full : Bool} {columns : List ℕ} {found : Counted}
    (L : Listed c h s others full columns found) where
  pub listed_refuses : {number : ℕ} → found ≡ Refused number → {A : Type 0} (more : List Rule) (refused : ℕ → A) (value : A)
      → refused number ≡ unless_refused (fault (choice_rules c h s others full ++ more)) refused value
  listed_refuses e more refused value =
      let (due, ne) = found_due (choice_rules c h s others full) (all_places c s) L.answer e in
      first_refuses (choice_rules c h s others full) more refused value due ne

  module _ {k : ℕ} (e : found ≡ Count k) where
    pub listed_none : fault (choice_rules c h s others full) ≡ 0
    listed_none = (found_none (choice_rules c h s others full) (all_places c s) L.answer e).0

    pub listed_places : k ≡ all_places c s
    listed_places = (found_none (choice_rules c h s others full) (all_places c s) L.answer e).1

    pub listed_accepted : (others ≡ true) × (full ≡ true) × Accepted c h × ChoiceFits c s
    listed_accepted = choice_accepted c h s others full listed_none

    pub listed_numbered : take k columns ≡ all_columns c s
    listed_numbered = ap (λ (i : ℕ). take i columns) listed_places ∙ L.numbered listed_none

    pub listed_columns : OnColumns c h (take k columns)
    listed_columns =
        let (o, f, A, F) = listed_accepted in subst (OnColumns c h) (sym listed_numbered) (all_on_columns A s F)

    pub listed_few : k ≤ longest
    listed_few =
        let (o, f, A, F) = listed_accepted in subst (λ (i : ℕ). i ≤ longest) (sym listed_places) (all_short A s F)

    -- what has an entry for each place has one for each column
    pub listed_long : {l : ℕ} → l ≡ all_places c s → l ≡ length (take k columns)
    listed_long q = q ∙ sym (ap length listed_numbered ∙ length_all c s)

    -- what holds for the columns found holds for the choice
    pub listed_passes : {A : Type 0} (more : List ℕ → List Rule) (refused : ℕ → A) (value : List ℕ → A) {x : A}
        → x ≡ unless_refused (fault (more (take k columns))) refused (value (take k columns))
        → x ≡ unless_refused (fault (choice_rules c h s others full ++ more (all_columns c s))) refused (value (all_columns c s))
    listed_passes more refused value q =
        second_decides (choice_rules c h s others full) (more (all_columns c s)) refused (value (all_columns c s)) (choice_numbered c h s others full)
        listed_none
        (q ∙ ap (λ (cols : List ℕ). unless_refused (fault (more cols)) refused (value cols)) listed_numbered)

-- what was found of the lengths, in the words of the definition
pub listed_as : {c : Parameters} {h : List ℕ} {s : Choice} {others full full' : Bool} {columns : List ℕ} {found : Counted}
    → Listed c h s others full columns found → full ≡ full' → Listed c h s others full' columns found
listed_as {c} {h} {s} {others} {columns = columns} {found = found} L e = subst (λ (f : Bool). Listed c h s others f columns found) e L
