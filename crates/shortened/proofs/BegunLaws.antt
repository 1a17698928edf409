-- How a call goes on: what its beginning refuses is refused, and what that lets pass is left to the work for the code that it found.
use Rattle.std.specs.Prelude.{◌≡◌, ◌≢◌, Bool, true, List, ◌++◌, ℕ, Result, Ok, Err, length}
use Rattle.std.proofs.Common.{sym, ap, ◌∙◌, subst}
use Rattle.refusals.specs.Outcome.{Outcome, Done, Refused}
use Rattle.refusals.specs.Ending.{Ended, first_refuses, second_decides}
use Rattle.refusals.specs.Rules.{Rule, fault, unless_refused}
use Rattle.params.specs.declared.Parameters.{Parameters}
use Rattle.params.specs.Code.{Accepted}
use Rattle.parity.specs.declared.Code.{Code}
use Rattle.parity.specs.OfCode.{of_code}
use Rattle.shortened.specs.Begun.{Begun, OnSent}
use Rattle.shortened.specs.Fits.{Fits}
use Rattle.shortened.specs.Setting.{Setting, places, columns_of, setting_rules}
use Rattle.shortened.proofs.SettingLaws.{setting_numbered, setting_accepted, length_columns}

module _ {c : Parameters} {h : List ℕ} {s : Setting} {others words : Bool} {found : Result Code ℕ} (B : Begun c h s others words found) where
  -- ---- what a refusal makes of an answer, or of a buffer

  module _ {number : ℕ} (e : found ≡ Err number) where
    pub begun_due : (number ≡ fault (setting_rules c h s others words)) × (number ≢ 0)
    begun_due = B.refused number e

    pub begun_refuses : {A : Type 0} (more : List Rule) (refused : ℕ → A) (value : A)
        → refused number ≡ unless_refused (fault (setting_rules c h s others words ++ more)) refused value
    begun_refuses more refused value = first_refuses (setting_rules c h s others words) more refused value begun_due.0 begun_due.1

    -- an outcome and a buffer at once
    pub begun_refuses_both : (more : List Rule) (old value : List ℕ)
        → (Refused number ≡ unless_refused (fault (setting_rules c h s others words ++ more)) Refused Done)
        × (old ≡ unless_refused (fault (setting_rules c h s others words ++ more)) (λ i. old) value)
    begun_refuses_both more old value = (begun_refuses more Refused Done, begun_refuses more (λ i. old) value)

  -- ---- a code

  module _ {code : Code} (e : found ≡ Ok code) where
    pub begun_none : fault (setting_rules c h s others words) ≡ 0
    begun_none = (B.passed code e).0

    pub begun_accepted : (others ≡ true) × (words ≡ true) × Accepted c h × Fits c h s
    begun_accepted = setting_accepted c h s others words begun_none

    -- what is said of the code that was found is said of the columns of the setting
    pub of_begun : {A : Type 0} (f : Parameters → List ℕ → List ℕ → A) → of_code f code ≡ f c h (columns_of c s)
    of_begun f =
        let S : OnSent c h s code = (B.passed code e).1 in
        ap (λ (c : Parameters). f c code.h.now code.cols.now) S.parameters
        ∙ ap (λ (h : List ℕ). f c h code.cols.now) S.signature
        ∙ ap (f c h) S.columns

    -- a word has an entry for each column
    pub begun_long : {l : ℕ} → l ≡ places s → l ≡ length code.cols.now
    begun_long q = q ∙ sym (of_begun (λ c h cols. length cols) ∙ length_columns c s)

    -- What holds for the code found holds at the setting: the rules of the call's own, and the value, depend on it.
    pub begun_passes : {A : Type 0} (more : Parameters → List ℕ → List ℕ → List Rule) (refused : ℕ → A) (value : Parameters → List ℕ → List ℕ → A)
        {x : A} → x ≡ unless_refused (fault (of_code more code)) refused (of_code value code)
        → x ≡ unless_refused (fault (setting_rules c h s others words ++ more c h (columns_of c s))) refused (value c h (columns_of c s))
    begun_passes more refused value q =
        second_decides (setting_rules c h s others words) (more c h (columns_of c s)) refused (value c h (columns_of c s))
        (setting_numbered c h s others words) begun_none
        (q ∙ of_begun (λ c h cols. unless_refused (fault (more c h cols)) refused (value c h cols)))

    -- an outcome and a buffer at once
    pub begun_ends : (more : Parameters → List ℕ → List ℕ → List Rule) (value : Parameters → List ℕ → List ℕ → List ℕ) {j : Outcome}
        {old new : List ℕ} → Ended j (of_code more code) old (of_code value code) new
        → (j ≡ unless_refused (fault (setting_rules c h s others words ++ more c h (columns_of c s))) Refused Done)
        × (new ≡ unless_refused (fault (setting_rules c h s others words ++ more c h (columns_of c s))) (λ i. old) (value c h (columns_of c s)))
    begun_ends more value {j} {old} E = (
      begun_passes more Refused (λ c h cols. Done) E.outcome,
      begun_passes more (λ i. old) value E.buffer,
    )

-- what a call found of the words' lengths, in the words of its definition
pub begun_as : {c : Parameters} {h : List ℕ} {s : Setting} {others words words' : Bool} {found : Result Code ℕ}
    → Begun c h s others words found → words ≡ words' → Begun c h s others words' found
begun_as {c} {h} {s} {others} {found = found} B e = subst (λ (w : Bool). Begun c h s others w found) e B

-- `words` tests them by the number of sent places, which the call counted
pub begun_sent : (words : ℕ → Bool) {c : Parameters} {h : List ℕ} {s : Setting} {others : Bool} {n : ℕ} {found : Result Code ℕ}
    → Begun c h s others (words n) found → n ≡ places s → Begun c h s others (words (places s)) found
begun_sent words B e = begun_as B (ap words e)

-- the same at the setting by its definition, which the call made first
pub begun_set : (words : ℕ → Bool) {c : Parameters} {h : List ℕ} {s s' : Setting} {others : Bool} {n : ℕ} {found : Result Code ℕ}
    → Begun c h s others (words n) found → n ≡ places s → s ≡ s' → Begun c h s' others (words (places s')) found
begun_set words {c} {h} {others = others} {found = found} B e is =
    subst (λ (s : Setting). Begun c h s others (words (places s)) found) is (begun_sent words B e)
