-- How `begin` ends: with the number that is due, or with a code on the columns of the sent places.
use Rattle.std.specs.Prelude.{◌≡◌, ◌≢◌, Bool, List, ℕ, Result, Ok, Err}
use Rattle.std.proofs.Common.{sym, ◌∙◌, subst, arith}
use Rattle.refusals.specs.Rules.{fault}
use Rattle.params.specs.declared.Parameters.{Parameters}
use Rattle.parity.specs.declared.Code.{Code}
use Rattle.shortened.specs.Begun.{Begun, OnSent}
use Rattle.shortened.specs.Setting.{Setting, setting_rules}

apart : (number : ℕ) (code : Code) → ◌≡◌ {A = Result Code ℕ} (Err number) (Ok code) → ⊥
apart number code e =
    let z : ◌≡◌ {A = ℕ} 0 1 = cc in absurd (omega arith)

same_number : (i j : ℕ) → ◌≡◌ {A = Result Code ℕ} (Err i) (Err j) → i ≡ j
same_number i j e = cc

same_code : (a b : Code) → ◌≡◌ {A = Result Code ℕ} (Ok a) (Ok b) → a ≡ b
same_code a b e = cc

module _ {c : Parameters} {h : List ℕ} {s s' : Setting} {others words : Bool} (is : s ≡ s') {found : Result Code ℕ} where
  pub begun_refused : {number : ℕ} → (number ≡ fault (setting_rules c h s others words)) × (number ≢ 0) → found ≡ Err number
      → Begun c h s' others words found
  begun_refused {number} due q =
      subst (λ (s : Setting). Begun c h s others words found) is
      (record {
        refused = λ i e. subst (λ (k : ℕ). (k ≡ fault (setting_rules c h s others words)) × (k ≢ 0)) (same_number number i (sym q ∙ e)) due;
        passed = λ code e. absurd (apart number code (sym q ∙ e));
      })

  pub begun_passed : {code : Code} → fault (setting_rules c h s others words) ≡ 0 → OnSent c h s code → found ≡ Ok code
      → Begun c h s' others words found
  begun_passed {code} none S q =
      subst (λ (s : Setting). Begun c h s others words found) is
      (record {
        refused = λ i e. absurd (apart i code (sym e ∙ q));
        passed = λ code' e. (none, subst (OnSent c h s) (same_code code code' (sym q ∙ e)) S);
      })
