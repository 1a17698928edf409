-- What `same` says of two accepted codes whose marks are in order: whether m, n, t, ω, h and the marks agree.
use Rattle.std.specs.Prelude.{◌≡◌, ◌↔◌, Bool, true, false, List, ℕ}
use Rattle.std.proofs.Math.Path.{refl, ap, ap₂}
use Rattle.std.proofs.Common.{sym, ◌∙◌, arith}
use Rattle.std.proofs.Math.Bool.{not-eq-not}
use Rattle.refusals.specs.Rules.{unless_refused}
use Rattle.params.specs.declared.Parameters.{Parameters}
use Rattle.codes.specs.Sameness.{Same, Different, Refused}
use Rattle.params.specs.Code.{Accepted}
use Rattle.shortened.specs.Fits.{Fits}
use Rattle.shortened.specs.Setting.{short_code}
use Rattle.shortened.proofs.SettingLaws.{setting_accepts}
use Rattle.codes.specs.Agree.{Agree}
use Rattle.codes.specs.Same.{same_code}
use Rattle.codes.proofs.SameLaws.{same_code_is}
use Rattle.codes.specs.Answers.{lowest, compared, same_fault, same_answer}

compared_same : (b : Bool) → (compared b ≡ Same) ↔ (b ≡ true)
unfolding compared
compared_same true = (λ e. refl, λ e. refl)
compared_same false = (
  λ e.
      let z : ◌≡◌ {A = ℕ} 0 1 = cc in absurd (omega arith),
  λ e. ap compared e,
)

module _ {c₁ c₂ : Parameters} {h₁ h₂ hidden₁ hidden₂ : List ℕ} (A₁ : Accepted c₁ h₁) (F₁ : Fits c₁ h₁ (short_code hidden₁))
    (A₂ : Accepted c₂ h₂) (F₂ : Fits c₂ h₂ (short_code hidden₂)) where
  accepted_compared : same_answer c₁ h₁ hidden₁ c₂ h₂ hidden₂ ≡ compared (same_code c₁ h₁ hidden₁ c₂ h₂ hidden₂)
  unfolding same_answer same_fault lowest unless_refused
  accepted_compared =
      ap₂ (λ (j k : ℕ). unless_refused (lowest j k) Refused (compared (same_code c₁ h₁ hidden₁ c₂ h₂ hidden₂)))
      (setting_accepts A₁ (short_code hidden₁) F₁ refl refl) (setting_accepts A₂ (short_code hidden₂) F₂ refl refl)

  pub same_exactly : (same_answer c₁ h₁ hidden₁ c₂ h₂ hidden₂ ≡ Same) ↔ Agree c₁ h₁ hidden₁ c₂ h₂ hidden₂
  same_exactly =
      let agree = same_code c₁ h₁ hidden₁ c₂ h₂ hidden₂ in
      let is = same_code_is c₁ h₁ hidden₁ c₂ h₂ hidden₂ in
      (λ e. is.0 ((compared_same agree).0 (sym accepted_compared ∙ e)), λ p. accepted_compared ∙ (compared_same agree).1 (is.1 p))

  pub different : (Agree c₁ h₁ hidden₁ c₂ h₂ hidden₂ → ⊥) → same_answer c₁ h₁ hidden₁ c₂ h₂ hidden₂ ≡ Different
  unfolding compared
  different apart = accepted_compared ∙ ap compared ((not-eq-not {b = false}).0 (λ t. apart ((same_code_is c₁ h₁ hidden₁ c₂ h₂ hidden₂).0 t)))
