-- A text that is not refused is the sheet of an accepted code.
use Rattle.std.specs.Prelude.{◌≡◌, refl, List, ℕ, T}
use Rattle.std.proofs.Common.{sym, ◌∙◌}
use Rattle.std.proofs.Math.Bool.{true}
use Rattle.refusals.specs.RuleLaws.{fault_past, hold}
use Rattle.refusals.specs.Rules.{numbered}
use Rattle.params.proofs.Accepted.{accepted, code_numbered}
use Rattle.params.specs.Code.{Accepted}
use Rattle.sheets.specs.Sheet.{sheet_parameters, sheet_h, is_sheet}
use Rattle.sheets.specs.Fault.{sheet_rules, sheet_fault}

module _ (text : List ℕ) where
  pub sheet_numbered : T (numbered (sheet_rules text))
  unfolding sheet_rules
  sheet_numbered = code_numbered true (sheet_parameters text) (sheet_h text)

  module _ (none : sheet_fault text ≡ 0) where
    pub sheet_is : is_sheet text ≡ true
    unfolding sheet_fault sheet_rules
    sheet_is = (hold (sheet_rules text) sheet_numbered none).0

    pub sheet_accepted : Accepted (sheet_parameters text) (sheet_h text)
    unfolding sheet_fault sheet_rules
    sheet_accepted = (accepted true (sheet_parameters text) (sheet_h text) (sym (fault_past 13 _ sheet_is refl) ∙ none)).1
