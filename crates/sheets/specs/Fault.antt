-- The number that refuses a text.
use Rattle.std.specs.Prelude.{true, List, ◌∷◌, ℕ}
use Rattle.refusals.specs.Rules.{Rule, ◌unless◌, fault}
use Rattle.params.specs.Code.{code_rules}
use Rattle.sheets.specs.Sheet.{sheet_parameters, sheet_h, is_sheet}

module _ (text : List ℕ) where
  -- 13, 01's "sheet", "which comes first of all"; then those of the code on the sheet
  unfoldable pub sheet_rules : List Rule
  sheet_rules = (13 unless is_sheet text) ∷ code_rules true (sheet_parameters text) (sheet_h text)

  unfoldable pub sheet_fault : ℕ
  sheet_fault = fault sheet_rules
