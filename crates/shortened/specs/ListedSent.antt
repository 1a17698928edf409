-- How the columns of the sent places are listed, for the parts of a call: the number that is due, or the number of places with the columns.
use Rattle.std.specs.Prelude.{◌≡◌, Bool, List, ℕ, take}
use Rattle.refusals.specs.Counted.{Counted}
use Rattle.refusals.specs.Counted.{Count, Refused}
use Rattle.refusals.specs.Rules.{fault, unless_refused}
use Rattle.params.specs.declared.Parameters.{Parameters}
use Rattle.shortened.specs.Setting.{Setting, places, columns_of, setting_rules}

-- what was found, and where nothing refuses the call the columns at the front of the list
pub record ListedSent (c : Parameters) (h : List ℕ) (s : Setting) (others words : Bool) (columns : List ℕ) (found : Counted) : Type 0 where
  pub answer : found ≡ unless_refused (fault (setting_rules c h s others words)) Refused (Count (places s))
  pub numbered : fault (setting_rules c h s others words) ≡ 0 → take (places s) columns ≡ columns_of c s
