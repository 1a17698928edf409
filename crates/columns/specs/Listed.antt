-- How the columns of all places are found, for the parts of a call: the number that is due, or the number of places with the columns.
use Rattle.std.specs.Prelude.{◌≡◌, Bool, List, ℕ, ◌*◌, ◌<◌, length, take}
use Rattle.refusals.specs.Counted.{Counted}
use Rattle.refusals.specs.Counted.{Count, Refused}
use Rattle.refusals.specs.Rules.{fault, unless_refused}
use Rattle.slices.specs.Lengths.{longest}
use Rattle.params.specs.declared.Parameters.{Parameters}
use Rattle.columns.specs.Choice.{Choice, selected_column, all_places, all_columns, choice_rules}

-- what was found, and where nothing refuses the call the columns at the front of the list
pub record Listed (c : Parameters) (h : List ℕ) (s : Choice) (others full : Bool) (columns : List ℕ) (found : Counted) : Type 0 where
  pub answer : found ≡ unless_refused (fault (choice_rules c h s others full)) Refused (Count (all_places c s))
  pub numbered : fault (choice_rules c h s others full) ≡ 0 → take (all_places c s) columns ≡ all_columns c s

-- a selection whose columns can be numbered
pub record Selecting (t : ℕ) (blocks shifts : List ℕ) : Type 0 where
  pub some : 0 < t
  pub as_many : length shifts ≡ length blocks
  pub short : (j : ℕ) → j < length blocks * t → selected_column t blocks shifts j < longest
