-- The setting of a call on words: which columns of a code the places stand for, all of them in their order or those of a selection, and which of the
-- places are hidden. What is refused there before a word is looked at.
use Rattle.std.specs.Prelude.{Bool, List, ◌++◌, ℕ, eqb, length}
use Rattle.refusals.specs.Rules.{Rule}
use Rattle.params.specs.declared.Parameters.{Parameters}
use Rattle.columns.specs.Choice.{Choice, Choice.whole_code, Choice.selection, all_places, all_columns, choice_rules}
use Rattle.shortened.specs.Marks.{sent_count, sent_of, mark_rules}

-- "A selection has marks of its own, one for each of its places, instead of its card's."
pub record Setting : Type 0 where
  pub choice : Choice
  pub hidden : List ℕ

-- the whole code or a selection, shortened at the hidden places
abbrev pub shortened : Choice → List ℕ → Setting
shortened choice hidden = record { choice = choice; hidden = hidden }

abbrev pub short_code : List ℕ → Setting
short_code hidden = shortened whole_code hidden

abbrev pub short_selection : List ℕ → List ℕ → List ℕ → Setting
short_selection blocks shifts hidden = shortened (selection blocks shifts) hidden

-- the length of a word: "words and messages shrink to match"
abbrev pub places : Setting → ℕ
places s = sent_count s.hidden

-- place j of a word is the j-th of these columns, which are those of the sent places
unfoldable pub columns_of : Parameters → Setting → List ℕ
columns_of c s = sent_of s.hidden (all_columns c s.choice)

-- "a mark for each place"
abbrev pub is_marked : Parameters → Setting → Bool
is_marked c s = eqb (length s.hidden) (all_places c s.choice)

-- The rules that come before those of the call itself: 1 to 7, and 14 and 15, then 20, which "is looked for after 15 and before 12 and 18". `words`
-- says that the words lent to the call have their length, and `others` that what is lent beside them has its, where the code alone tells it.
unfoldable pub setting_rules : Parameters → List ℕ → Setting → Bool → Bool → List Rule
setting_rules c h s others words =
    choice_rules c h s.choice others (is_marked c s) ++ mark_rules c h (all_columns c s.choice) s.hidden words
