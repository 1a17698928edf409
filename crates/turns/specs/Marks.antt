-- The marks that tell what a round does with each sender's word, before and after those that are tried were chosen.
use Rattle.std.specs.Prelude.{Bool, true, false, cond, not, ◌&&◌, List, ℕ, length, get_or}
use Rattle.algebra.specs.Tabulate.{tabulate}
use Rattle.turns.specs.Turns.{is_tried, next_turn}
use Rattle.turns.specs.declared.Mark.{Mark}
use Rattle.turns.specs.declared.Mark.TheVariants.{Stays, CodeWord, Other}

abbrev pub stays : Mark → Bool
stays Stays = true
stays CodeWord = false
stays Other = false

abbrev pub tries : Mark → Bool
tries Stays = false
tries CodeWord = false
tries Other = true

-- a list of marks as an index function
abbrev pub mark_in : List Mark → ℕ → Mark
mark_in marks p = get_or marks p Stays

abbrev pub is_other : List Mark → ℕ → Bool
is_other marks p = tries (mark_in marks p)

module _ (R next : ℕ) (marks : List Mark) where
  -- an other that is not tried stays
  unfoldable pub mark_after : ℕ → Mark
  mark_after p = cond (is_other marks p && not (is_tried (length marks) next R (is_other marks) p)) Stays (mark_in marks p)

  unfoldable pub marks_after : List Mark
  marks_after = tabulate (length marks) mark_after

  abbrev pub turn_after_marks : ℕ
  turn_after_marks = next_turn (length marks) next R (is_other marks)
