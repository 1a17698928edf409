-- A round, as a function of the state.
use Rattle.std.specs.Prelude.{Bool, cond, not, ◌&&◌, ◌||◌, List, [], ◌∷◌, ℕ, ◌^◌, length}
use Rattle.algebra.specs.Lists.{entry_of}
use Rattle.algebra.specs.Parts.{part, joined}
use Rattle.algebra.specs.Tabulate.{tabulate}
use Rattle.params.specs.declared.Parameters.{Parameters}
use Rattle.parity.specs.Word.{is_code_word}
use Rattle.repair.specs.Decoding.{word_answer, word_after}
use Rattle.turns.specs.Turns.{is_tried, next_turn}
use Rattle.wire.specs.Wire.{recovery_code}
use Rattle.scheduler.specs.declared.Dash.{Dash}
use Rattle.scheduler.specs.State.{State, waits, word_at, turn}

-- the answer where no word left: the pattern of INT32_MIN, which no answer of repair has
abbrev pub none : ℕ
none = 2 ^ 31

-- ---- for an accepted code and any list of its columns

module _ (c : Parameters) (h cols : List ℕ) (d : Dash) (σ : State) where
  abbrev n : ℕ
  n = length cols

  -- a waiting word that is a code word
  unfoldable pub is_whole : ℕ → Bool
  is_whole p = waits σ p && is_code_word c h cols (word_at n σ p)

  -- one of the others
  unfoldable pub is_other : ℕ → Bool
  is_other p = waits σ p && not (is_code_word c h cols (word_at n σ p))

  -- "Each round hands out every waiting word that is a code word, and repairs the first R of the others in turn": these no longer wait
  unfoldable pub leaves : ℕ → Bool
  leaves p = is_whole p || is_tried d.senders (turn σ) d.repairs is_other p

  -- "What a sender gets for a word is the answer that repair alone gives."
  unfoldable pub answer_at : ℕ → ℕ
  answer_at p = cond (leaves p) (recovery_code (word_answer c h cols (word_at n σ p))) none

  unfoldable pub waiting_at : ℕ → ℕ
  waiting_at p = cond (leaves p) 0 (entry_of σ.waiting p)

  -- and the word that repair alone leaves in a buffer, "a part with no word being unchanged"
  unfoldable pub handed_at : List ℕ → ℕ → List ℕ
  handed_at handed p = cond (leaves p) (word_after c h cols (word_at n σ p) (part n handed p)) (part n handed p)

  -- ---- the lists after the round

  unfoldable pub round_waiting : List ℕ
  round_waiting = tabulate d.senders waiting_at

  -- "Handing out a code word doesn't move the turn."
  unfoldable pub round_next : List ℕ
  round_next = next_turn d.senders (turn σ) d.repairs is_other ∷ []

  unfoldable pub round_answers : List ℕ
  round_answers = tabulate d.senders answer_at

  unfoldable pub round_handed : List ℕ → List ℕ
  round_handed handed = joined d.senders (handed_at handed)
