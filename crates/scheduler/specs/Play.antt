-- Offers and rounds one after the other: the states that are reached from the start, and what a play brings a sender.
use Rattle.std.specs.Prelude.{◌≡◌, Bool, cond, List, [], ◌∷◌, ℕ, ◌+◌, eqb}
use Rattle.algebra.specs.Lists.{entry_of}
use Rattle.refusals.specs.Outcome.{Done}
use Rattle.params.specs.declared.Parameters.{Parameters}
use Rattle.shortened.specs.Setting.{Setting}
use Rattle.scheduler.specs.declared.Dash.{Dash}
use Rattle.scheduler.specs.State.{State, state_of}
use Rattle.scheduler.specs.Round.{none}
use Rattle.scheduler.specs.Answers.{start_answer, start_waiting, start_next, offer_waiting}
use Rattle.scheduler.specs.Answers.{offer_words, round_fault, waiting_after, next_after, answers_after}

-- the answer of a round, if it was made and brought one, and else what comes later
unfoldable pub first_of : Bool → ℕ → ℕ → ℕ
first_of made answer later = cond made (cond (eqb answer none) later answer) later

-- a call between two states: a word is offered, or a round is made with two buffers lent to it
pub data Event : Type 0 where
  offer : (sender : ℕ) (word : List ℕ) → Event
  round : (answers handed : List ℕ) → Event

module _ (c : Parameters) (h : List ℕ) (s : Setting) (d : Dash) where
  -- what the call leaves, refused or not
  unfoldable pub after : State → Event → State
  after σ (offer sender word) =
      state_of (offer_waiting c h s d sender word σ.waiting σ.words) (offer_words c h s d sender word σ.waiting σ.words) σ.next
  after σ (round answers handed) = state_of (waiting_after c h s d σ answers handed) σ.words (next_after c h s d σ answers handed)

  -- the states "reached from the start by offers and rounds"
  pub data Reached : State → Type 0 where
    started : (waiting words next : List ℕ) → start_answer c h s d waiting next ≡ Done
        → Reached (state_of (start_waiting c h s d waiting next) words (start_next c h s d waiting next))
    offered : (σ : State) (sender : ℕ) (word : List ℕ) → Reached σ → Reached (after σ (offer sender word))
    rounded : (σ : State) (answers handed : List ℕ) → Reached σ → Reached (after σ (round answers handed))

  -- ---- a play from a state on

  -- the rounds of a play that were not refused
  unfoldable pub rounds_made : State → List Event → ℕ
  rounds_made σ [] = 0
  rounds_made σ (offer sender word ∷ events) = rounds_made (after σ (offer sender word)) events
  rounds_made σ (round answers handed ∷ events) =
      cond (eqb (round_fault c h s d σ answers handed) 0) 1 0 + rounds_made (after σ (round answers handed)) events

  -- the first answer that a play brings sender p; `none` if it brings none
  unfoldable pub first_answer : ℕ → State → List Event → ℕ
  first_answer p σ [] = none
  first_answer p σ (offer sender word ∷ events) = first_answer p (after σ (offer sender word)) events
  first_answer p σ (round answers handed ∷ events) =
      first_of (eqb (round_fault c h s d σ answers handed) 0) (entry_of (answers_after c h s d σ answers handed) p)
      (first_answer p (after σ (round answers handed)) events)
