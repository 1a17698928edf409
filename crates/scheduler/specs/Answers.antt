-- What the calls of a dash with several senders answer, and what they leave in the lent buffers, for every input.
use Rattle.std.specs.Prelude.{Bool, true, ◌&&◌, List, [], ◌∷◌, ◌++◌, ℕ, ◌*◌, eqb, length, set, replicate}
use Rattle.algebra.specs.Parts.{with_part}
use Rattle.refusals.specs.Rules.{Rule, fault, unless_refused}
use Rattle.refusals.specs.Outcome.{Outcome}
use Rattle.refusals.specs.Outcome.{Done, Refused}
use Rattle.params.specs.declared.Parameters.{Parameters}
use Rattle.shortened.specs.Setting.{Setting, places, columns_of, setting_rules}
use Rattle.scheduler.specs.declared.Dash.{Dash}
use Rattle.scheduler.specs.State.{State, dash_rules, offer_rules, state_rules}
use Rattle.scheduler.specs.Round.{round_waiting, round_next, round_answers, round_handed}

-- ---- the start

-- a mark for each sender, and one number
unfoldable pub start_lengths : Dash → List ℕ → List ℕ → Bool
start_lengths d waiting next = eqb (length waiting) d.senders && eqb (length next) 1

module _ (c : Parameters) (h : List ℕ) (s : Setting) (d : Dash) (waiting next : List ℕ) where
  unfoldable pub start_fault : ℕ
  start_fault = fault (setting_rules c h s (start_lengths d waiting next) true ++ dash_rules d)

  unfoldable pub start_answer : Outcome
  start_answer = unless_refused start_fault Refused Done

  -- no word waits
  unfoldable pub start_waiting : List ℕ
  start_waiting = unless_refused start_fault (λ k. waiting) (replicate d.senders 0)

  -- turns begin "at 0 the first time"
  unfoldable pub start_next : List ℕ
  start_next = unless_refused start_fault (λ k. next) (0 ∷ [])

-- ---- an offer

-- a word of n places, and room for one of each sender
unfoldable pub offer_lengths : Dash → List ℕ → List ℕ → ℕ → Bool
offer_lengths d word words n = eqb (length word) n && eqb (length words) (d.senders * n)

module _ (c : Parameters) (h : List ℕ) (s : Setting) (d : Dash) (sender : ℕ) (word waiting words : List ℕ) where
  unfoldable pub offer_fault : ℕ
  offer_fault =
      fault (setting_rules c h s (eqb (length waiting) d.senders) (offer_lengths d word words (places s))
      ++ (dash_rules d ++ offer_rules d sender word waiting))

  unfoldable pub offer_answer : Outcome
  offer_answer = unless_refused offer_fault Refused Done

  unfoldable pub offer_waiting : List ℕ
  offer_waiting = unless_refused offer_fault (λ k. waiting) (set waiting sender 1)

  unfoldable pub offer_words : List ℕ
  offer_words = unless_refused offer_fault (λ k. words) (with_part (places s) words sender word)

-- ---- a round

unfoldable pub round_lengths : Dash → State → List ℕ → Bool
round_lengths d σ answers = eqb (length σ.waiting) d.senders && eqb (length σ.next) 1 && eqb (length answers) d.senders

unfoldable pub round_words : Dash → State → List ℕ → ℕ → Bool
round_words d σ handed n = eqb (length σ.words) (d.senders * n) && eqb (length handed) (d.senders * n)

-- the rules for an accepted code and any list of its columns
abbrev pub round_rules : Dash → State → List ℕ → List Rule
round_rules d σ cols = dash_rules d ++ state_rules d (length cols) σ

module _ (c : Parameters) (h : List ℕ) (s : Setting) (d : Dash) (σ : State) (answers handed : List ℕ) where
  unfoldable pub round_fault : ℕ
  round_fault =
      fault (setting_rules c h s (round_lengths d σ answers) (round_words d σ handed (places s)) ++ round_rules d σ (columns_of c s))

  unfoldable pub round_answer : Outcome
  round_answer = unless_refused round_fault Refused Done

  unfoldable pub waiting_after : List ℕ
  waiting_after = unless_refused round_fault (λ k. σ.waiting) (round_waiting c h (columns_of c s) d σ)

  unfoldable pub next_after : List ℕ
  next_after = unless_refused round_fault (λ k. σ.next) (round_next c h (columns_of c s) d σ)

  unfoldable pub answers_after : List ℕ
  answers_after = unless_refused round_fault (λ k. answers) (round_answers c h (columns_of c s) d σ)

  unfoldable pub handed_after : List ℕ
  handed_after = unless_refused round_fault (λ k. handed) (round_handed c h (columns_of c s) d σ handed)
