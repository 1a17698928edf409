-- What the parts of a round promise each other, by the senders' marks.
use Rattle.std.specs.Prelude.{◌≡◌, true, cond, List, [], ◌∷◌, ◌++◌, ℕ, ◌*◌, ◌<◌, ◌≤◌, eqb, length, set, replicate}
use Rattle.algebra.specs.Lists.{entry_of}
use Rattle.algebra.specs.Parts.{part, with_part, joined}
use Rattle.algebra.specs.Tabulate.{tabulate}
use Rattle.refusals.specs.Ending.{Ended}
use Rattle.refusals.specs.Outcome.{Outcome}
use Rattle.slices.specs.Bits.{IsBits}
use Rattle.params.specs.declared.Parameters.{Parameters}
use Rattle.parity.specs.Word.{is_code_word}
use Rattle.repair.specs.Decoding.{word_answer, word_after}
use Rattle.turns.specs.declared.Mark.{Mark}
use Rattle.turns.specs.declared.Mark.TheVariants.{Stays, CodeWord, Other}
use Rattle.turns.specs.Marks.{stays, mark_in, marks_after, turn_after_marks}
use Rattle.wire.specs.Wire.{recovery_code}
use Rattle.scheduler.specs.declared.Dash.{Dash}
use Rattle.scheduler.specs.State.{State, most_senders, dash_rules, offer_rules}
use Rattle.scheduler.specs.Round.{none, round_waiting, round_next, round_answers, round_handed}
use Rattle.scheduler.specs.Answers.{round_rules}

-- ---- the start and an offer

pub record StartEnded (d : Dash) (waiting next : List ℕ) (found : Outcome) (waiting' next' : List ℕ) : Type 0 where
  pub marks : Ended found (dash_rules d) waiting (replicate d.senders 0) waiting'
  pub turn : Ended found (dash_rules d) next (0 ∷ []) next'

pub record LentOffer (d : Dash) (word waiting words : List ℕ) : Type 0 where
  pub waiting_long : length waiting ≡ d.senders
  pub words_long : length words ≡ d.senders * length word

pub record OfferEnded (d : Dash) (sender : ℕ) (word waiting words : List ℕ) (found : Outcome) (waiting' words' : List ℕ) : Type 0 where
  pub marks : Ended found (dash_rules d ++ offer_rules d sender word waiting) waiting (set waiting sender 1) waiting'
  pub kept : Ended found (dash_rules d ++ offer_rules d sender word waiting) words (with_part (length word) words sender word) words'

-- ---- a round

-- a word of n places for each mark, of bits where the word waits
pub record Words (n : ℕ) (waiting words : List ℕ) : Type 0 where
  pub long : length words ≡ length waiting * n
  pub bits : (p : ℕ) → p < length waiting → entry_of waiting p ≡ 1 → IsBits n (part n words p)

module _ (c : Parameters) (h cols : List ℕ) where
  abbrev n : ℕ
  n = length cols

  unfoldable pub mark_of : ℕ → List ℕ → Mark
  mark_of wait word = cond (eqb wait 1) (cond (is_code_word c h cols word) CodeWord Other) Stays

  unfoldable pub answer_of : Mark → List ℕ → ℕ
  answer_of mark word = cond (stays mark) none (recovery_code (word_answer c h cols word))

  unfoldable pub handed_of : Mark → List ℕ → List ℕ → List ℕ
  handed_of mark word old = cond (stays mark) old (word_after c h cols word old)

  -- ---- for all senders

  abbrev pub mark_at : List ℕ → List ℕ → ℕ → Mark
  mark_at waiting words p = mark_of (entry_of waiting p) (part n words p)

  abbrev pub marks_of : List ℕ → List ℕ → List Mark
  marks_of waiting words = tabulate (length waiting) (mark_at waiting words)

  abbrev pub answers_of : List Mark → List ℕ → List ℕ
  answers_of marks words = tabulate (length marks) (λ p. answer_of (mark_in marks p) (part n words p))

  abbrev pub handed_parts : List Mark → List ℕ → List ℕ → List ℕ
  handed_parts marks words handed = joined (length marks) (λ p. handed_of (mark_in marks p) (part n words p) (part n handed p))

  -- what is lent to hand words out: those that are marked as code words are code words
  pub record LentHands (marks : List Mark) (words answers handed : List ℕ) : Type 0 where
    pub words_long : length words ≡ length marks * n
    pub answers_long : length answers ≡ length marks
    pub handed_long : length handed ≡ length marks * n
    pub checked : (p : ℕ) → p < length marks → mark_in marks p ≡ CodeWord
        → IsBits n (part n words p) × (is_code_word c h cols (part n words p) ≡ true)

-- whether each mark is left
abbrev pub waiting_of : List Mark → List ℕ → List ℕ
waiting_of marks waiting = tabulate (length waiting) (λ p. cond (stays (mark_in marks p)) (entry_of waiting p) 0)

-- lists for as many senders as there are marks, whose turn is one of theirs
pub record LentRound (n : ℕ) (σ : State) (marks : List Mark) (answers handed : List ℕ) : Type 0 where
  pub few : length σ.waiting ≤ most_senders
  pub words : Words n σ.waiting σ.words
  pub marks_long_lem : length marks ≡ length σ.waiting
  pub answers_long : length answers ≡ length σ.waiting
  pub handed_long : length handed ≡ length σ.waiting * n
  pub next_long : length σ.next ≡ 1
  pub turn_is : entry_of σ.next 0 < length σ.waiting

-- a round by its marks
pub record Made (c : Parameters) (h cols : List ℕ) (R : ℕ) (σ : State) (handed waiting' next' answers' handed' : List ℕ) : Type 0 where
  pub waiting_are : waiting' ≡ waiting_of (marks_after R (entry_of σ.next 0) (marks_of c h cols σ.waiting σ.words)) σ.waiting
  pub next_is : next' ≡ turn_after_marks R (entry_of σ.next 0) (marks_of c h cols σ.waiting σ.words) ∷ []
  pub answers_are :
      answers' ≡ answers_of c h cols (marks_after R (entry_of σ.next 0) (marks_of c h cols σ.waiting σ.words)) σ.words
  pub handed_are :
      handed' ≡ handed_parts c h cols (marks_after R (entry_of σ.next 0) (marks_of c h cols σ.waiting σ.words)) σ.words handed

-- the lengths of what is lent to a round
pub record LentState (d : Dash) (n : ℕ) (σ : State) (answers handed : List ℕ) : Type 0 where
  pub waiting_long : length σ.waiting ≡ d.senders
  pub words_long : length σ.words ≡ d.senders * n
  pub next_long : length σ.next ≡ 1
  pub answers_long : length answers ≡ d.senders
  pub handed_long : length handed ≡ d.senders * n

pub record RoundEnded (c : Parameters) (h cols : List ℕ) (d : Dash) (σ : State) (answers handed : List ℕ) (found : Outcome)
    (waiting' next' answers' handed' : List ℕ) : Type 0 where
  pub waiting_end : Ended found (round_rules d σ cols) σ.waiting (round_waiting c h cols d σ) waiting'
  pub next_end : Ended found (round_rules d σ cols) σ.next (round_next c h cols d σ) next'
  pub answers_end : Ended found (round_rules d σ cols) answers (round_answers c h cols d σ) answers'
  pub handed_end : Ended found (round_rules d σ cols) handed (round_handed c h cols d σ handed) handed'
