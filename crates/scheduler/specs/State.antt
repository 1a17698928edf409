-- What a dash keeps between rounds, and what is asked of it.
use Rattle.std.specs.Prelude.{Bool, not, ◌&&◌, ◌||◌, List, [], ◌∷◌, ℕ, eqb, leb, ltb}
use Rattle.algebra.specs.All.{all}
use Rattle.algebra.specs.Lists.{entry_of}
use Rattle.algebra.specs.Parts.{part}
use Rattle.refusals.specs.Rules.{Rule, ◌unless◌}
use Rattle.slices.specs.Bits.{all_bits}
use Rattle.scheduler.specs.declared.Dash.{Dash}

-- "S senders, 1 to 8"
abbrev pub most_senders : ℕ
most_senders = 8

-- "R from 1 to 8"
abbrev pub most_repairs : ℕ
most_repairs = 8

-- C hands over the two numbers one by one
abbrev pub dash : ℕ → ℕ → Dash
dash senders repairs = record { senders = senders; repairs = repairs }

-- The three lists that the caller keeps: a mark for each sender, 1 where it has a word waiting; the senders' words, one after the other; and a single
-- number, the sender whose turn it is.
pub record State : Type 0 where
  pub waiting : List ℕ
  pub words : List ℕ
  pub next : List ℕ

abbrev pub state_of : List ℕ → List ℕ → List ℕ → State
state_of waiting words next = record { waiting = waiting; words = words; next = next }

-- whether sender p has a word waiting
abbrev pub waits : State → ℕ → Bool
waits σ p = eqb (entry_of σ.waiting p) 1

-- its word, of n places
abbrev pub word_at : ℕ → State → ℕ → List ℕ
word_at n σ p = part n σ.words p

-- the sender whose turn it is
abbrev pub turn : State → ℕ
turn σ = entry_of σ.next 0

-- ---- what refuses a call

-- of the first S marks and words of n places, each word that waits is of bits
unfoldable pub all_words : ℕ → List ℕ → List ℕ → ℕ → Bool
all_words n waiting words S = all S (λ p. not (eqb (entry_of waiting p) 1) || all_bits (part n words p))

-- 18, 01's "sender": "S, R or a sender's number out of range"
unfoldable pub dash_rules : Dash → List Rule
dash_rules d =
    (18 unless (leb 1 d.senders && leb d.senders most_senders)) ∷ (18 unless (leb 1 d.repairs && leb d.repairs most_repairs)) ∷ []

-- then 19, 01's "waiting": "a word offered while that sender has one", and 8
unfoldable pub offer_rules : Dash → ℕ → List ℕ → List ℕ → List Rule
offer_rules d sender word waiting =
    (18 unless ltb sender d.senders) ∷ (19 unless eqb (entry_of waiting sender) 0) ∷ (8 unless all_bits word) ∷ []

-- of a round, whose state may be any: 18 for whose turn it is, and 8 for the marks and for the words that wait
unfoldable pub state_rules : Dash → ℕ → State → List Rule
state_rules d n σ =
    (18 unless ltb (turn σ) d.senders) ∷ (8 unless all_bits σ.waiting) ∷ (8 unless all_words n σ.waiting σ.words d.senders) ∷ []
