-- Round robin, for S senders numbered from 0: who is tried in a round, and whose turn it is afterwards.
use Rattle.std.specs.Prelude.{Bool, cond, ◌&&◌, ℕ, zero, suc, ◌+◌, ◌-◌, ◌%◌, ltb}
use Rattle.algebra.specs.Places.{count}

-- where it is the turn of sender `next`
module _ (S next : ℕ) where
  -- "Turns go up by sender's number and round again": the sender of turn i, `next` being that of turn 0
  unfoldable pub sender_at : ℕ → ℕ
  sender_at i = (next + i) % S

  -- the turn of sender p
  unfoldable pub turn_of : ℕ → ℕ
  turn_of p = (p + (S - next)) % S

  -- the senders with a word that has to be repaired, as `other` tells them, that have a turn before turn i
  unfoldable pub others_before : (ℕ → Bool) → ℕ → ℕ
  others_before other i = count i (λ j. other (sender_at j))

  -- where a round makes R repairs
  module _ (R : ℕ) (other : ℕ → Bool) where
    -- a round "repairs the first R of the others in turn, … or all of them if fewer wait"
    unfoldable pub is_tried : ℕ → Bool
    is_tried p = other p && ltb (others_before other (turn_of p)) R

    -- whose turn it is after the first i turns: that of the sender after the one last tried
    unfoldable pub turn_after : ℕ → ℕ
    turn_after zero = next
    turn_after (suc i) = cond (is_tried (sender_at i)) (sender_at (suc i)) (turn_after i)

    unfoldable pub next_turn : ℕ
    next_turn = turn_after S
