-- `store_inverses` meets its contract: it fills the buffer with the sums of choices.
use mathlib.Core.Path.{◌≡◌}
use Prim.Native.Nat.{ℕ, ◌+◌}
use lib.ListN.{length}
use Rattle.algebra.specs.Filling.{Filling}
use Rattle.essence.specs.Choices.{choice_sum}
use Rattle.essence.proofs.store_inverses.Given as goal

abbrev pub invariant-loop-i : goal.invariant-loop-i
invariant-loop-i l =
    (l.n ≡ length l.initial.inverses) × ((m : ℕ) → Filling (λ j. choice_sum m l.essence (l.n + j)) l.n l.initial.inverses l.inverses l.i)
