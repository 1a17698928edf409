-- `forced` meets its contract. The loop's invariant: `sum` is what row p says of the places passed, from p + 1 on.
use mathlib.Core.Path.{◌≡◌}
use lib.ListN.{length}
use Rattle.systematic.proofs.Places.{Forcing}
use Rattle.systematic.proofs.forced.Given as goal

abbrev pub invariant-loop-j : goal.invariant-loop-j
invariant-loop-j l = (l.j-end ≡ length l.word) × Forcing l.rows l.word l.p l.sum l.j
