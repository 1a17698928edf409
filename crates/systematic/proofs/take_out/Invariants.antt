-- `take_out` meets its contract. The loop's invariant: the message begins with the entries at the free places passed, `taken` of them, and the rest
-- of it is as it was.
use lib.ListN.{length}
use Rattle.algebra.specs.Choosing.{Choosing}
use Rattle.algebra.specs.Lists.{entry_of}
use Rattle.basis.specs.Table.{free_at}
use Rattle.systematic.proofs.take_out.Given as goal

abbrev pub invariant-loop-entry : goal.invariant-loop-entry
invariant-loop-entry l =
    Choosing (free_at l.leads) (entry_of l.word) (length l.word) l.initial.message l.message l.taken (length l.yielded)
