-- `named_once` meets its contract: it marks each block that it meets, so a block that is marked already is named twice.
use Rattle.columns.proofs.Naming.{Naming}
use Rattle.columns.proofs.named_once.Given as goal

abbrev pub invariant-loop-number : goal.invariant-loop-number
invariant-loop-number l = Naming l.blocks l.named l.number-index
