-- `roles` meets its contract. The loop's invariant: the places passed have their roles, and the rest is as it was.
use lib.ListN.{length}
use Rattle.algebra.specs.Filling.{Filling}
use Rattle.systematic.proofs.Places.{at_free}
use Rattle.systematic.proofs.roles.Given as goal

abbrev pub invariant-loop-p : goal.invariant-loop-p
invariant-loop-p l = Filling (at_free l.leads (λ q. 1)) (length l.initial.out) l.initial.out l.out l.p
