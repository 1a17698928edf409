-- `is_affine` meets its contract. The loops' invariants: the rule holds at every pair passed, in the rows before i and in row i before j.
use mathlib.Core.Path.{◌≡◌}
use mathlib.Core.Bool.{true}
use Rattle.algebra.specs.All.{all}
use Rattle.algebra.specs.Scanning.{Scanning}
use Rattle.algebra.specs.Xor.{◌⊕◌}
use Rattle.signature.specs.Tests.{pair_kept}
use Rattle.algebra.specs.Lists.{entry_of}
use Rattle.signature.proofs.is_affine.Given as goal

abbrev pub invariant-loop-j : goal.invariant-loop-j
invariant-loop-j l =
    (l.kept ≡ true) × (l.sum ≡ entry_of l.inverses l.i ⊕ entry_of l.inverses 0) × Scanning l.n (pair_kept (entry_of l.inverses) l.i) l.j

abbrev pub invariant-scan : goal.invariant-scan
invariant-scan l = (l.kept ≡ true) × Scanning l.n (λ k. all l.n (pair_kept (entry_of l.inverses) k)) l.i
