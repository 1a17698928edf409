-- `no_zero` meets its contract: zero is looked for among the entries.
use mathlib.Core.Path.{◌≡◌, sym, ap}
use mathlib.Core.Bool.{Bool, true, false, not}
use mathlib.Core.List.{List}
use Prim.Native.Nat.{ℕ}
use native.Mathlib.Omega.{arith}
use lib.Dec.{eqb}
use lib.ListN.{length}
use Rattle.std.specs.List.{IsAnyAnswer}
use Rattle.algebra.specs.AllLaws.{all_true, all-false}
use Rattle.signature.specs.Tests.{no_zero, nonzero}
use Rattle.signature.proofs.no_zero.Goals as goal

zero_among : (h : List ℕ) (r : Bool) → IsAnyAnswer (λ y b. eqb y 0 ≡ b) h r → not r ≡ no_zero h
unfolding no_zero nonzero
zero_among h true (k, l, found) = sym (all-false (length h) (nonzero h) k l (ap not (found 0)))
zero_among h false each = sym (all_true (length h) (nonzero h) (λ k l. ap not (each k 0 (omega arith) l)))

pub returns : goal.returns
returns c = zero_among c.args.h.now c.contains.result c.contains.ensures.cases
