-- `value_at` meets its contract.
use Prim.Native.Nat.{◌+◌}
use Rattle.algebra.specs.Lists.{entry_of}
use Rattle.fields.proofs.Values.{Value}
use Rattle.fields.proofs.value_at.Given as goal

abbrev pub invariant-loop-byte : goal.invariant-loop-byte
invariant-loop-byte l = Value (λ k. entry_of l.text (l.at + k)) l.v l.byte-index
