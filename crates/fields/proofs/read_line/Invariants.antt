-- `read_line` meets its contract. The loop's invariant: what is passed is stored, and the rest is as it was.
use Prim.Native.Nat.{◌+◌, ◌*◌}
use lib.ListN.{length}
use Rattle.algebra.specs.Filling.{Filling}
use Rattle.fields.specs.Fields.{field_width, number_at}
use Rattle.fields.proofs.read_line.Given as goal

abbrev pub invariant-loop-i : goal.invariant-loop-i
invariant-loop-i l = Filling (λ k. number_at l.text (l.at + k * field_width)) (length l.initial.numbers) l.initial.numbers l.numbers l.i
