-- `put_line` meets its contract. The loop's invariant: the numbers passed are printed.
use lib.ListN.{length}
use Rattle.fields.specs.Fields.{field_text}
use Rattle.fields.proofs.Printing.{Joining}
use Rattle.fields.proofs.put_line.Given as goal

abbrev pub invariant-loop-i : goal.invariant-loop-i
invariant-loop-i l = Joining (field_text l.numbers) (length l.numbers) l.at l.initial.out l.out l.i
