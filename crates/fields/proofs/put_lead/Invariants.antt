-- `put_lead` meets its contract. The loop's invariant: the bytes passed are stored, and the others are to hold `rest`.
use Rattle.fields.specs.Fields.{lead_text}
use Rattle.fields.proofs.Printing.{Printing}
use Rattle.fields.proofs.put_lead.Given as goal

abbrev pub invariant-loop-i : goal.invariant-loop-i
invariant-loop-i l = Printing (lead_text l.count l.value) l.at l.initial.out l.out l.i l.rest
