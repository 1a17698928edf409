-- `put_lead` meets its contract. The loop's invariant: the bytes passed are stored, and the others are to hold `rest`.
use native.Mathlib.Omega.{arith}
use Rattle.fields.proofs.Printing.{printing_start, printing_turn, printing_end}
use Rattle.fields.proofs.put_lead.Goals as goal

pub loop-i-init : goal.loop-i-init
loop-i-init c = printing_start c.args.count c.args.value c.args.at c.args.out.now

pub loop-i-preserved : goal.loop-i-preserved
loop-i-preserved c = printing_turn c.loop-i.invariant (omega arith) c.lead_byte.ensures

pub returns : goal.returns
returns c = printing_end c.loop-i.invariant (omega arith)
