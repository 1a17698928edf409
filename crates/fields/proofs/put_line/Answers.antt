-- `put_line` meets its contract. The loop's invariant: the numbers passed are printed.
use mathlib.Core.Path.{sym, ap}
use Prim.Native.Nat.{ℕ, ◌+◌}
use native.Mathlib.Omega.{arith}
use Rattle.fields.specs.Reading.{length_fields}
use Rattle.fields.proofs.Printing.{joining_start, joining_turn, joining_end, line_written}
use Rattle.fields.proofs.put_line.Goals as goal

pub loop-i-init : goal.loop-i-init
loop-i-init c = joining_start _ _ c.args.at c.args.out.now

pub loop-i-preserved : goal.loop-i-preserved
loop-i-preserved c =
    let a = c.args in
    let l = c.loop-i in
    joining_turn l.invariant (omega arith) (ap (λ (k : ℕ). a.at + k) (sym (length_fields a.numbers.now l.i))) c.put_number.ensures

pub returns-clause-out_after : goal.returns-clause-out_after
returns-clause-out_after c =
    let a = c.args in
    line_written a.numbers.now a.at a.out.now _ (joining_end c.loop-i.invariant (omega arith))
