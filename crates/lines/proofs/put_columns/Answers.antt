-- `put_columns` meets its contract. The loop's invariant: the lines of the columns passed are printed.
use mathlib.Core.Path.{refl, sym, ap, ◌∙◌}
use Prim.Native.Nat.{ℕ, ◌+◌}
use native.Mathlib.Omega.{arith}
use lib.ListN.{length}
use Rattle.fields.proofs.Printing.{joining_start, joining_turn}
use Rattle.lines.specs.Lengths.{length_columns}
use Rattle.lines.specs.Listing.{column_line}
use Rattle.lines.proofs.put_columns.Goals as goal

pub loop-j-init : goal.loop-j-init
loop-j-init c =
    let a = c.args in
    (refl, omega arith, joining_start (column_line a.columns.now.h.now a.columns.now.support.now a.columns.now.roles.now) (length a.columns.now.h.now) a.at a.out.now)

pub loop-j-preserved : goal.loop-j-preserved
loop-j-preserved c =
    let a = c.args in
    let l = c.loop-j in
    let call = c.put_column-next in (
      refl,
      omega (arith, call.ensures.value),
      joining_turn l.invariant.2 (omega arith)
          (l.invariant.1 ∙ ap (λ (k : ℕ). a.at + k) (sym (length_columns a.columns.now.h.now a.columns.now.support.now a.columns.now.roles.now l.j))) call.ensures.out_after,
    )
