-- `read_signature` meets its contract.
use mathlib.Core.Path.{sym, ap, ◌∙◌}
use Prim.Native.Nat.{◌≤◌}
use native.Mathlib.Omega.{arith}
use lib.ListN.{length}
use lib.Seq.{length-take-le}
use Rattle.fields.specs.Fields.{is_line}
use Rattle.sheets.specs.Sheet.{second}
use Rattle.sheets.specs.Reading.{sheet_long, sheet_second}
use Rattle.sheets.proofs.Held.{n_small, signature_read}
use Rattle.sheets.proofs.read_signature.Goals as goal

pub value_at-n-requires : goal.value_at-n-requires
value_at-n-requires c = omega (arith, sheet_long c.args.text.now c.requires.0)

pub slice_bounds-read_line-end : goal.slice_bounds-read_line-end
slice_bounds-read_line-end c =
    omega (arith, n_small c.args.text.now c.requires.0 c.value_at-n.ensures)

pub slice_bounds-read_line-end-2 : goal.slice_bounds-read_line-end-2
slice_bounds-read_line-end-2 c =
    let n = c.value_at-n.result in
    let fits : n ≤ length c.args.h.now = omega (arith, n_small c.args.text.now c.requires.0 c.value_at-n.ensures) in
    sym (length-take-le n c.args.h.now fits)

pub read_line-requires : goal.read_line-requires
read_line-requires c =
    let text = c.args.text.now in
    let n = c.value_at-n.result in
    let fits : n ≤ length c.args.h.now = omega (arith, n_small text c.requires.0 c.value_at-n.ensures) in
    let long = length-take-le n c.args.h.now fits in (
      omega (arith, sheet_long text c.requires.0, c.value_at-n.ensures),
      ap (is_line text second) (long ∙ c.value_at-n.ensures) ∙ sheet_second text c.requires.0,
    )

pub returns : goal.returns
returns c =
    let text = c.args.text.now in
    let v = c.value_at-n in
    signature_read text c.args.h.now _ v.result v.ensures (omega (arith, n_small text c.requires.0 v.ensures))
    c.read_line.ensures
