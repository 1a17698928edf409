-- `sheet_listing` meets its contract.
use mathlib.Core.Path.{sym, ap, ◌∙◌}
use mathlib.Core.List.{List}
use Prim.Native.Nat.{ℕ, ◌≤◌, ◌<◌}
use native.Mathlib.Omega.{arith}
use lib.ListN.{length}
use Rattle.fields.specs.Over.{over}
use Rattle.sheets.specs.Laws.{sheet_is}
use Rattle.sheets.specs.Reading.{sheet_long}
use Rattle.sheets.proofs.Held.{n_small, n_is, code_held}
use Rattle.listing.specs.Answers.{sheet_listing}
use Rattle.listing.specs.Laws.{stored_short, stored_done}
use Rattle.listing.proofs.Sheets.{listing_on_sheet, length_sheet_listing}
use Rattle.listing.proofs.sheet_listing.Goals as goal

pub parameters_of-c-requires : goal.parameters_of-c-requires
parameters_of-c-requires c =
    let text = c.args.text.now in
    omega (arith, sheet_long text (sheet_is text c.requires.none))

pub returns-then-out-length : goal.returns-then-out-length
returns-then-out-length c =
    let a = c.args in
    let text = a.text.now in
    let long = length_sheet_listing text c.parameters_of-c.ensures in
    let short : length a.out.now < length (sheet_listing text) = omega (arith, long) in
    let ended = stored_short (sheet_listing text) a.out.now short in
    record { value = ended.0; out_after = ended.1 }

pub write_listing-requires : goal.write_listing-requires
write_listing-requires c =
    let (A, I) = code_held c.args.text.now c.parameters_of-c.ensures c.requires in (A, I, omega arith)

pub overflow_cast-result : goal.overflow_cast-result
overflow_cast-result c =
    let text = c.args.text.now in
    omega (arith, n_small text (sheet_is text c.requires.none) (n_is text c.parameters_of-c.ensures))

pub returns : goal.returns
returns c =
    let text = c.args.text.now in
    let out = c.args.out.now in
    let e = c.parameters_of-c.ensures in
    let long = length_sheet_listing text e in
    let fits : length (sheet_listing text) ≤ length out = omega (arith, long) in
    let ended = stored_done (sheet_listing text) out fits (sym long)
    (c.write_listing.ensures ∙ ap (λ (l : List ℕ). over l out) (listing_on_sheet text e c.args.h.now c.requires.signature)) in
    record { value = ended.0; out_after = ended.1 }
