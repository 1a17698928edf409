-- `number_line` meets its contract.
use mathlib.Core.Path.{sym, ◌∙◌}
use mathlib.Core.List.{[], ◌∷◌}
use Prim.Native.Nat.{◌≤◌, ◌<◌}
use native.Mathlib.Omega.{arith}
use lib.ListN.{length}
use Rattle.fields.specs.Fields.{line_text}
use Rattle.fields.specs.Reading.{length_line}
use Rattle.fields.specs.Written.{written_over}
use Rattle.listing.specs.Laws.{stored_short, stored_done}
use Rattle.listing.proofs.number_line.Goals as goal

pub returns-then-out : goal.returns-then-out
returns-then-out c =
    let a = c.args in
    let line = line_text (a.number ∷ []) in
    let short : length a.out.now < length line = omega (arith, length_line (a.number ∷ [])) in
    let ended = stored_short line a.out.now short in
    record { value = ended.0; out_after = ended.1 }

pub returns : goal.returns
returns c =
    let a = c.args in
    let line = line_text (a.number ∷ []) in
    let e = c.put_line.ensures in
    let fits : length line ≤ length a.out.now = omega (arith, length_line (a.number ∷ [])) in
    let ended = stored_done line a.out.now fits (e.value ∙ sym (length_line (a.number ∷ []))) (e.out_after ∙ written_over line a.out.now fits) in
    record { value = ended.0; out_after = ended.1 }
