-- `print` is safe: what was stored is in the buffer.
use Rattle.std.proofs.Common.{sym, ◌∙◌, ◌≤◌, length, arith}
use lib.Seq.{length-take-le}
use Rattle.listing.specs.Answers.{printed_text, printed_answer}
use Rattle.listing.specs.Laws.{stored_fits}
use Rattle.sheet.proofs.print.Goals as goal

pub slice_bounds-write_all-end : goal.slice_bounds-write_all-end
unfolding printed_answer
slice_bounds-write_all-end g c =
    let call = c.printed in
    omega (arith, stored_fits (printed_text c.args.text.now) c.args.out.now _ (sym call.ensures.value ∙ c.in-Ok.is), call.auto)

pub slice_bounds-write_all-end-in-Ok : goal.slice_bounds-write_all-end-in-Ok
unfolding printed_answer
slice_bounds-write_all-end-in-Ok g c =
    let call = c.printed in
    let end = c.in-Ok.length in
    let stored = stored_fits (printed_text c.args.text.now) c.args.out.now end (sym call.ensures.value ∙ c.in-Ok.is) in
    let fits : end ≤ length call.new.out = omega (arith, call.auto) in
    sym (length-take-le end call.new.out fits)
