-- `write_listing` meets its contract: its columns are the whole code's.
use mathlib.Core.Path.{◌≡◌, sym, ap, ◌∙◌}
use mathlib.Core.List.{List}
use Prim.Native.Nat.{ℕ, ◌≤◌}
use lib.ListN.{length, take}
use Rattle.slices.specs.Lengths.{longest}
use Rattle.slices.proofs.Room.{zeros, length_lent}
use Rattle.params.proofs.Accepted.{n_short}
use Rattle.parity.proofs.OfCode.{accepted_code}
use Rattle.parity.specs.Selected.{on_whole}
use Rattle.parity.specs.Word.{whole}
use Rattle.lines.proofs.write_listing.Goals as goal

-- columns that were numbered at the front of the room
numbered : {n : ℕ} {cols : List ℕ} → n ≤ longest → cols ≡ whole (length (take n zeros)) → cols ≡ whole n
numbered short is = is ∙ ap whole (length_lent short)

pub slice_bounds-columns-end : goal.slice_bounds-columns-end
slice_bounds-columns-end c = n_short c.requires.0.limits

pub slice_bounds-cols-end : goal.slice_bounds-cols-end
slice_bounds-cols-end c = sym (length_lent (n_short c.requires.0.limits))

pub invariant_of-code : goal.invariant_of-code
invariant_of-code c =
    let O = on_whole c.args.c (numbered (n_short c.requires.0.limits) c.number_columns.ensures) c.requires.0 in
    record { accepted = accepted_code O.accepted; inverted = c.requires.1; selected = O.selected }

pub slice_bounds-support-end : goal.slice_bounds-support-end
slice_bounds-support-end c = n_short c.requires.0.limits

pub slice_bounds-compute_lines-end : goal.slice_bounds-compute_lines-end
slice_bounds-compute_lines-end c = sym (length_lent (n_short c.requires.0.limits))

pub slice_bounds-roles-end : goal.slice_bounds-roles-end
slice_bounds-roles-end c = n_short c.requires.0.limits

pub slice_bounds-compute_lines-end-2 : goal.slice_bounds-compute_lines-end-2
slice_bounds-compute_lines-end-2 c = sym (length_lent (n_short c.requires.0.limits))

pub compute_lines-requires : goal.compute_lines-requires
compute_lines-requires c =
    let long = length_lent (n_short c.requires.0.limits) in
    record {
      whole_code = (numbered (n_short c.requires.0.limits) c.number_columns.ensures, c.requires.2);
      support_len = (long, long);
    }
