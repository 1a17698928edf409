-- `candidate` meets its contract: the parts that it lends have the lengths that are asked for.
use mathlib.Core.Path.{sym}
use mathlib.Core.List.{List}
use Prim.Native.Nat.{ℕ}
use native.Mathlib.Omega.{arith}
use lib.ListN.{replicate}
use lib.Seq.{length-take-le}
use Rattle.slices.specs.Lengths.{longest}
use Rattle.params.proofs.Accepted.{n_short}
use Rattle.parity.proofs.OfCode.{on_columns}
use Rattle.nearest.proofs.Decoding.{roots_short}
use Rattle.nearest.proofs.candidate.Goals as goal

-- what the arrays hold at first
abbrev zeros : List ℕ
zeros = replicate longest 0

pub slice_bounds-roots-end : goal.slice_bounds-roots-end
slice_bounds-roots-end c = omega (arith, roots_short (on_columns c.args.code.now))

pub slice_bounds-find_candidate-end : goal.slice_bounds-find_candidate-end
slice_bounds-find_candidate-end c =
    sym (length-take-le c.args.code.now.c.t zeros
    (roots_short (on_columns c.args.code.now)))

pub slice_bounds-support-end : goal.slice_bounds-support-end
slice_bounds-support-end c =
    omega (arith, n_short (on_columns c.args.code.now).accepted.limits)

pub slice_bounds-find_candidate-end-2 : goal.slice_bounds-find_candidate-end-2
slice_bounds-find_candidate-end-2 c =
    sym (length-take-le c.args.code.now.c.n zeros
    (n_short (on_columns c.args.code.now).accepted.limits))

pub slice_bounds-syndrome-end : goal.slice_bounds-syndrome-end
slice_bounds-syndrome-end c = omega (arith, roots_short (on_columns c.args.code.now))

pub slice_bounds-find_candidate-end-3 : goal.slice_bounds-find_candidate-end-3
slice_bounds-find_candidate-end-3 c =
    sym (length-take-le c.args.code.now.c.t zeros
    (roots_short (on_columns c.args.code.now)))

pub find_candidate-requires : goal.find_candidate-requires
find_candidate-requires c =
    let O = on_columns c.args.code.now in
    let t_long = length-take-le c.args.code.now.c.t zeros (roots_short O) in
    record {
      received = c.requires;
      roots_len = (t_long, length-take-le c.args.code.now.c.n zeros (n_short O.accepted.limits), t_long);
    }
