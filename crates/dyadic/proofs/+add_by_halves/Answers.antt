-- `add_by_halves` meets its contract. Between its steps the factors and the buffer are at the stages of Stages.antt, one after each call.
use Prim.Native.Nat.{ℕ, ◌+◌, ◌*◌, ◌^◌, ◌≤◌}
use native.Mathlib.Omega.{arith}
use Rattle.slices.specs.Lengths.{longest_log}
use Rattle.dyadic.specs.CountLaws.{counted_one}
use Rattle.dyadic.proofs.Halving.{parts_length}
use Rattle.dyadic.proofs.Stages as stages
use Rattle.dyadic.proofs.Stages.{low_called, high_called}
use Rattle.dyadic.proofs.+add_by_halves.Goals as goal
use Rattle.dyadic.proofs.+add_by_halves.Goals.{After-fold_both-2}

pub returns-then-a-eq1-clause-counted : goal.returns-then-a-eq1-clause-counted
returns-then-a-eq1-clause-counted t c = counted_one c.if-a-eq1.true c.add_single.ensures.value

-- ---- what the calls ask

pub fold-requires : goal.fold-requires
fold-requires t c = parts_length (stages.start c.requires c.if-a-eq1.false).of_out

pub add_by_halves-first-requires : goal.add_by_halves-first-requires
add_by_halves-first-requires t c =
    low_called (stages.shape c.requires c.if-a-eq1.false) (stages.opened c.requires c.if-a-eq1.false c.fold.ensures) c.decreases

pub add_by_halves-second-requires : goal.add_by_halves-second-requires
add_by_halves-second-requires t c =
    high_called (stages.shape c.requires c.if-a-eq1.false)
    (stages.first_added c.requires c.if-a-eq1.false c.fold.ensures c.add_by_halves-first.ensures) c.decreases

pub fold-requires-2 : goal.fold-requires-2
fold-requires-2 t c =
    parts_length
    (stages.second_added c.requires c.if-a-eq1.false c.fold.ensures c.add_by_halves-first.ensures c.add_by_halves-second.ensures).of_out

pub fold_both-requires : goal.fold_both-requires
fold_both-requires t c =
    let S = stages.closed c.requires c.if-a-eq1.false c.fold.ensures c.add_by_halves-first.ensures c.add_by_halves-second.ensures
    c.fold-2.ensures in
    (parts_length S.of_a.parts, parts_length S.of_b.parts)

pub add_by_halves-third-requires : goal.add_by_halves-third-requires
add_by_halves-third-requires t c =
    low_called (stages.shape c.requires c.if-a-eq1.false)
    (stages.summed c.requires c.if-a-eq1.false c.fold.ensures c.add_by_halves-first.ensures c.add_by_halves-second.ensures
    c.fold-2.ensures c.fold_both.ensures) c.decreases

pub fold_both-requires-2 : goal.fold_both-requires-2
fold_both-requires-2 t c =
    let S = stages.third_added c.requires c.if-a-eq1.false c.fold.ensures c.add_by_halves-first.ensures
    c.add_by_halves-second.ensures c.fold-2.ensures c.fold_both.ensures c.add_by_halves-third.ensures in
    (parts_length S.of_a.parts, parts_length S.of_b.parts)

-- ---- what the three calls count, and the last stage

counts_fit : (t : ℕ) (c : After-fold_both-2 t)
    → c.add_by_halves-first.result + c.add_by_halves-second.result + c.add_by_halves-third.result ≤ 3 * 3 ^ longest_log
counts_fit t c =
    stages.run_fits c.requires c.if-a-eq1.false c.fold.ensures c.add_by_halves-first.ensures c.add_by_halves-second.ensures
    c.fold-2.ensures c.fold_both.ensures c.add_by_halves-third.ensures

pub overflow_add-result : goal.overflow_add-result
overflow_add-result t c = omega (arith, counts_fit t (goal.at.overflow_add-result t c).After-fold_both-2)

pub overflow_add-result-2 : goal.overflow_add-result-2
overflow_add-result-2 t c = omega (arith, counts_fit t (goal.at.overflow_add-result-2 t c).After-fold_both-2)

pub returns-clause-out_after : goal.returns-clause-out_after
returns-clause-out_after t c =
    stages.run_made c.requires c.if-a-eq1.false c.fold.ensures c.add_by_halves-first.ensures c.add_by_halves-second.ensures
    c.fold-2.ensures c.fold_both.ensures c.add_by_halves-third.ensures c.fold_both-2.ensures

pub returns-clause-a_unchanged : goal.returns-clause-a_unchanged
returns-clause-a_unchanged t c =
    stages.run_back c.requires c.if-a-eq1.false c.fold.ensures c.add_by_halves-first.ensures c.add_by_halves-second.ensures
    c.fold-2.ensures c.fold_both.ensures c.add_by_halves-third.ensures c.fold_both-2.ensures

pub returns-clause-counted : goal.returns-clause-counted
returns-clause-counted t c =
    stages.run_counted c.requires c.if-a-eq1.false c.fold.ensures c.add_by_halves-first.ensures c.add_by_halves-second.ensures
    c.fold-2.ensures c.fold_both.ensures c.add_by_halves-third.ensures
