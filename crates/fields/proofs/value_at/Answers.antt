-- `value_at` meets its contract.
use mathlib.Core.Path.{ap, ◌∙◌}
use Prim.Native.Nat.{◌+◌, ◌<◌}
use native.Mathlib.Omega.{arith}
use Rattle.std.proofs.lemmas.List.Edits.{length-between, get_or-between}
use Rattle.algebra.specs.Lists.{entry_of}
use Rattle.fields.specs.Fields.{field_width, value_of, number_at}
use Rattle.fields.proofs.Values.{value_start, value_fits, value_turn}
use Rattle.fields.proofs.value_at.Goals as goal

pub loop-byte-init : goal.loop-byte-init
loop-byte-init c = value_start _

pub overflow_mul-v : goal.overflow_mul-v
overflow_mul-v c = omega (arith, value_fits c.loop-byte.invariant 0 (omega arith))

pub loop-byte-preserved : goal.loop-byte-preserved
loop-byte-preserved c =
    let a = c.args in
    let i = c.loop-byte.byte-index in
    let l : i < field_width = omega (arith, length-between a.text.now a.at (a.at + field_width)) in
    value_turn c.loop-byte.invariant _ l (get_or-between a.text.now a.at (a.at + field_width) i 0 (omega arith))

pub returns : goal.returns
unfolding number_at
returns c =
    let a = c.args in
    let so_far = c.loop-byte.invariant in
    so_far.is ∙ ap (value_of (λ k. entry_of a.text.now (a.at + k)))
    (omega (arith, so_far.bound, length-between a.text.now a.at (a.at + field_width)))
