-- `store_essence` meets its contract. The loop's invariant: the values before place s are stored.
use mathlib.Core.Path.{ap}
use Prim.Native.Nat.{ℕ, ◌-◌, ◌<◌}
use native.Mathlib.Omega.{arith}
use lib.ListN.{length, length-append, length-drop}
use borrow.Author.Rules.{rules}
use Rattle.algebra.specs.Filling.{filling_start, filling_turn, filling_end}
use Rattle.algebra.specs.Lists.{entry_of}
use Rattle.algebra.specs.Xor.{◌⊕◌}
use Rattle.essence.proofs.ShapeLaws.{value_count_is}
use Rattle.essence.proofs.Storing.{reached, stored}
use Rattle.essence.proofs.store_essence.Goals as goal

pub loop-s-init : goal.loop-s-init
loop-s-init c = filling_start _ _ _ (search rules)

pub power-requires : goal.power-requires
power-requires c = omega (arith, (value_count_is _ c.requires.0).1, c.loop-s.invariant.long)

pub offset_bounds-inverses-power : goal.offset_bounds-inverses-power
offset_bounds-inverses-power c =
    let less : c.loop-s.s < length c.args.out.now - 1 = omega (arith, c.loop-s.invariant.long) in
    omega (arith, reached c.power.ensures less c.requires.1)

pub bounds-inverses-power : goal.bounds-inverses-power
bounds-inverses-power c =
    let less : c.loop-s.s < length c.args.out.now - 1 = omega (arith, c.loop-s.invariant.long) in
    reached c.power.ensures less c.requires.1

pub loop-s-preserved : goal.loop-s-preserved
unfolding ◌⊕◌
loop-s-preserved c =
    let less : c.loop-s.s < length c.args.out.now - 1 = omega (arith, c.loop-s.invariant.long) in
    let f = entry_of c.args.inverses.now in
    filling_turn c.loop-s.invariant less (ap (λ (k : ℕ). f k ⊕ f 0) c.power.ensures)

pub bounds-out-e : goal.bounds-out-e
bounds-out-e c =
    omega (arith, length-append {A = ℕ}, length-drop {A = ℕ}, c.loop-s.auto.value-items, c.loop-s.invariant.long, (value_count_is _ c.requires.0).0)

pub returns : goal.returns
returns c =
    let made = filling_end c.loop-s.invariant (omega (arith, c.loop-s.invariant.long)) in
    stored (entry_of c.args.inverses.now) _ c.args.out.now (omega (arith, (value_count_is _ c.requires.0).0)) made
