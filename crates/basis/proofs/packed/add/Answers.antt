-- `packed::add` meets its contract: bits are added where words are.
use mathlib.Core.Path.{sym, subst}
use Rattle.slices.proofs.Adding.{sums_are}
use Rattle.basis.specs.Packed.{Added, added}
use Rattle.basis.proofs.packed.add.Goals as goal

pub returns : goal.returns
returns c =
    let a = c.args in
    subst (Added a.from.now a.to.now) (sym (sums_are a.from.now a.to.now _ c.add.ensures.same_length c.add.ensures.sums)) (added a.from.now a.to.now)
