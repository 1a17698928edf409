-- `number_columns` meets its contract, place by place.
use mathlib.Core.Path.{refl}
use lib.ListN.{length}
use Rattle.algebra.specs.Filling.{filling_start, filling_turn, filling_end}
use Rattle.parity.specs.Word.{whole}
use Rattle.columns.proofs.number_columns.Goals as goal

pub loop-j-init : goal.loop-j-init
loop-j-init c = (c.requires, filling_start (λ k. k) (length c.args.columns.now) c.args.columns.now refl)

pub loop-j-preserved : goal.loop-j-preserved
loop-j-preserved c = (c.loop-j.invariant.0, filling_turn c.loop-j.invariant.1 c.loop-j-test.true refl)

pub returns : goal.returns
unfolding whole
returns c = filling_end c.loop-j.invariant.1 c.loop-j-test.false
