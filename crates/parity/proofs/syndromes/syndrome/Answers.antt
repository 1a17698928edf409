-- `syndromes::syndrome` meets its contract, row by row.
use mathlib.Core.Path.{refl}
use native.Mathlib.Omega.{arith}
use Rattle.algebra.specs.Filling.{filling_start, filling_turn, filling_end}
use Rattle.parity.proofs.syndromes.syndrome.Goals as goal

pub loop-i-init : goal.loop-i-init
loop-i-init c = filling_start _ _ c.args.out.now refl

pub syndrome_at-requires : goal.syndrome_at-requires
syndrome_at-requires c = (c.requires.0, c.requires.1 c.loop-i.i (omega arith))

pub loop-i-preserved : goal.loop-i-preserved
loop-i-preserved c = filling_turn c.loop-i.invariant (omega arith) c.syndrome_at.ensures.0

pub returns : goal.returns
returns c = filling_end c.loop-i.invariant (omega arith)
