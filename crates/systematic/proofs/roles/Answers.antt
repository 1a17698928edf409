-- `roles` meets its contract. The loop's invariant: the places passed have their roles, and the rest is as it was.
use mathlib.Core.Path.{◌≡◌, refl, ◌∙◌}
use mathlib.Core.Bool.{Bool, true, false, cond}
use mir.Val.{bool_byte}
use native.Mathlib.Omega.{arith}
use Rattle.algebra.specs.Filling.{filling_start, filling_turn, filling_end}
use Rattle.basis.specs.Table.{lead_at, free_at}
use Rattle.systematic.proofs.roles.Goals as goal

one_or_nought : (b : Bool) → bool_byte b ≡ cond b 1 0
one_or_nought true = refl
one_or_nought false = refl

pub loop-p-init : goal.loop-p-init
loop-p-init c = filling_start _ _ c.args.out.now refl

pub loop-p-preserved : goal.loop-p-preserved
unfolding free_at lead_at
loop-p-preserved c = filling_turn c.loop-p.invariant (omega arith) (c.from.ensures ∙ one_or_nought _)

pub returns : goal.returns
returns c = filling_end c.loop-p.invariant (omega arith)
