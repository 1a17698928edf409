-- `divide` meets its contract: the loop fills the buffer with the quotients of entries.
use mathlib.Core.Path.{refl, ap, ◌∙◌}
use Prim.Native.Nat.{ℕ}
use lib.ListN.{length, get_or}
use Rattle.algebra.specs.Filling.{filling_start, filling_turn, filling_end}
use Rattle.algebra.specs.Tabulate.{tabulate}
use Rattle.field.specs.Gf.{gf}
use Rattle.dyadic.specs.Block.{quotient}
use Rattle.dyadic.proofs.Quotients.{quotients}
use Rattle.dyadic.proofs.divide.Goals as goal

pub loop-i-init : goal.loop-i-init
loop-i-init c =
    let g = c.args in
    filling_start (quotients g.m g.a.now g.c) (length g.out.now) g.out.now refl

pub loop-i-preserved : goal.loop-i-preserved
loop-i-preserved c =
    let l = c.loop-i in
    let g = c.args in
    filling_turn l.invariant c.loop-i-test.true
    (c.product.ensures.0 ∙ ap ((gf g.m).mul (get_or g.a.now l.i 0)) c.inverse-factor.ensures.0)

pub returns : goal.returns
unfolding quotient
returns c =
    let g = c.args in
    filling_end c.loop-i.invariant c.loop-i-test.false ∙ ap (λ (n : ℕ). tabulate n (quotients g.m g.a.now g.c)) c.requires.3
