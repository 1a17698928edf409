-- `agree` meets its contract: the numbers, the signatures and the marks are compared.
use mathlib.Core.Path.{ap₂, ◌∙◌}
use mathlib.Core.Bool.{Bool, ◌&&◌}
use lib.Dec.{eqb}
use Rattle.codes.specs.Same.{same_code}
use Rattle.codes.proofs.SameLaws.{lists_compared, numbers_compared}
use Rattle.codes.proofs.agree.Goals as goal

pub returns : goal.returns
unfolding same_code
returns c =
    let a = c.args in
    let numbers = c.eq.ensures ∙ numbers_compared (eqb a.c1.m a.c2.m) (eqb a.c1.n a.c2.n) (eqb a.c1.t a.c2.t) (eqb a.c1.omega a.c2.omega) in
    ap₂ (λ (x y : Bool). x && y) (ap₂ (λ (x y : Bool). x && y) numbers (lists_compared _ _ c.eq-2.ensures)) (lists_compared _ _ c.eq-3.ensures)
