-- `turn` meets its contract: a mark is the bit that is added.
use mathlib.Core.Path.{◌≡◌, refl, ap, ◌∙◌}
use mathlib.Core.Bool.{cond}
use Prim.Native.Nat.{ℕ, zero, suc, ◌<◌}
use native.Mathlib.Omega.{arith}
use lib.Dec.{eqb}
use lib.ListN.{length}
use Rattle.algebra.specs.Lists.{entry_of}
use Rattle.algebra.specs.TabulateLaws.{tabulate_cong}
use Rattle.algebra.specs.Xor.{◌⊕◌}
use Rattle.slices.proofs.Adding.{sums_are}
use Rattle.nearest.specs.Turned.{turned}
use Rattle.simulation.proofs.steps.turn.Goals as goal

mark-is : (x : ℕ) → x < 2 → x ≡ cond (eqb x 1) 1 0
mark-is zero l = refl
mark-is (suc zero) l = refl
mark-is (suc (suc x)) l = absurd (omega arith)

pub returns : goal.returns
unfolding turned
returns c =
    let a = c.args in
    sums_are a.marks.now a.word.now _ c.add.ensures.same_length c.add.ensures.sums
    ∙ tabulate_cong (length a.word.now) (λ i l. ap (λ (x : ℕ). entry_of a.word.now i ⊕ x) (mark-is _ (c.requires.0 i (omega (arith, c.requires.1)))))
