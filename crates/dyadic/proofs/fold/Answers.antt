-- `fold` meets its contract: the second half is added to the first.
use Rattle.std.proofs.Common.{ap₂, ◌∙◌, List, ℕ, ◌++◌}
use Rattle.field.specs.Gf.{gf}
use Rattle.dyadic.specs.Block.{block_sum}
use Rattle.dyadic.specs.Folded.{folded}
use Rattle.dyadic.proofs.fold.Goals as goal

pub returns : goal.returns
unfolding folded
returns c = λ m.
    let parts = c.split_at_mut-low.ensures in
    ap₂ (λ (low high : List ℕ). low ++ high) (c.add.ensures m ∙ ap₂ (block_sum (gf m)) parts.front parts.back) parts.back
