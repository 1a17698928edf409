-- `total` meets its contract: the iterator sums the elements passed.
use Rattle.std.proofs.Common.{◌≡◌, refl, subst, ◌∙◌, ℕ, List, length, rules}
use Rattle.std.proofs.lemmas.Fn.{fold_over, fronts, slice_gives}
use Rattle.algebra.specs.Lists.{entry}
use Rattle.algebra.specs.Sum.{sum}
use Rattle.algebra.specs.Xor.{◌⊕◌}
use Rattle.field.specs.Gf.{gf}
use Rattle.dyadic.specs.Block.{total}
use Rattle.dyadic.proofs.Sums.{sum_more}
use Rattle.dyadic.proofs.total.Goals as goal

pub returns : goal.returns
unfolding total sum ◌⊕◌
returns c = λ m.
    subst (λ (xs : List ℕ). c.fold.result ≡ total (gf m) xs) c.iter.ensures.rest
    (fold_over fronts (λ y. y.now) _ (λ ys s. s ≡ sum (gf m) (length ys) (entry (gf m) ys)) _
    (λ ys s x b f' so k. (let made : b ≡ s ⊕ x.now = search rules in made ∙ sum_more m ys x.now s so, search rules))
    c.iter.result _ 0 _ (slice_gives c.iter.result) refl c.fold.ensures.ran)
