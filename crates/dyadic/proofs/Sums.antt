-- What the loops and the iterators of the sums have made so far.
use Rattle.std.specs.Prelude.{◌≡◌, refl, List, [], ◌∷◌, ◌++◌, ℕ, length, get_or}
use Rattle.std.proofs.Common.{sym, ap, ap₂, ◌∙◌, add-one, length-append}
use Rattle.std.proofs.Math.ListN.{get_or-append}
use Rattle.std.proofs.Math.Seq.{get_or_at}
use Rattle.algebra.specs.Lists.{entry}
use Rattle.algebra.specs.Sum.{sum}
use Rattle.algebra.specs.SumLaws.{sum_cong}
use Rattle.algebra.specs.Xor.{◌⊕◌}
use Rattle.field.specs.Gf.{gf}

-- the entries of a sum of two blocks
abbrev pub sums : List ℕ → List ℕ → ℕ → ℕ
sums a b j = get_or a j 0 ⊕ get_or b j 0

-- the sum of one more element
pub sum_more : (m : ℕ) (a : List ℕ) (x s : ℕ) → s ≡ sum (gf m) (length a) (entry (gf m) a)
    → s ⊕ x ≡ sum (gf m) (length (a ++ x ∷ [])) (entry (gf m) (a ++ x ∷ []))
unfolding sum
sum_more m a x s e =
    ap₂ (λ (s x : ℕ). s ⊕ x)
    (e ∙ sum_cong (gf m) (length a) (λ j l. sym (get_or-append a (x ∷ []) 0 j l)))
    (sym (get_or_at a x [] 0 (length a) refl))
    ∙ ap (λ (n : ℕ). sum (gf m) n (entry (gf m) (a ++ x ∷ []))) (sym (length-append a (x ∷ []) ∙ add-one (length a)))
