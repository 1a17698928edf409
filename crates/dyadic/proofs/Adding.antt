-- What is added to a buffer, over plain lists: at length one a product of elements, and in a buffer that was cleared the product itself.
use mathlib.Core.Path.{◌≡◌, sym, ap, ◌∙◌}
use mathlib.Core.List.{List}
use Prim.Native.Nat.{ℕ}
use lib.Dec.{lit<, lit≤}
use lib.ListN.{length, get_or, set, replicate}
use Rattle.std.proofs.lemmas.List.{length-replicate, get_or-replicate}
use Rattle.algebra.specs.Lists.{entry}
use Rattle.algebra.specs.Sum.{sum}
use Rattle.algebra.specs.Tabulate.{tabulate}
use Rattle.algebra.specs.TabulateLaws.{tabulate_cong, tabulate-get_or}
use Rattle.algebra.specs.Filling.{filling_start, filling_turn, filling_end}
use Rattle.algebra.specs.Xor.{◌⊕◌}
use Rattle.algebra.specs.XorLaws.{zero-⊕}
use Rattle.field.specs.Gf.{gf}
use Rattle.field.proofs.GfLaws.{gf_laws}
use Rattle.field.specs.Product.{product}
use Rattle.field.specs.Words.{word}
use Rattle.dyadic.specs.Block.{block_sum, block_product}
use Rattle.dyadic.specs.Entries.{length_product, entry_product}
use Rattle.dyadic.specs.Sums.{zero_sum}
use Rattle.dyadic.specs.Callers.{Factors}

-- ---- length one

single_entry : (m : ℕ) (a b : List ℕ) → length a ≡ 1 → entry (gf m) (block_product (gf m) a b) 0 ≡ product m (word m) (get_or a 0 0) (get_or b 0 0)
unfolding sum
single_entry m a b la =
    entry_product (gf m) 1 a b la 0 (lit< tt) ∙ zero-⊕ (product m (word m) (get_or a 0 0) (get_or b (0 ⊕ 0) 0))
    ∙ ap (λ (j : ℕ). product m (word m) (get_or a 0 0) (get_or b j 0)) (zero-⊕ 0)

pub single : (m p : ℕ) (a b out : List ℕ) → length a ≡ 1 → length out ≡ 1 → p ≡ product m (word m) (get_or a 0 0) (get_or b 0 0)
    → set out 0 (get_or out 0 0 ⊕ p) ≡ block_sum (gf m) out (block_product (gf m) a b)
unfolding block_sum
single m p a b out la lo e =
    filling_end
    (filling_turn (filling_start f 1 out lo) (lit< tt) (ap (λ (x : ℕ). get_or out 0 0 ⊕ x) (e ∙ sym (single_entry m a b la))))
    (lit≤ tt)
    ∙ ap (λ (n : ℕ). tabulate n f) (sym lo)
  where
    f : ℕ → ℕ
    f i = (gf m).add (get_or out i 0) (get_or (block_product (gf m) a b) i 0)

-- ---- into a buffer that was cleared

pub cleared : {m : ℕ} {a b out zeros : List ℕ} → length zeros ≡ length out → Factors m a b out → Factors m a b zeros
cleared l f =
    record {
      width = f.width;
      log = f.log;
      length_a = f.length_a;
      short = f.short;
      length_b = f.length_b;
      length_out = l ∙ f.length_out;
      elements_a = f.elements_a;
      elements_b = f.elements_b;
    }

block_of_zeros : (n : ℕ) → replicate {A = ℕ} n 0 ≡ tabulate n (λ (i : ℕ). 0)
block_of_zeros n =
    sym (tabulate-get_or (replicate n 0) 0)
    ∙ ap (λ (k : ℕ). tabulate k (λ i. get_or (replicate n 0) i 0)) (length-replicate n 0)
    ∙ tabulate_cong n (λ i l. get_or-replicate n i 0 0 l)

pub into_cleared : {m : ℕ} {a b out zeros written : List ℕ} → Factors m a b out → zeros ≡ replicate (length out) 0
    → written ≡ block_sum (gf m) zeros (block_product (gf m) a b) → written ≡ block_product (gf m) a b
into_cleared {m} {a} {b} {out} f z e =
    e
    ∙ ap (λ (x : List ℕ). block_sum (gf m) x (block_product (gf m) a b))
    (z ∙ block_of_zeros (length out) ∙ ap (λ (n : ℕ). tabulate n (λ (i : ℕ). 0)) (f.length_out ∙ sym (length_product (gf m) a b ∙ f.length_a)))
    ∙ zero_sum (gf m) (gf_laws m f.width) (block_product (gf m) a b)
