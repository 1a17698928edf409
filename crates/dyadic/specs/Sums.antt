-- Sums of blocks: they may be bracketed either way, a block that is added twice is gone, a zero block changes nothing, and halves are added apart.
use Rattle.std.specs.Prelude.{◌≡◌}
use Rattle.std.proofs.Common.{sym, ◌∙◌, length-append}
use Rattle.std.proofs.Math.Path.{ap, ap₂}
use mathlib.Core.List.{List, ◌++◌}
use Prim.Native.Nat.{ℕ, ◌+◌}
use Rattle.std.proofs.Math.ListN.{length}
use Rattle.algebra.specs.Field.{Ops, Laws}
use Rattle.algebra.specs.FieldLaws.{add-nought}
use Rattle.algebra.specs.Lists.{entry}
use Rattle.algebra.specs.Tabulate.{tabulate}
use Rattle.algebra.specs.TabulateLaws.{length-tabulate, get_d_tabulate, tabulate_cong, tabulate-get_or, tabulate-append}
use Rattle.dyadic.specs.Block.{block_sum}
use Rattle.dyadic.specs.Entries.{length_sum, entry_sum, entry_front, entry_back}

module _ {A : Type 0} (K : Ops A) where
  pub sum_append : (n : ℕ) (a b c d : List A) → length a ≡ n → length c ≡ n → block_sum K (a ++ b) (c ++ d) ≡ block_sum K a c ++ block_sum K b d
  unfolding block_sum
  sum_append n a b c d la lc =
      ap (λ (k : ℕ). tabulate k f) (length-append a b ∙ ap (λ (k : ℕ). k + length b) la) ∙ tabulate-append n (length b) f
      ∙ ap₂ (λ (x y : List A). x ++ y)
      (tabulate_cong n (λ i l. ap₂ K.add (entry_front K n a b la i l) (entry_front K n c d lc i l))
      ∙ ap (λ (k : ℕ). tabulate k (λ i. K.add (entry K a i) (entry K c i))) (sym la))
      (tabulate_cong (length b) (λ i l. ap₂ K.add (entry_back K n a b la i) (entry_back K n c d lc i)))
    where
      f : ℕ → A
      f i = K.add (entry K (a ++ b) i) (entry K (c ++ d) i)

module _ {A : Type 0} (K : Ops A) (F : Laws K) where
  pub sum_assoc : (a b c : List A) → length b ≡ length a → block_sum K (block_sum K a b) c ≡ block_sum K a (block_sum K b c)
  unfolding block_sum
  sum_assoc a b c lb =
      ap (λ (k : ℕ). tabulate k (λ i. K.add (entry K (block_sum K a b) i) (entry K c i))) (length_sum K a b)
      ∙ tabulate_cong (length a)
      (λ i l.
      ap (λ (x : A). K.add x (entry K c i)) (entry_sum K a b i l) ∙ F.add_assoc (entry K a i) (entry K b i) (entry K c i)
      ∙ ap (K.add (entry K a i)) (sym (entry_sum K b c i (rw lb l))))

  -- what is added twice is gone
  pub sum_cancel : (a b : List A) → length b ≡ length a → block_sum K (block_sum K a b) b ≡ a
  unfolding block_sum
  sum_cancel a b lb =
      sum_assoc a b b lb
      ∙ tabulate_cong (length a)
      (λ i l. ap (K.add (entry K a i)) (entry_sum K b b i (rw lb l) ∙ F.add_self (entry K b i)) ∙ add-nought K F (entry K a i))
      ∙ tabulate-get_or a K.nought

  pub sum_through : (a b c : List A) → length b ≡ length a → block_sum K (block_sum K a b) (block_sum K b c) ≡ block_sum K a c
  sum_through a b c lb =
      sym (sum_assoc (block_sum K a b) b c (lb ∙ sym (length_sum K a b))) ∙ ap (λ (x : List A). block_sum K x c) (sum_cancel a b lb)

  pub zero_sum : (a : List A) → block_sum K (tabulate (length a) (λ i. K.nought)) a ≡ a
  unfolding block_sum
  zero_sum a =
      ap (λ (k : ℕ). tabulate k (λ i. K.add (entry K zeros i) (entry K a i))) (length-tabulate (length a) (λ i. K.nought))
      ∙ tabulate_cong (length a)
      (λ i l. ap (λ (x : A). K.add x (entry K a i)) (get_d_tabulate (length a) (λ i. K.nought) i K.nought l) ∙ F.nought_add (entry K a i))
      ∙ tabulate-get_or a K.nought
    where
      zeros : List A
      zeros = tabulate (length a) (λ i. K.nought)
