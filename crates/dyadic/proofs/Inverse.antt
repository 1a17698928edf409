-- When a dyadic matrix has an inverse: where its elements do not sum to nought, by the block that Block defines, and where they do, not at all.
use Rattle.std.specs.Prelude.{◌≡◌, ◌≢◌, Bool, List, length}
use Rattle.std.proofs.Math.Path.{refl, sym, ap}
use Rattle.std.proofs.Common.{◌∙◌, arith}
use Rattle.std.proofs.Math.Bool.{true, false}
use Prim.Native.Nat.{ℕ, zero, suc, ◌^◌, ◌<◌}
use Rattle.std.proofs.Math.Dec.{eqb, eqb-suc-zero}
use borrow.Author.Tests.{eq-eqb, ne_eqb, eqb-true, eqb-false}
use Rattle.algebra.specs.Field.{Ops, Laws}
use Rattle.algebra.specs.FieldLaws.{ring, mul-nought, no_zero_divisors}
use Rattle.algebra.specs.Lists.{entry}
use Rattle.algebra.specs.Sum.{sum}
use Rattle.algebra.specs.SumLaws.{sum_cong, sum-mul, sum-nought, sum_single, sum_swap, sum_reindex, in_sum}
use Rattle.algebra.specs.Xor.{◌⊕◌}
use Rattle.algebra.specs.XorLaws.{⊕_comm, ⊕_self, ⊕_eq}
use Rattle.dyadic.specs.Block.{matrix, convolution, total, block_inverse}
use Rattle.dyadic.specs.Matrix.{diagonal, identity}
use Rattle.dyadic.specs.Convolution.{square_start, square_elsewhere}
use Rattle.dyadic.specs.Entries.{entry_inverse}

module _ {A : Type 0} (K : Ops A) where
  -- the identity is dyadic: it depends on i ⊕ k alone
  pub identity_dyadic : (i k : ℕ) → identity K i k ≡ identity K (i ⊕ k) 0
  unfolding identity
  identity_dyadic i k = decided (eqb i k) refl
    where
      decided : (b : Bool) → eqb i k ≡ b → diagonal K (eqb i k) ≡ diagonal K (eqb (i ⊕ k) 0)
      decided true q =
          ap (diagonal K) (q ∙ sym (eq-eqb (i ⊕ k) 0 (ap (λ (x : ℕ). i ⊕ x) (sym (eqb-true i k q)) ∙ ⊕_self i)))
      decided false q = ap (diagonal K) (q ∙ sym (ne_eqb (i ⊕ k) 0 (λ z. eqb-false i k q (⊕_eq i k z))))

  pub identity_symmetric : (i k : ℕ) → identity K i k ≡ identity K k i
  identity_symmetric i k = identity_dyadic i k ∙ ap (λ (d : ℕ). identity K d 0) (⊕_comm i k) ∙ sym (identity_dyadic k i)

module _ {A : Type 0} (K : Ops A) (F : Laws K) where
  infixl 65 ◌+◌
  infixl 70 ◌·◌
  open K use {In, nought, one, inv, add as ◌+◌, mul as ◌·◌}

  pub identity_row : (s i : ℕ) → i < s → sum K s (identity K i) ≡ one
  unfolding identity diagonal
  identity_row s i li =
      sum_single K F s i (identity K i) li (λ k lk ne. ap (diagonal K) (ne_eqb i k (λ q. ne (sym q)))) ∙ ap (diagonal K) (eq-eqb i i refl)

  module _ (e : ℕ) (a : List A) (la : length a ≡ 2 ^ e) where
    -- ---- a block times its inverse: the divisor comes out of the sum, and what it leaves is the block's square

    divided : (d : ℕ) → convolution K (2 ^ e) (entry K (block_inverse K a)) (entry K a) d
        ≡ inv (total K a · total K a) · convolution K (2 ^ e) (entry K a) (entry K a) d
    divided d =
        sum_cong K (2 ^ e) (λ j lj. ap (λ (x : A). x · entry K a (j ⊕ d)) (entry_inverse K a j (rw la lj))
        ∙ sorted (entry K a j) c (entry K a (j ⊕ d)))
        ∙ sym (sum-mul K F (2 ^ e) c (λ j. entry K a j · entry K a (j ⊕ d)))
      where
        c : A
        c = inv (total K a · total K a)

        sorted : (x y z : A) → x · y · z ≡ y · (x · z)
        sorted x y z = simp ring

    squared : convolution K (2 ^ e) (entry K a) (entry K a) 0 ≡ total K a · total K a
    unfolding total
    squared = square_start K F (2 ^ e) (entry K a) ∙ ap (λ (n : ℕ). sum K n (entry K a) · sum K n (entry K a)) (sym la)

    in_total : ((i : ℕ) → i < 2 ^ e → In (entry K a i)) → In (total K a)
    unfolding total
    in_total ins = in_sum K F (length a) (entry K a) (λ j lj. ins j (rw la at lj))

    pub inverse_convolution : ((i : ℕ) → i < 2 ^ e → In (entry K a i)) → total K a ≢ nought
        → (d : ℕ) → d < 2 ^ e → convolution K (2 ^ e) (entry K (block_inverse K a)) (entry K a) d ≡ identity K d 0
    unfolding identity diagonal
    inverse_convolution ins ne zero ld =
        divided 0 ∙ ap (λ (x : A). inv (total K a · total K a) · x) squared ∙ F.mul_comm (inv (total K a · total K a)) (total K a · total K a)
        ∙ F.mul_inv (total K a · total K a) (F.in_mul (total K a) (total K a))
        (no_zero_divisors K F (total K a) (total K a) (in_total ins) (in_total ins) ne ne)
    inverse_convolution ins ne (suc d) ld =
        divided (suc d)
        ∙ ap (λ (x : A). inv (total K a · total K a) · x) (square_elsewhere K F e (entry K a) (suc d) ld (λ z. omega arith))
        ∙ mul-nought K F (inv (total K a · total K a)) ∙ ap (diagonal K) (sym (eqb-suc-zero d))

    -- ---- each row adds up to the sum of all elements: where that is nought, so does every combination of rows

    row_total : (j : ℕ) → j < 2 ^ e → sum K (2 ^ e) (matrix K a j) ≡ total K a
    unfolding matrix total
    row_total j lj =
        sum_cong K (2 ^ e) (λ k lk. ap (entry K a) (⊕_comm j k)) ∙ sum_reindex K F e j lj (entry K a) ∙ ap (λ (n : ℕ). sum K n (entry K a)) (sym la)

    pub combined_rows : total K a ≡ nought → (x : ℕ → A) → sum K (2 ^ e) (λ k. sum K (2 ^ e) (λ j. x j · matrix K a j k)) ≡ nought
    combined_rows z x =
        sum_swap K F (2 ^ e) (2 ^ e) (λ k j. x j · matrix K a j k)
        ∙ sum-nought K F (2 ^ e)
        (λ j lj. sym (sum-mul K F (2 ^ e) (x j) (matrix K a j)) ∙ ap (λ (y : A). x j · y) (row_total j lj ∙ z) ∙ mul-nought K F (x j))
