-- What an echelon basis of the parity rows tells: which columns are message columns, and that each message has exactly one code word.
use Rattle.std.specs.Prelude.{◌≡◌, refl, ◌↔◌, Bool, false, not}
use Rattle.std.proofs.Common.{sym, ◌∙◌, lt_of_lt_of_le, le_of_lt, arith, lit<, pow_mono}
use Rattle.std.proofs.Math.Path.{ap, ap₂}
use Rattle.std.proofs.Math.Bool.{true}
use Prim.Native.Nat.{ℕ, suc, ◌+◌, ◌-◌, ◌*◌, ◌^◌, ◌<◌}
use Rattle.std.proofs.Math.Dec.{eqb}
use borrow.Author.Tests.{eqb-true, eq-eqb}
use Rattle.algebra.specs.All.{some}
use Rattle.algebra.specs.AllLaws.{all_is, all_true, some_is, some-true}
use Rattle.algebra.specs.Flags.{refuted}
use Rattle.algebra.specs.Bits.{bit_at}
use Rattle.algebra.specs.BitLaws.{bit_at_lt, bit_at-⊕, bit_at_small}
use Rattle.algebra.specs.FromBits.{shifted_at, shifted_other, number_of, number_of-lt, number_of_bit}
use Rattle.algebra.specs.Gf2.{gf2}
use Rattle.algebra.specs.Gf2Laws.{gf2_laws}
use Rattle.algebra.specs.Echelon.{Echelon, Solves, Inside, last_free, last_led}
use Rattle.algebra.specs.Sum.{sum}
use Rattle.algebra.specs.SumLaws.{sum_cong, sum-nought, sum_split}
use Rattle.algebra.specs.Xor.{◌⊕◌}
use Rattle.algebra.specs.XorLaws.{⊕_self, ⊕-zero, zero-⊕, ⊕_eq}
use Rattle.field.specs.Gf.{Width, gf}
use Rattle.field.proofs.GfLaws.{gf_laws}
use Rattle.parity.specs.Word.{held}
use Rattle.parity.specs.Columns.{is_sum_of, is_sum}
use Rattle.algebra.specs.Places.{count}
use Rattle.algebra.specs.PlaceLaws.{count_tests, free_count_lem}
use Rattle.parity.specs.Parity.{Checks}

-- a basis of the parity rows: it is in echelon form, and has the code words for solutions
pub record Basis (m n t : ℕ) (e : ℕ → ℕ → ℕ) (rows : ℕ → ℕ → ℕ) (leads : ℕ → Bool) : Type 0 where
  pub echelon : Echelon gf2 n rows leads
  pub kernel : (w : ℕ → ℕ) → Inside gf2 n w → Checks m n t e w ↔ Solves gf2 n rows leads w

module _ {m : ℕ} (W : Width m) where
  -- the sum of the columns of a word whose last one stands at p
  check_last : (n : ℕ) (e : ℕ → ℕ → ℕ) (w : ℕ → ℕ) (p i : ℕ) → p < n → w p ≡ 1 → ((q : ℕ) → p < q → q < n → w q ≡ 0)
      → sum (gf m) n (λ j. held (w j) (e i j)) ≡ sum (gf m) p (λ j. held (w j) (e i j)) ⊕ e i p
  unfolding sum held
  check_last n e w p i l u z =
      ap (λ (k : ℕ). sum (gf m) k f) (sym rest) ∙ sum_split (gf m) (gf_laws m W) (suc p) (n - suc p) f
      ∙ ap₂ (λ (x y : ℕ). x ⊕ y) (ap (λ (b : ℕ). sum (gf m) p f ⊕ held b (e i p)) u) none ∙ ⊕-zero (sum (gf m) p f ⊕ e i p)
    where
      f : ℕ → ℕ
      f j = held (w j) (e i j)

      rest : suc p + (n - suc p) ≡ n
      rest = omega arith

      none : sum (gf m) (n - suc p) (λ j. f (suc p + j)) ≡ 0
      none =
          sum-nought (gf m) (gf_laws m W) (n - suc p)
          (λ j lj. ap (λ (b : ℕ). held b (e i (suc p + j))) (z (suc p + j) (omega arith) (omega arith)))

  module _ {n t : ℕ} {e : ℕ → ℕ → ℕ} {rows : ℕ → ℕ → ℕ} {leads : ℕ → Bool} (B : Basis m n t e rows leads) where
    -- a sum of columns before p is a word of the code whose last one stands at p
    led_is_no_sum : (p : ℕ) → p < n → leads p ≡ true → is_sum m t e p ≡ true → ⊥
    unfolding is_sum is_sum_of
    led_is_no_sum p l d q =
        let (s, ls, c) = some_is (2 ^ p) (is_sum_of m t e p) q in
        last_led gf2 gf2_laws n rows leads B.echelon p l d (bit_at (s ⊕ 1 * 2 ^ p)) (λ j lj. bit_at_lt (s ⊕ 1 * 2 ^ p) j)
        ((B.kernel (bit_at (s ⊕ 1 * 2 ^ p)) (λ j lj. bit_at_lt (s ⊕ 1 * 2 ^ p) j)).0 (checks s ls c)) (last s ls) (λ q a lq. after s ls q a)
      where
        last : (s : ℕ) → s < 2 ^ p → bit_at (s ⊕ 1 * 2 ^ p) p ≡ 1
        last s ls = bit_at-⊕ s (1 * 2 ^ p) p ∙ ap₂ (λ (x y : ℕ). x ⊕ y) (bit_at_small p s ls) (shifted_at 1 p (lit< tt)) ∙ zero-⊕ 1

        after : (s : ℕ) → s < 2 ^ p → (q : ℕ) → p < q → bit_at (s ⊕ 1 * 2 ^ p) q ≡ 0
        after s ls q a =
            bit_at-⊕ s (1 * 2 ^ p) q
            ∙ ap₂ (λ (x y : ℕ). x ⊕ y) (bit_at_small q s (lt_of_lt_of_le ls (pow_mono (le_of_lt a))))
            (shifted_other 1 p q (lit< tt) (λ z. omega arith))
            ∙ ⊕_self 0

        before : (s q : ℕ) → q < p → bit_at (s ⊕ 1 * 2 ^ p) q ≡ bit_at s q
        before s q a =
            bit_at-⊕ s (1 * 2 ^ p) q ∙ ap (λ (y : ℕ). bit_at s q ⊕ y) (shifted_other 1 p q (lit< tt) (λ z. omega arith)) ∙ ⊕-zero (bit_at s q)

        checks : (s : ℕ) → s < 2 ^ p → is_sum_of m t e p s ≡ true → Checks m n t e (bit_at (s ⊕ 1 * 2 ^ p))
        checks s ls c i li =
            check_last n e (bit_at (s ⊕ 1 * 2 ^ p)) p i l (last s ls) (λ q a lq. after s ls q a)
            ∙ ap (λ (x : ℕ). x ⊕ e i p)
            (sum_cong (gf m) p (λ q a. ap (λ (b : ℕ). held b (e i q)) (before s q a))
            ∙ eqb-true (sum (gf m) p (λ q. held (bit_at s q) (e i q))) (e i p)
            (all_is t (λ i. eqb (sum (gf m) p (λ q. held (bit_at s q) (e i q))) (e i p)) c i li))
            ∙ ⊕_self (e i p)

    free_is_sum : (p : ℕ) → p < n → leads p ≡ false → is_sum m t e p ≡ true
    unfolding is_sum is_sum_of
    free_is_sum p l d =
        let (w, hw, sw, u, z) = last_free gf2 gf2_laws n rows leads B.echelon p l d in
        chosen_by w (λ j lj. hw j (omega arith)) ((B.kernel w hw).1 sw) u z
      where
        chosen_by : (w : ℕ → ℕ) → ((j : ℕ) → j < p → w j < 2) → Checks m n t e w → w p ≡ 1 → ((q : ℕ) → p < q → q < n → w q ≡ 0)
            → some (2 ^ p) (is_sum_of m t e p) ≡ true
        chosen_by w hw c u z =
            some-true (2 ^ p) (is_sum_of m t e p) (number_of p w) (number_of-lt p w hw)
            (all_true t (λ i. eqb (sum (gf m) p (λ q. held (bit_at (number_of p w) q) (e i q))) (e i p))
            (λ i li.
            eq-eqb (sum (gf m) p (λ q. held (bit_at (number_of p w) q) (e i q))) (e i p)
            (sum_cong (gf m) p (λ q a. ap (λ (b : ℕ). held b (e i q)) (number_of_bit p w hw q a))
            ∙ ⊕_eq (sum (gf m) p (λ q. held (w q) (e i q))) (e i p) (sym (check_last n e w p i l u z) ∙ c i li))))

    -- a column is a sum of columns before it exactly if no row leads at it
    pub sum_is_free : (p : ℕ) → p < n → is_sum m t e p ≡ not (leads p)
    sum_is_free p l = decided (leads p) refl
      where
        decided : (b : Bool) → leads p ≡ b → is_sum m t e p ≡ not (leads p)
        decided true d = refuted (is_sum m t e p) (led_is_no_sum p l d) ∙ ap not (sym d)
        decided false d = free_is_sum p l d ∙ ap not (sym d)

    -- k = n − rank: the message columns are those without a row
    pub message_count : count n (is_sum m t e) ≡ n - count n leads
    message_count = count_tests n (is_sum m t e) (λ p. not (leads p)) sum_is_free ∙ free_count_lem n leads
