-- A message column by 01's words: "Write each column j of the t × n parity matrix as m × t bits … Column j is a message column if it is a sum of
-- columns before it". The definition adds the entries of columns as elements; bit by bit, in whatever order, it says the same.
use Rattle.std.specs.Prelude.{◌≡◌, refl, ◌↔◌, true, List, ℕ, zero, suc, ◌^◌, ◌<◌}
use Rattle.std.proofs.Math.Path.{sym, ap}
use Rattle.std.proofs.Common.{◌∙◌}
use Rattle.std.proofs.Math.Dec.{eqb}
use borrow.Author.Tests.{eqb-true, eq-eqb}
use Rattle.algebra.specs.AllLaws.{all_is, all_true, some_is, some-true}
use Rattle.algebra.specs.Bits.{bit_at}
use Rattle.algebra.specs.BitLaws.{bit_at-zero, bit_at-⊕, bits_zero}
use Rattle.algebra.specs.Gf2.{gf2}
use Rattle.algebra.specs.Lists.{entry_of}
use Rattle.algebra.specs.Sum.{sum}
use Rattle.algebra.specs.SumLaws.{sum_cong, in_sum}
use Rattle.algebra.specs.Xor.{◌⊕◌}
use Rattle.algebra.specs.XorLaws.{⊕_self, ⊕-lt, ⊕_eq}
use Rattle.field.specs.Gf.{Width, gf}
use Rattle.field.proofs.GfLaws.{gf_laws}
use Rattle.params.specs.declared.Parameters.{Parameters}
use Rattle.parity.specs.Columns.{is_sum_of, is_sum, is_message_column}
use Rattle.parity.specs.Parity.{held_in, bit_at-sum}
use Rattle.parity.specs.Word.{parity_at, held}

-- bit b of row i of the column at place p
abbrev pub column_bit : Parameters → List ℕ → List ℕ → ℕ → ℕ → ℕ → ℕ
column_bit c h cols i b p = bit_at (parity_at c h i (entry_of cols p)) b

-- each of the m × t bits of the column at place j is the sum of those of the columns before it that the bits of s choose
abbrev pub SumsBits : Parameters → List ℕ → List ℕ → ℕ → ℕ → Type 0
SumsBits c h cols j s =
    (i b : ℕ) → i < c.t → b < c.m → column_bit c h cols i b j ≡ sum gf2 j (λ p. held (bit_at s p) (column_bit c h cols i b p))

bit_held : (w x b : ℕ) → bit_at (held w x) b ≡ held w (bit_at x b)
unfolding held
bit_held zero x b = bit_at-zero b
bit_held (suc w) x b = refl

module _ (c : Parameters) (W : Width c.m) (h cols : List ℕ) (j : ℕ) where
  abbrev e : ℕ → ℕ → ℕ
  e i p = parity_at c h i (entry_of cols p)

  abbrev chosen_sum : ℕ → ℕ → ℕ
  chosen_sum s i = sum (gf c.m) j (λ p. held (bit_at s p) (e i p))

  e_in : (i p : ℕ) → e i p < 2 ^ c.m
  unfolding parity_at
  e_in i p = (gf_laws c.m W).in_inv _

  sum_in : (s i : ℕ) → chosen_sum s i < 2 ^ c.m
  sum_in s i =
      in_sum (gf c.m) (gf_laws c.m W) j (λ p. held (bit_at s p) (e i p)) (λ p l. held_in c.m (bit_at s p) (e i p) (e_in i p))

  bit_sum : (s i b : ℕ) → bit_at (chosen_sum s i) b ≡ sum gf2 j (λ p. held (bit_at s p) (column_bit c h cols i b p))
  bit_sum s i b =
      bit_at-sum c.m j (λ p. held (bit_at s p) (e i p)) b ∙ sum_cong gf2 j (λ p l. bit_held (bit_at s p) (e i p) b)

  pub message_column_exactly : (is_message_column c h cols j ≡ true) ↔ ((s : ℕ) × (s < 2 ^ j) × SumsBits c h cols j s)
  unfolding is_message_column is_sum is_sum_of
  message_column_exactly = (
    λ is.
        let (s, l, sums) = some_is (2 ^ j) (is_sum_of c.m c.t e j) is in (
          s,
          l,
          λ i b li lb.
              ap (λ (x : ℕ). bit_at x b) (sym (eqb-true (chosen_sum s i) (e i j) (all_is c.t (λ i. eqb (chosen_sum s i) (e i j)) sums i li)))
              ∙ bit_sum s i b,
        ),
    λ r.
        some-true (2 ^ j) (is_sum_of c.m c.t e j) r.0 r.1
        (all_true c.t (λ i. eqb (chosen_sum r.0 i) (e i j)) (λ i li. eq-eqb (chosen_sum r.0 i) (e i j) (equal r.0 r.2 i li))),
  )
    where
      equal : (s : ℕ) → SumsBits c h cols j s → (i : ℕ) → i < c.t → chosen_sum s i ≡ e i j
      equal s bits i li =
          ⊕_eq (chosen_sum s i) (e i j)
          (bits_zero c.m (chosen_sum s i ⊕ e i j) (⊕-lt c.m (chosen_sum s i) (e i j) (sum_in s i) (e_in i j))
          (λ b lb.
          bit_at-⊕ (chosen_sum s i) (e i j) b ∙ ap (λ (x : ℕ). x ⊕ bit_at (e i j) b) (bit_sum s i b ∙ sym (bits i b li lb)) ∙ ⊕_self (bit_at (e i j) b)))
