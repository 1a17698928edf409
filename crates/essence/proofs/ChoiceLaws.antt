-- Laws of choices: the sum of two choices' values is that of the choices' ⊕, a choice of one value sums to it, and what the test of 17 says.
use Rattle.std.specs.Prelude.{◌≡◌, ◌≢◌, ◌↔◌, true, false, List, ℕ, ◌*◌, ◌/◌, ◌%◌, ◌^◌, ◌<◌, eqb}
use Rattle.std.proofs.Common.{sym, ◌∙◌, true≢false, lit<}
use Rattle.std.proofs.Math.Path.{ap}
use Rattle.std.proofs.Math.Bool.{not}
use Rattle.std.proofs.Math.Nat.{zero-mul, one-mul}
use Rattle.std.proofs.Math.ListN.{length}
use borrow.Author.Tests.{eqb-true, eqb-false, eq-eqb, ne_eqb, not-true}
use Rattle.algebra.specs.AllLaws.{some_is, some-true}
use Rattle.algebra.specs.Bits.{bit_at}
use Rattle.algebra.specs.BitLaws.{bit_times_lt, bit_at_lt, ⊕_bit}
use Rattle.algebra.specs.Flags.{both_true, both_hold, refuted}
use Rattle.algebra.specs.FromBits.{shifted_at, shifted_other}
use Rattle.algebra.specs.Lists.{entry_of}
use Rattle.algebra.specs.SumLaws.{sum_cong, sum-add, sum_single, in_sum}
use Rattle.algebra.specs.Xor.{◌⊕◌}
use Rattle.algebra.specs.XorLaws.{⊕_self, ⊕-div}
use Rattle.field.specs.Gf.{Width, gf}
use Rattle.field.proofs.GfLaws.{gf_laws}
use Rattle.slices.specs.Elements.{Elements}
use Rattle.essence.specs.Choices.{choice_sum, vanishes, dependent, Independent, Dependent}

-- the bits of a power of two
power_bit : (s : ℕ) → bit_at (2 ^ s) s ≡ 1
power_bit s = ap (λ (x : ℕ). bit_at x s) (sym (one-mul (2 ^ s))) ∙ shifted_at 1 s (lit< tt)

power_other : (s q : ℕ) → q ≢ s → bit_at (2 ^ s) q ≡ 0
power_other s q ne = ap (λ (x : ℕ). bit_at x q) (sym (one-mul (2 ^ s))) ∙ shifted_other 1 s q (lit< tt) ne

module _ (m : ℕ) (W : Width m) (v : List ℕ) where
  pub choice_in : Elements m v → (c : ℕ) → choice_sum m v c < 2 ^ m
  unfolding choice_sum
  choice_in elements c =
      in_sum (gf m) (gf_laws m W) (length v) (λ s. bit_at c s * entry_of v s)
      (λ s l. bit_times_lt m (bit_at c s) (entry_of v s) (bit_at_lt c s) (elements s l))

  pub choice_⊕ : (c d : ℕ) → choice_sum m v (c ⊕ d) ≡ choice_sum m v c ⊕ choice_sum m v d
  unfolding choice_sum bit_at
  choice_⊕ c d =
      sum_cong (gf m) (length v)
      (λ s l. ap (λ (x : ℕ). (x % 2) * entry_of v s) (⊕-div c d s) ∙ ⊕_bit (c / 2 ^ s) (d / 2 ^ s) (entry_of v s))
      ∙ sum-add (gf m) (gf_laws m W) (length v) (λ s. bit_at c s * entry_of v s) (λ s. bit_at d s * entry_of v s)

  pub choice_empty : choice_sum m v 0 ≡ 0
  choice_empty = ap (choice_sum m v) (sym (⊕_self 0)) ∙ choice_⊕ 0 0 ∙ ⊕_self (choice_sum m v 0)

  pub choice_single : (s : ℕ) → s < length v → choice_sum m v (2 ^ s) ≡ entry_of v s
  unfolding choice_sum
  choice_single s l =
      sum_single (gf m) (gf_laws m W) (length v) s (λ q. bit_at (2 ^ s) q * entry_of v q) l
      (λ q lq ne. ap (λ (b : ℕ). b * entry_of v q) (power_other s q ne) ∙ zero-mul (entry_of v q))
      ∙ ap (λ (b : ℕ). b * entry_of v s) (power_bit s)
      ∙ one-mul (entry_of v s)

-- ---- 17

module _ (m : ℕ) (v : List ℕ) where
  pub dependent_is : (dependent m v ≡ true) ↔ Dependent m v
  unfolding dependent vanishes
  dependent_is = (
    λ t.
        let (c, l, h) = some_is (2 ^ length v) (vanishes m v) t in
        let (some_value, zero_sum) = both_true (not (eqb c 0)) (eqb (choice_sum m v c) 0) h in
        (c, eqb-false c 0 (not-true (eqb c 0) some_value), l, eqb-true (choice_sum m v c) 0 zero_sum),
    λ d.
        let (c, ne, l, e) = d in
        some-true (2 ^ length v) (vanishes m v) c l (both_hold (ap not (ne_eqb c 0 ne)) (eq-eqb (choice_sum m v c) 0 e)),
  )

  pub independent_is : (dependent m v ≡ false) ↔ Independent m v
  independent_is = (
    λ f c ne l e. true≢false (sym (dependent_is.1 (c, ne, l, e)) ∙ f),
    λ i. refuted (dependent m v)
        (λ t.
        let (c, ne, l, e) = dependent_is.0 t in i c ne l e),
  )
