-- The sums that a signature inverts: the last value of its essence, and those at the bits of i. They keep 01's rule for 1/h, and the essence is
-- independent exactly if they are distinct and none is zero.
use Rattle.std.specs.Prelude.{◌≡◌, ◌≢◌, List, ℕ, suc, ◌+◌, ◌-◌, ◌^◌, ◌<◌, length}
use Rattle.std.proofs.Common.{sym, ap₂, ◌∙◌, arith}
use Rattle.std.proofs.Math.Path.{ap, subst}
use Rattle.std.proofs.Math.Nat.{two-pow-succ}
use Rattle.std.proofs.Math.Decide.{dec_lt}
use Rattle.std.proofs.Math.Pow.{pow-lt, pow_pos}
use Rattle.algebra.specs.Distinct.{Distinct}
use Rattle.algebra.specs.Lists.{entry_of}
use Rattle.algebra.specs.Xor.{◌⊕◌}
use Rattle.algebra.specs.XorLaws.{xor, ⊕_eq, ⊕-lt, ⊕-zero, ⊕_self}
use Rattle.field.specs.Gf.{Width}
use Rattle.slices.specs.Elements.{Elements}
use Rattle.signature.specs.TestLaws.{Affine}
use Rattle.essence.specs.Affine.{top_bit}
use Rattle.essence.specs.Choices.{choice_sum, Independent}
use Rattle.essence.proofs.ChoiceLaws.{choice_in, choice_⊕, choice_empty, choice_single}
use Rattle.essence.specs.Essence.{chosen_at}

-- e + 1 values
pub record Values (m e : ℕ) (v : List ℕ) : Type 0 where
  pub width : Width m
  pub long : length v ≡ suc e
  pub elements : Elements m v

module _ {m e : ℕ} {v : List ℕ} (E : Values m e v) where
  abbrev S : ℕ → ℕ
  S = choice_sum m v

  abbrev T : ℕ → ℕ
  T = chosen_at m e v

  last_place : e < length v
  last_place = omega (arith, E.long)

  pub chosen_in : (i : ℕ) → T i < 2 ^ m
  unfolding chosen_at
  chosen_in i = choice_in m E.width v E.elements (2 ^ e + i)

  -- the last value, and the choice of the others
  chosen_split : (i : ℕ) → i < 2 ^ e → T i ≡ entry_of v e ⊕ S i
  unfolding chosen_at
  chosen_split i l =
      ap S (top_bit e i l) ∙ choice_⊕ m E.width v (2 ^ e) i ∙ ap (λ (x : ℕ). x ⊕ S i) (choice_single m E.width v e last_place)

  pub chosen_first : T 0 ≡ entry_of v e
  chosen_first =
      chosen_split 0 (pow_pos e) ∙ ap (λ (x : ℕ). entry_of v e ⊕ x) (choice_empty m E.width v) ∙ ⊕-zero (entry_of v e)

  pub chosen_power : (s : ℕ) → s < e → T (2 ^ s) ≡ entry_of v e ⊕ entry_of v s
  chosen_power s l =
      chosen_split (2 ^ s) (pow-lt l) ∙ ap (λ (x : ℕ). entry_of v e ⊕ x) (choice_single m E.width v s (omega (arith, E.long)))

  pub chosen_affine : Affine (2 ^ e) T
  chosen_affine i j li lj =
      chosen_split (i ⊕ j) (⊕-lt e i j li lj) ∙ ap (λ (x : ℕ). entry_of v e ⊕ x) (choice_⊕ m E.width v i j)
      ∙ sorted (entry_of v e) (S i) (S j)
      ∙ sym
      (ap₂ (λ (x y : ℕ). x ⊕ y) (ap₂ (λ (x y : ℕ). x ⊕ y) (chosen_split i li) (chosen_split j lj)) chosen_first)
    where
      sorted : (a b c : ℕ) → a ⊕ (b ⊕ c) ≡ (a ⊕ b) ⊕ (a ⊕ c) ⊕ a
      sorted a b c = simp xor

  -- two that are equal are a choice that sums to zero
  equal_sums : (i j : ℕ) → i < 2 ^ e → j < 2 ^ e → T i ≡ T j → S (i ⊕ j) ≡ 0
  equal_sums i j li lj q =
      choice_⊕ m E.width v i j ∙ cancelled (entry_of v e) (S i) (S j)
      ∙ ap₂ (λ (x y : ℕ). x ⊕ y) (sym (chosen_split i li)) (sym (chosen_split j lj))
      ∙ ap (λ (x : ℕ). x ⊕ T j) q
      ∙ ⊕_self (T j)
    where
      cancelled : (a b c : ℕ) → b ⊕ c ≡ (a ⊕ b) ⊕ (a ⊕ c)
      cancelled a b c = simp xor

  -- ---- what independence says of the sums

  all_choices : (c : ℕ) → c < 2 ^ e + 2 ^ e → c < 2 ^ length v
  all_choices c l = subst (λ (k : ℕ). c < k) (sym (ap (λ (k : ℕ). 2 ^ k) E.long ∙ two-pow-succ e)) l

  pub chosen_nonzero : Independent m v → (i : ℕ) → i < 2 ^ e → T i ≢ 0
  unfolding chosen_at
  chosen_nonzero I i l = I (2 ^ e + i) some_value (all_choices (2 ^ e + i) (omega arith))
    where
      some_value : 2 ^ e + i ≢ 0
      some_value z = omega (arith, pow_pos e)

  pub chosen_distinct : Independent m v → Distinct (2 ^ e) T
  chosen_distinct I i j l lj q = I (i ⊕ j) apart (all_choices (i ⊕ j) (omega (arith, ⊕-lt e i j li lj))) (equal_sums i j li lj q)
    where
      li : i < 2 ^ e
      li = omega arith

      apart : i ⊕ j ≢ 0
      apart z =
          let same = ⊕_eq i j z in omega arith

  pub independent_by : ((i : ℕ) → i < 2 ^ e → T i ≢ 0) → Distinct (2 ^ e) T → Independent m v
  unfolding chosen_at
  independent_by nonzero distinct c ne l = decided (dec_lt c (2 ^ e))
    where
      below : c < 2 ^ e + 2 ^ e
      below = subst (λ (k : ℕ). c < k) (ap (λ (k : ℕ). 2 ^ k) E.long ∙ two-pow-succ e) l

      decided : Dec (c < 2 ^ e) → S c ≢ 0
      decided (yes low) z =
          distinct 0 c (omega arith) low
          (chosen_first ∙ sym (⊕-zero (entry_of v e)) ∙ ap (λ (x : ℕ). entry_of v e ⊕ x) (sym z) ∙ sym (chosen_split c low))
      decided (no high) z =
          let split : 2 ^ e + (c - 2 ^ e) ≡ c = omega arith in
          nonzero (c - 2 ^ e) (omega (arith, below)) (ap S split ∙ z)
