-- A word with the bits at some places turned differs from the word exactly there.
use Rattle.std.specs.Prelude.{◌≡◌, refl, Bool, true, false, List, ℕ, zero, suc, ◌<◌, eqb, length}
use Rattle.std.proofs.Math.Path.{sym, ap, subst}
use Rattle.std.proofs.Common.{◌∙◌, arith, lit<}
use Rattle.std.proofs.Math.Bool.{not, cond}
use Rattle.std.proofs.Math.Seq.{ext_get_or}
use Rattle.algebra.specs.Gf2.{gf2}
use Rattle.algebra.specs.Echelon.{Inside}
use Rattle.algebra.specs.Lists.{entry_of}
use Rattle.algebra.specs.PlaceLaws.{count_tests}
use Rattle.algebra.specs.Places.{count}
use Rattle.algebra.specs.TabulateLaws.{length-tabulate, get_d_tabulate}
use Rattle.algebra.specs.Xor.{◌⊕◌}
use Rattle.slices.specs.Bits.{IsBits}
use Rattle.nearest.specs.Repair.{differs, distance}
use Rattle.nearest.specs.Turned.{turned}

-- ---- one bit

turned_bit : (a : ℕ) (b : Bool) → a < 2 → a ⊕ cond b 1 0 < 2
unfolding ◌⊕◌
turned_bit zero true l = lit< tt
turned_bit zero false l = lit< tt
turned_bit (suc zero) true l = lit< tt
turned_bit (suc zero) false l = lit< tt
turned_bit (suc (suc a)) b l = absurd (omega arith)

turned_unequal : (a : ℕ) (b : Bool) → a < 2 → not (eqb a (a ⊕ cond b 1 0)) ≡ b
unfolding ◌⊕◌
turned_unequal zero true l = refl
turned_unequal zero false l = refl
turned_unequal (suc zero) true l = refl
turned_unequal (suc zero) false l = refl
turned_unequal (suc (suc a)) b l = absurd (omega arith)

turned_other : (a c : ℕ) → a < 2 → c < 2 → a ⊕ cond (not (eqb a c)) 1 0 ≡ c
unfolding ◌⊕◌
turned_other zero zero la lc = refl
turned_other zero (suc zero) la lc = refl
turned_other (suc zero) zero la lc = refl
turned_other (suc zero) (suc zero) la lc = refl
turned_other zero (suc (suc c)) la lc = absurd (omega arith)
turned_other (suc zero) (suc (suc c)) la lc = absurd (omega arith)
turned_other (suc (suc a)) c la lc = absurd (omega arith)

-- ---- the word

module _ (n : ℕ) (p : ℕ → Bool) (r : List ℕ) where
  pub length-turned : length (turned n p r) ≡ n
  unfolding turned
  length-turned = length-tabulate n (λ j. entry_of r j ⊕ cond (p j) 1 0)

  pub turned_at : (j : ℕ) → j < n → entry_of (turned n p r) j ≡ entry_of r j ⊕ cond (p j) 1 0
  unfolding turned
  turned_at j l = get_d_tabulate n (λ j. entry_of r j ⊕ cond (p j) 1 0) j 0 l

  module _ (bits : Inside gf2 n (entry_of r)) where
    pub turned_bits : Inside gf2 n (entry_of (turned n p r))
    turned_bits j l = subst (λ (x : ℕ). x < 2) (sym (turned_at j l)) (turned_bit (entry_of r j) (p j) (bits j l))

    -- it differs from r at as many places as are turned
    pub turned-distance : distance n r (turned n p r) ≡ count n p
    unfolding distance differs
    turned-distance =
        count_tests n (differs r (turned n p r)) p
        (λ j l. ap (λ (x : ℕ). not (eqb (entry_of r j) x)) (turned_at j l) ∙ turned_unequal (entry_of r j) (p j) (bits j l))

    -- turned where r differs from w, it is w
    pub turned_is : {w : List ℕ} → IsBits n w → ((j : ℕ) → j < n → p j ≡ differs r w j) → turned n p r ≡ w
    unfolding differs
    turned_is {w} bw same =
        ext_get_or 0 (turned n p r) w (length-turned ∙ sym bw.long)
        (λ j l. let l' = subst (λ (k : ℕ). j < k) length-turned l in
        turned_at j l' ∙ ap (λ (b : Bool). entry_of r j ⊕ cond b 1 0) (same j l')
        ∙ turned_other (entry_of r j) (entry_of w j) (bits j l') (bw.bits j l'))
