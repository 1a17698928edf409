-- Rows of bits packed into machine words of 64 bits, as lists of numbers.
use Rattle.std.specs.Prelude.{◌≡◌, ◌≢◌, List, ℕ, ◌*◌, ◌/◌, ◌%◌, ◌^◌, ◌<◌, length, set}
use Rattle.std.proofs.Common.{sym, ap, ◌∙◌, arith, length-set, get_or-set_same, get_or-set_other}
use Rattle.std.proofs.Math.Decide.{ℕ_discrete}
use Rattle.algebra.specs.Bits.{bit_at}
use Rattle.algebra.specs.BitLaws.{bit_at-⊕, bit_at-zero}
use Rattle.algebra.specs.FromBits.{shifted_at, shifted_other}
use Rattle.algebra.specs.Tabulate.{tabulate}
use Rattle.algebra.specs.TabulateLaws.{length-tabulate, get_d_tabulate}
use Rattle.algebra.specs.Xor.{◌⊕◌}
use Rattle.algebra.specs.XorLaws.{⊕-zero}
use Rattle.algebra.specs.Lists.{entry_of}

-- bit p of a packed row
unfoldable pub packed_bit : List ℕ → ℕ → ℕ
packed_bit row p = bit_at (entry_of row (p / 64)) (p % 64)

-- the row holds f at its first n places
abbrev pub Packs : ℕ → (ℕ → ℕ) → List ℕ → Type 0
Packs n f row = (j : ℕ) → j < n → packed_bit row j ≡ f j

-- what a row holds after another was added to it
pub record Added (from old new : List ℕ) : Type 0 where
  pub long : length new ≡ length old
  pub sum : (p : ℕ) → p < length old * 64 → packed_bit new p ≡ packed_bit old p ⊕ packed_bit from p

pub record Cleared (old new : List ℕ) : Type 0 where
  pub long : length new ≡ length old
  pub empty : (p : ℕ) → p < length old * 64 → packed_bit new p ≡ 0

-- a bit was added at place p
pub record Marked (old : List ℕ) (p b : ℕ) (new : List ℕ) : Type 0 where
  pub long : length new ≡ length old
  pub at : packed_bit new p ≡ packed_bit old p ⊕ b
  pub other : (q : ℕ) → q ≢ p → packed_bit new q ≡ packed_bit old q

-- two places with the same word and the same bit in it are one
place : (p q : ℕ) → p / 64 ≡ q / 64 → p % 64 ≡ q % 64 → p ≡ q
place p q d r = omega arith

pub marked : (old : List ℕ) (p b : ℕ) → p < length old * 64 → b < 2
    → Marked old p b (set old (p / 64) (entry_of old (p / 64) ⊕ b * 2 ^ (p % 64)))
unfolding packed_bit
marked old p b l h =
    record {
      long = length-set old (p / 64) (entry_of old (p / 64) ⊕ b * 2 ^ (p % 64));
      at =
          ap (λ (x : ℕ). bit_at x (p % 64)) (get_or-set_same old (p / 64) (entry_of old (p / 64) ⊕ b * 2 ^ (p % 64)) 0 (omega arith))
          ∙ bit_at-⊕ (entry_of old (p / 64)) (b * 2 ^ (p % 64)) (p % 64)
          ∙ ap (λ (x : ℕ). bit_at (entry_of old (p / 64)) (p % 64) ⊕ x) (shifted_at b (p % 64) h);
      other = λ q ne. at_other q ne (ℕ_discrete (q / 64) (p / 64));
    }
  where
    new : ℕ
    new = entry_of old (p / 64) ⊕ b * 2 ^ (p % 64)

    at_other : (q : ℕ) → q ≢ p → Dec (q / 64 ≡ p / 64) → bit_at (entry_of (set old (p / 64) new) (q / 64)) (q % 64)
        ≡ bit_at (entry_of old (q / 64)) (q % 64)
    at_other q ne (no away) = ap (λ (x : ℕ). bit_at x (q % 64)) (get_or-set_other old (p / 64) (q / 64) new 0 away)
    at_other q ne (yes same) =
        ap (λ (k : ℕ). bit_at (entry_of (set old (p / 64) new) k) (q % 64)) same
        ∙ ap (λ (x : ℕ). bit_at x (q % 64)) (get_or-set_same old (p / 64) new 0 (omega arith))
        ∙ bit_at-⊕ (entry_of old (p / 64)) (b * 2 ^ (p % 64)) (q % 64)
        ∙ ap (λ (x : ℕ). bit_at (entry_of old (p / 64)) (q % 64) ⊕ x) (shifted_other b (p % 64) (q % 64) h (λ r. ne (place q p same r)))
        ∙ ⊕-zero (bit_at (entry_of old (p / 64)) (q % 64)) ∙ ap (λ (k : ℕ). bit_at (entry_of old k) (q % 64)) (sym same)

-- elementwise, as a loop leaves it
pub added : (from old : List ℕ) → Added from old (tabulate (length old) (λ k. entry_of old k ⊕ entry_of from k))
unfolding packed_bit
added from old =
    record {
      long = length-tabulate (length old) (λ k. entry_of old k ⊕ entry_of from k);
      sum =
          λ p l.
          ap (λ (x : ℕ). bit_at x (p % 64)) (get_d_tabulate (length old) (λ k. entry_of old k ⊕ entry_of from k) (p / 64) 0 (omega arith))
          ∙ bit_at-⊕ (entry_of old (p / 64)) (entry_of from (p / 64)) (p % 64);
    }

pub cleared : (old : List ℕ) → Cleared old (tabulate (length old) (λ k. 0))
unfolding packed_bit
cleared old =
    record {
      long = length-tabulate (length old) (λ k. 0);
      empty = λ p l. ap (λ (x : ℕ). bit_at x (p % 64)) (get_d_tabulate (length old) (λ k. 0) (p / 64) 0 (omega arith)) ∙ bit_at-zero (p % 64);
    }
