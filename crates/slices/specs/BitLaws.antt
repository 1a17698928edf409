-- What the test of bits says.
use Rattle.std.specs.Prelude.{◌≡◌, ◌↔◌, true, List, ℕ, ◌<◌, ltb, length}
use Rattle.std.proofs.Common.{sym, subst, arith, lt-ltb, ltb-true}
use Rattle.std.proofs.Math.Decide.{dec_lt}
use Rattle.std.proofs.Math.ListN.{get_or-eq_default}
use Rattle.algebra.specs.AllLaws.{all_is, all_true}
use Rattle.algebra.specs.Lists.{entry_of}
use Rattle.slices.specs.Bits.{Bits, all_bits, IsBits}

pub bits_are : (w : List ℕ) → (all_bits w ≡ true) ↔ Bits w
unfolding all_bits
bits_are w = (
  λ t j l. ltb-true (entry_of w j) 2 (all_is (length w) (λ j. ltb (entry_of w j) 2) t j l),
  λ b. all_true (length w) (λ j. ltb (entry_of w j) 2) (λ j l. lt-ltb (entry_of w j) 2 (b j l)),
)

-- past the end there is 0
pub bits_anywhere : (w : List ℕ) → Bits w → (j : ℕ) → entry_of w j < 2
bits_anywhere w b j = at (dec_lt j (length w))
  where
    at : Dec (j < length w) → entry_of w j < 2
    at (yes l) = b j l
    at (no nl) = subst (λ (x : ℕ). x < 2) (sym (get_or-eq_default w 0 (omega arith))) (omega arith)

pub received_bits : {n : ℕ} {w : List ℕ} → length w ≡ n → all_bits w ≡ true → IsBits n w
received_bits {n} {w} long t = record { long = long; bits = λ j l. (bits_are w).0 t j (subst (λ (k : ℕ). j < k) (sym long) l) }

pub all_bits_lem : {n : ℕ} {w : List ℕ} → IsBits n w → all_bits w ≡ true
all_bits_lem {n} {w} b = (bits_are w).1 (λ j l. b.bits j (subst (λ (k : ℕ). j < k) b.long l))
