-- A row and its message: the message of an allowed row says that row, and is the only one that does; and which messages say the high neutral.
use Rattle.std.specs.Prelude.{◌≡◌, refl, ◌↔◌, Bool, ◌||◌, List}
use Rattle.std.proofs.Math.Path.{sym, ap, ap₂}
use Rattle.std.proofs.Common.{◌∙◌, subst, arith}
use Rattle.std.proofs.Math.Bool.{true, false, cond}
use Prim.Native.Nat.{ℕ, zero, suc, ◌+◌, ◌-◌, ◌*◌, ◌<◌, ◌≤◌}
use Rattle.std.proofs.Math.Decide.{dec_lt}
use Rattle.std.proofs.Math.Dec.{eqb, ltb, lit<}
use Rattle.std.proofs.Math.ListN.{length}
use Rattle.std.proofs.Math.Seq.{ext_get_or}
use borrow.Author.Tests.{eqb-true, lt-ltb, le-ltb}
use Rattle.algebra.specs.AllLaws.{all_is, all_true}
use Rattle.algebra.specs.Flags.{both_true, both_hold}
use Rattle.algebra.specs.Bits.{bit_at}
use Rattle.algebra.specs.BitLaws.{bit_at_lt}
use Rattle.algebra.specs.Lists.{entry_of}
use Rattle.algebra.specs.TabulateLaws.{length-tabulate, get_d_tabulate}
use Rattle.slices.specs.Bits.{Bits}
use Rattle.slices.specs.BitLaws.{bits_anywhere}
use Rattle.gears.specs.RowLaws.{allowed_gear, allowed_lamp, high_allowed, row_exactly}
use Rattle.gears.specs.Rows.{high_neutral, is_row, gear_bits, row_bits, row_bit, row_message}
use Rattle.gears.specs.Rows.{gear_in, lamp_in, further_zero, is_row_message, lamp_of, lamp_number}

-- ---- an allowed row fits into its bits

pub row_gear : (gear lamp : ℕ) → is_row gear lamp ≡ true → gear < 8
row_gear gear lamp e = allowed_gear ((row_exactly gear lamp).0 e)

pub row_lamp : (gear lamp : ℕ) → is_row gear lamp ≡ true → lamp < 3
row_lamp gear lamp e = allowed_lamp ((row_exactly gear lamp).0 e)

-- the three lamps are told apart
pub lamp_number_lem : (lamp : ℕ) → lamp < 3 → lamp_number (lamp_of lamp) ≡ lamp
unfolding lamp_of lamp_number
lamp_number_lem zero l = refl
lamp_number_lem (suc zero) l = refl
lamp_number_lem (suc (suc zero)) l = refl
lamp_number_lem (suc (suc (suc lamp))) l = absurd (omega arith)

-- ---- numbers from their bits

three_bits : (gear : ℕ) → gear < 8 → bit_at gear 0 + 2 * bit_at gear 1 + 4 * bit_at gear 2 ≡ gear
unfolding bit_at
three_bits gear l = omega arith

two_bits : (lamp : ℕ) → lamp < 4 → bit_at lamp 0 + 2 * bit_at lamp 1 ≡ lamp
unfolding bit_at
two_bits lamp l = omega arith

-- ---- the message of a row

module _ (gear lamp : ℕ) where
  row_bit-lt : (j : ℕ) → row_bit gear lamp j < 2
  unfolding row_bit
  row_bit-lt j = first (ltb j gear_bits)
    where
      second : (b : Bool) → cond b (bit_at lamp (j - gear_bits)) 0 < 2
      second true = bit_at_lt lamp (j - gear_bits)
      second false = lit< tt

      first : (b : Bool) → cond b (bit_at gear j) (cond (ltb j row_bits) (bit_at lamp (j - gear_bits)) 0) < 2
      first true = bit_at_lt gear j
      first false = second (ltb j row_bits)

  -- what stands at a place, by where the place is
  pub row_bit-gear : (j : ℕ) → j < gear_bits → row_bit gear lamp j ≡ bit_at gear j
  unfolding row_bit
  row_bit-gear j l = ap (λ (b : Bool). cond b (bit_at gear j) (cond (ltb j row_bits) (bit_at lamp (j - gear_bits)) 0)) (lt-ltb j gear_bits l)

  pub row_bit-lamp : (j : ℕ) → gear_bits ≤ j → j < row_bits → row_bit gear lamp j ≡ bit_at lamp (j - gear_bits)
  unfolding row_bit
  row_bit-lamp j low l =
      ap₂ (λ (a b : Bool). cond a (bit_at gear j) (cond b (bit_at lamp (j - gear_bits)) 0)) (le-ltb j gear_bits low) (lt-ltb j row_bits l)

  pub row_bit_further : (j : ℕ) → row_bits ≤ j → row_bit gear lamp j ≡ 0
  unfolding row_bit
  row_bit_further j l =
      ap₂ (λ (a b : Bool). cond a (bit_at gear j) (cond b (bit_at lamp (j - gear_bits)) 0)) (le-ltb j gear_bits (omega arith)) (le-ltb j row_bits l)

module _ (k gear lamp : ℕ) where
  pub length_message : length (row_message k gear lamp) ≡ k
  unfolding row_message
  length_message = length-tabulate k (row_bit gear lamp)

  message_at : (j : ℕ) → j < k → entry_of (row_message k gear lamp) j ≡ row_bit gear lamp j
  unfolding row_message
  message_at j l = get_d_tabulate k (row_bit gear lamp) j 0 l

  pub message_bits : Bits (row_message k gear lamp)
  message_bits j l =
      subst (λ (x : ℕ). x < 2) (sym (message_at j (subst (λ (i : ℕ). j < i) length_message l))) (row_bit-lt gear lamp j)

  module _ (wide : row_bits ≤ k) (allowed : is_row gear lamp ≡ true) where
    pub message_gear : gear_in (row_message k gear lamp) ≡ gear
    unfolding gear_in row_bit
    message_gear =
        simp (message_at 0 (omega arith), message_at 1 (omega arith), message_at 2 (omega arith)) (three_bits gear (row_gear gear lamp allowed))

    pub message_lamp : lamp_in (row_message k gear lamp) ≡ lamp
    unfolding lamp_in row_bit
    message_lamp =
        let small : lamp < 3 = row_lamp gear lamp allowed in
        simp (message_at 3 (omega arith), message_at 4 (omega arith)) (two_bits lamp (omega arith))

    pub message_is_row : is_row_message (row_message k gear lamp) ≡ true
    unfolding is_row_message further_zero
    message_is_row =
        both_hold (ap₂ is_row message_gear message_lamp ∙ allowed)
        (all_true (length (row_message k gear lamp)) (λ j. ltb j row_bits || eqb (entry_of (row_message k gear lamp) j) 0)
        (λ j l. further j (subst (λ (i : ℕ). j < i) length_message l) (dec_lt j row_bits)))
      where
        further : (j : ℕ) → j < k → Dec (j < row_bits) → (ltb j row_bits || eqb (entry_of (row_message k gear lamp) j) 0) ≡ true
        further j l (yes s) = ap (λ (b : Bool). b || eqb (entry_of (row_message k gear lamp) j) 0) (lt-ltb j row_bits s)
        further j l (no ns) =
            ap₂ (λ (a : Bool) (x : ℕ). a || eqb x 0) (le-ltb j row_bits (omega arith)) (message_at j l ∙ row_bit_further gear lamp j (omega arith))

-- ---- the only message that says it

module _ (w : List ℕ) (bits : Bits w) where
  bit : (j : ℕ) → entry_of w j < 2
  bit = bits_anywhere w bits

  bit_said : (j : ℕ) → (row_bits ≤ j → entry_of w j ≡ 0) → entry_of w j ≡ row_bit (gear_in w) (lamp_in w) j
  unfolding gear_in lamp_in row_bit bit_at
  bit_said zero z = omega (arith, bit 0, bit 1, bit 2)
  bit_said (suc zero) z = omega (arith, bit 0, bit 1, bit 2)
  bit_said (suc (suc zero)) z = omega (arith, bit 0, bit 1, bit 2)
  bit_said (suc (suc (suc zero))) z = omega (arith, bit 3, bit 4)
  bit_said (suc (suc (suc (suc zero)))) z = omega (arith, bit 3, bit 4)
  bit_said (suc (suc (suc (suc (suc j))))) z =
      z (omega arith) ∙ sym (row_bit_further (gear_in w) (lamp_in w) (suc (suc (suc (suc (suc j))))) (omega arith))

  pub message_only : is_row_message w ≡ true → w ≡ row_message (length w) (gear_in w) (lamp_in w)
  unfolding is_row_message further_zero
  message_only e =
      ext_get_or 0 w (row_message (length w) (gear_in w) (lamp_in w)) (sym (length_message (length w) (gear_in w) (lamp_in w)))
      (λ j l. bit_said j (further j l) ∙ sym (message_at (length w) (gear_in w) (lamp_in w) j l))
    where
      further : (j : ℕ) → j < length w → row_bits ≤ j → entry_of w j ≡ 0
      further j l far =
          eqb-true (entry_of w j) 0
          (ap (λ (b : Bool). b || eqb (entry_of w j) 0) (sym (le-ltb j row_bits far))
          ∙ all_is (length w) (λ j. ltb j row_bits || eqb (entry_of w j) 0)
          (both_true (is_row (gear_in w) (lamp_in w)) (further_zero w) e).1 j l)

-- ---- the high neutral

-- "A message with gear 7, a lamp of 0 to 2 and further bits 0" is one of an allowed row, and "any other with 7" is not.
pub high_message : (w : List ℕ) → gear_in w ≡ high_neutral → (is_row_message w ≡ true) ↔ ((lamp_in w ≤ 2) × (further_zero w ≡ true))
unfolding is_row_message
high_message w high = (
  λ t.
      let (row, further) = both_true (is_row (gear_in w) (lamp_in w)) (further_zero w) t in
      let lamp : lamp_in w < 3 = row_lamp (gear_in w) (lamp_in w) row in (omega arith, further),
  λ r. both_hold (ap (λ (gear : ℕ). is_row gear (lamp_in w)) high ∙ (row_exactly high_neutral (lamp_in w)).1 (high_allowed (lamp_in w) r.0)) r.1,
)
