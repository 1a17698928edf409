-- What the definition's search finds: any code word of n bits near the word received makes it repairable, and what is then found is one.
--
-- That there is no other is the theorem of `Found`.
use Rattle.std.specs.Prelude.{◌≡◌, refl, Bool, true, false, cond, not, List, ℕ, zero, suc, ◌+◌, ◌^◌, ◌≤◌, eqb, leb}
use Rattle.std.proofs.Common.{sym, ap, ap₂, ◌∙◌}
use Rattle.std.proofs.Math.ListN.{length}
use borrow.Author.Tests.{leb-true, le-leb, eqb-true, eqb-false, eq-eqb, ne_eqb}
use Rattle.algebra.specs.AllLaws.{some-true, some_is}
use Rattle.algebra.specs.Flags.{both_true, both_hold}
use Rattle.algebra.specs.FromBits.{number_of, number_of-lt}
use Rattle.algebra.specs.Lists.{entry_of}
use Rattle.algebra.specs.PlaceLaws.{count_tests, found_passes}
use Rattle.algebra.specs.Places.{count, found}
use Rattle.slices.specs.Bits.{IsBits}
use Rattle.params.specs.declared.Parameters.{Parameters}
use Rattle.parity.specs.Columns.{word_of}
use Rattle.parity.specs.Encoding.{word_bits, word_number}
use Rattle.parity.specs.Word.{is_code_word}
use Rattle.nearest.specs.Repair.{differs, distance, is_near, is_repairable, repaired_of}

pub distance_self : (n : ℕ) (r : List ℕ) → distance n r r ≡ 0
unfolding distance count differs
distance_self zero r = refl
distance_self (suc n) r =
    ap₂ (λ (k : ℕ) (b : Bool). k + cond (not b) 1 0) (distance_self n r) (eq-eqb (entry_of r n) (entry_of r n) refl)

pub distance_comm : (n : ℕ) (a b : List ℕ) → distance n a b ≡ distance n b a
unfolding distance differs
distance_comm n a b =
    count_tests n (differs a b) (differs b a) (λ j l. ap not (decided (entry_of a j) (entry_of b j) (eqb (entry_of a j) (entry_of b j)) refl))
  where
    decided : (x y : ℕ) (t : Bool) → eqb x y ≡ t → eqb x y ≡ eqb y x
    decided x y true e = e ∙ sym (eq-eqb y x (sym (eqb-true x y e)))
    decided x y false e = e ∙ sym (ne_eqb y x (λ q. eqb-false x y e (sym q)))

module _ (c : Parameters) (h cols : List ℕ) where
  pub repaired_bits : (r : List ℕ) → IsBits (length cols) (repaired_of c h cols r)
  unfolding repaired_of
  repaired_bits r = word_bits (length cols) (found (2 ^ length cols) (λ s. is_near c h cols r (word_of (length cols) s)))

  -- what near means
  pub near_is : (r w : List ℕ) → is_near c h cols r w ≡ true → (is_code_word c h cols w ≡ true) × (distance (length cols) r w ≤ c.t)
  unfolding is_near
  near_is r w e =
      let (code, close) = both_true (is_code_word c h cols w) (leb (distance (length cols) r w) c.t) e in
      (code, leb-true (distance (length cols) r w) c.t close)

  pub near : (r w : List ℕ) → is_code_word c h cols w ≡ true → distance (length cols) r w ≤ c.t → is_near c h cols r w ≡ true
  unfolding is_near
  near r w code close = both_hold code (le-leb (distance (length cols) r w) c.t close)

  pub repairable : (r : List ℕ) {w : List ℕ} → IsBits (length cols) w → is_near c h cols r w ≡ true → is_repairable c h cols r ≡ true
  unfolding is_repairable
  repairable r {w} b e =
      some-true (2 ^ length cols) (λ s. is_near c h cols r (word_of (length cols) s)) (number_of (length cols) (entry_of w))
      (number_of-lt (length cols) (entry_of w) b.bits) (ap (is_near c h cols r) (word_number b) ∙ e)

  pub repaired_near : (r : List ℕ) → is_repairable c h cols r ≡ true → is_near c h cols r (repaired_of c h cols r) ≡ true
  unfolding is_repairable repaired_of
  repaired_near r e =
      let (s, l, close) = some_is (2 ^ length cols) (λ s. is_near c h cols r (word_of (length cols) s)) e in
      found_passes (2 ^ length cols) (λ s. is_near c h cols r (word_of (length cols) s)) s l close
