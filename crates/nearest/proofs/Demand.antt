-- Demand 3, as laws of the definition of repair: "Whatever bits the spark turns: under every accepted card, for every word of n bits received …
-- repair ends in one of two ways. Either the buffer for the repaired word then holds a code word that differs from the word received in at most t
-- places, the count given is the number of those places, and every other code word differs from the word received in more than t places; or the
-- buffer is unchanged and the number is 10. It is 10 exactly when every code word differs from the word received in more than t places."
--
-- The number is 10 where `is_repairable` is false; else `repaired_of` is what the buffer holds, and `distance` from the word received is the count. The
-- laws are stated for every list of columns of the code; the whole code is one of them (`whole_selected`).
use Rattle.std.specs.Prelude.{◌≡◌, ◌≢◌, ◌↔◌, true, false, List, ℕ, ◌<◌, ◌≤◌, length}
use Rattle.std.proofs.Common.{sym, ◌∙◌, arith}
use Rattle.std.proofs.lemmas.Bool.{false≢true}
use Rattle.std.proofs.Math.Decide.{dec_lt}
use Rattle.algebra.specs.Flags.{refuted}
use Rattle.field.specs.Gf.{gf}
use Rattle.slices.specs.Bits.{IsBits}
use Rattle.params.specs.declared.Parameters.{Parameters}
use Rattle.params.specs.Code.{Accepted}
use Rattle.parity.specs.Selected.{Selected}
use Rattle.parity.specs.Word.{syndrome_at}
use Rattle.nearest.proofs.Errors.{F, roots}
use Rattle.nearest.specs.Exists.{pass_exists}
use Rattle.nearest.proofs.Found.{near_is_found}
use Rattle.nearest.specs.Repair.{distance, is_repairable, repaired_of}
use Rattle.nearest.proofs.Search.{repaired_bits, near_is, near, repairable, repaired_near}
use Rattle.nearest.specs.CodeWord.{CodeWord}

module _ {c : Parameters} {h cols : List ℕ} (A : Accepted c h) (S : Selected c.n cols) {r : List ℕ} (received : IsBits (length cols) r) where
  -- no two code words are near: both are what the pass finds
  pub near_unique : {w v : List ℕ} → CodeWord c h cols w → CodeWord c h cols v → distance (length cols) r w ≤ c.t
      → distance (length cols) r v ≤ c.t → w ≡ v
  near_unique {w} {v} cw cv lw lv =
      let (P, d, R, f, I, least) = pass_exists (gf c.m) (F A) (roots A) (syndrome_at c h cols r) in
      sym (near_is_found A S received I least cw.bits (near c h cols r w cw.code lw))
      ∙ near_is_found A S received I least cv.bits (near c h cols r v cv.code lv)

  -- "Either the buffer for the repaired word then holds a code word"
  pub repaired_code_word : is_repairable c h cols r ≡ true → CodeWord c h cols (repaired_of c h cols r)
  repaired_code_word e =
      record {
        bits = repaired_bits c h cols r;
        code = (near_is c h cols r (repaired_of c h cols r) (repaired_near c h cols r e)).0;
      }

  -- "that differs from the word received in at most t places"
  pub repaired_within : is_repairable c h cols r ≡ true → distance (length cols) r (repaired_of c h cols r) ≤ c.t
  repaired_within e = (near_is c h cols r (repaired_of c h cols r) (repaired_near c h cols r e)).1

  -- "and every other code word differs from the word received in more than t places"
  pub others_beyond : is_repairable c h cols r ≡ true → {w : List ℕ} → CodeWord c h cols w → w ≢ repaired_of c h cols r
      → c.t < distance (length cols) r w
  others_beyond e {w} cw other = decided (dec_lt c.t (distance (length cols) r w))
    where
      decided : Dec (c.t < distance (length cols) r w) → c.t < distance (length cols) r w
      decided (yes l) = l
      decided (no nl) = absurd (other (near_unique cw (repaired_code_word e) (omega arith) (repaired_within e)))

  -- "It is 10 exactly when every code word differs from the word received in more than t places."
  pub too_far_exactly : (is_repairable c h cols r ≡ false) ↔ ((w : List ℕ) → CodeWord c h cols w → c.t < distance (length cols) r w)
  too_far_exactly = (
    λ e w cw. beyond e cw (dec_lt c.t (distance (length cols) r w)),
    λ all. refuted (is_repairable c h cols r) (λ e. within (repaired_within e) (all (repaired_of c h cols r) (repaired_code_word e))),
  )
    where
      within : {k : ℕ} → k ≤ c.t → c.t < k → ⊥
      within l l' = omega arith

      near_repairable : {w : List ℕ} → CodeWord c h cols w → distance (length cols) r w ≤ c.t → is_repairable c h cols r ≡ true
      near_repairable {w} cw l = repairable c h cols r cw.bits (near c h cols r w cw.code l)

      beyond : is_repairable c h cols r ≡ false → {w : List ℕ} → CodeWord c h cols w → Dec (c.t < distance (length cols) r w)
          → c.t < distance (length cols) r w
      beyond e cw (yes l) = l
      beyond e cw (no nl) = absurd (false≢true (sym e ∙ near_repairable cw (omega arith)))
