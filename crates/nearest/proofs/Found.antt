-- What the pass finds: the places whose support is a root of its pair are exactly those where the word received differs from any code word near it.
--
-- So the word with these places turned is that code word, and it can be tested without knowing it: it is a code word and few places were turned,
-- or no code word is near.
use Rattle.std.specs.Prelude.{◌≡◌, ◌⊎◌, Bool, true, false, List, length}
use Rattle.std.proofs.Math.Path.{refl}
use Rattle.std.proofs.Common.{sym, ap, ◌∙◌, subst, inl, inr, arith, eqb-true, eq-eqb}
use Rattle.std.proofs.lemmas.Bool.{false≢true}
use Prim.Native.Nat.{ℕ, ◌<◌, ◌≤◌}
use Rattle.algebra.specs.Flags.{refuted}
use Rattle.algebra.specs.Locator.{Explains, errors_are_roots, roots_are_errors}
use Rattle.algebra.specs.Locator.Pass.{Invariant}
use Rattle.algebra.specs.Locator.Split.{Halves, value}
use Rattle.algebra.specs.Places.{count}
use Rattle.field.specs.Gf.{gf}
use Rattle.slices.specs.Bits.{IsBits}
use Rattle.params.specs.declared.Parameters.{Parameters}
use Rattle.params.specs.Code.{Accepted}
use Rattle.parity.specs.Selected.{Selected}
use Rattle.parity.specs.Word.{syndrome_at, is_code_word}
use Rattle.nearest.proofs.Errors.{z, L, error_place, F, in_support, apart, same_place, explains}
use Rattle.nearest.specs.Decoding.{is_error}
use Rattle.nearest.specs.Places.{place_is, place_of}
use Rattle.nearest.specs.Repair.{differs, distance, is_near, is_repairable, repaired_of}
use Rattle.nearest.proofs.Search.{repaired_bits, near_is, near, repairable, repaired_near}
use Rattle.nearest.specs.Turned.{turned}
use Rattle.nearest.proofs.TurnedLaws.{length-turned, turned_bits, turned-distance, turned_is}

module _ {c : Parameters} {h cols : List ℕ} (A : Accepted c h) (S : Selected c.n cols) {r : List ℕ} (br : IsBits (length cols) r)
    {pair rest : Halves ℕ} {d f : ℕ} (I : Invariant (gf c.m) (z c h) (syndrome_at c h cols r) c.t pair d rest f) (least : d ≤ f) where
  pub located : {w : List ℕ} → IsBits (length cols) w → is_code_word c h cols w ≡ true → distance (length cols) r w ≤ c.t
      → (j : ℕ) → j < length cols → is_error c h cols pair j ≡ differs r w j
  unfolding is_error
  located {w} bw code close j l = decided (differs r w j) refl
    where
      at : ℕ → ℕ
      at j = value (gf c.m) pair (L c h cols j)

      E : Explains (gf c.m) c.t (z c h) (syndrome_at c h cols r) (count (length cols) (differs r w))
          (λ k. L c h cols (error_place (length cols) r w k))
      E = explains A S br bw code close

      root : differs r w j ≡ true → at j ≡ 0
      root e =
          let (few, is) = place_of (length cols) (differs r w) j l e in
          ap at (sym is) ∙ errors_are_roots (gf c.m) (F A) E I least (count j (differs r w)) few

      error_at : at j ≡ 0 → differs r w j ≡ true
      error_at v =
          let (k, lk, same) =
          roots_are_errors (gf c.m) (F A) E I least (L c h cols j) (in_support A S j l) (λ i li e. apart A S i j li l (sym e)) v in
          let (inside, passes, before) = place_is (length cols) (differs r w) k lk in
          ap (differs r w) (same_place A S j (error_place (length cols) r w k) l inside same) ∙ passes

      decided : (b : Bool) → differs r w j ≡ b → is_error c h cols pair j ≡ differs r w j
      decided true e = eq-eqb (at j) 0 (root e) ∙ sym e
      decided false e = refuted (is_error c h cols pair j) (λ q. false≢true (sym e ∙ error_at (eqb-true (at j) 0 q))) ∙ sym e

  -- ---- the word with the places found turned

  abbrev answer : List ℕ
  answer = turned (length cols) (is_error c h cols pair) r

  abbrev error_count : ℕ
  error_count = count (length cols) (is_error c h cols pair)

  answer_bits : IsBits (length cols) answer
  answer_bits =
      record {
        long = length-turned (length cols) (is_error c h cols pair) r;
        bits = turned_bits (length cols) (is_error c h cols pair) r br.bits;
      }

  -- a code word near r is that word
  pub near_is_found : {w : List ℕ} → IsBits (length cols) w → is_near c h cols r w ≡ true → answer ≡ w
  near_is_found {w} bw e =
      let (code, close) = near_is c h cols r w e in
      turned_is (length cols) (is_error c h cols pair) r br.bits bw (located bw code close)

  pub found_is_repaired : is_repairable c h cols r ≡ true → answer ≡ repaired_of c h cols r
  found_is_repaired e = near_is_found (repaired_bits c h cols r) (repaired_near c h cols r e)

  found_distance : distance (length cols) r answer ≡ error_count
  found_distance = turned-distance (length cols) (is_error c h cols pair) r br.bits

  -- it is a code word and few places were turned: this is the repair
  pub repaired_found : is_code_word c h cols answer ≡ true → error_count ≤ c.t
      → (is_repairable c h cols r ≡ true) × (repaired_of c h cols r ≡ answer) × (distance (length cols) r (repaired_of c h cols r) ≡ error_count)
  repaired_found code few =
      let is_near_here : is_near c h cols r answer ≡ true = near c h cols r answer code (subst (λ (k : ℕ). k ≤ c.t) (sym found_distance) few) in
      let is : is_repairable c h cols r ≡ true = repairable c h cols r answer_bits is_near_here in
      (is, sym (found_is_repaired is), ap (distance (length cols) r) (sym (found_is_repaired is)) ∙ found_distance)

  -- where there is a repair it passes both tests
  pub found_passes_tests : is_repairable c h cols r ≡ true → (is_code_word c h cols answer ≡ true) × (error_count ≤ c.t)
  found_passes_tests e =
      let (code, close) =
      near_is c h cols r answer
      (subst (λ (w : List ℕ). is_near c h cols r w ≡ true) (sym (found_is_repaired e)) (repaired_near c h cols r e)) in
      (code, subst (λ (k : ℕ). k ≤ c.t) found_distance close)

  -- it is none, or too many were turned: no code word is near
  pub not_found : (is_code_word c h cols answer ≡ false) ⊎ (c.t < error_count) → is_repairable c h cols r ≡ false
  not_found (inl no_code) = refuted (is_repairable c h cols r) (λ e. false≢true (sym no_code ∙ (found_passes_tests e).0))
  not_found (inr many) = refuted (is_repairable c h cols r) (λ e. too_many (found_passes_tests e).1 many)
    where
      too_many : error_count ≤ c.t → c.t < error_count → ⊥
      too_many l l' = omega arith
