-- From two words to an error set: the places where the word received differs from a code word, as elements of the support, explain its syndrome.
--
-- The syndrome is additive, and that of a code word is nothing; so the syndrome of the word received is that of the places where the two differ.
use Rattle.std.specs.Prelude.{◌≡◌, ◌≢◌, true, not, cond, List, length}
use Rattle.std.proofs.Math.Path.{sym, ap}
use Rattle.std.proofs.Common.{◌∙◌, arith, eqb-true}
use Prim.Native.Nat.{ℕ, zero, suc, ◌<◌, ◌≤◌}
use Rattle.std.proofs.Math.Decide.{dec_lt}
use Rattle.std.proofs.Math.Dec.{eqb}
use Rattle.algebra.specs.AllLaws.{all_is}
use Rattle.algebra.specs.Field.{Laws}
use Rattle.algebra.specs.Lists.{entry_of}
use Rattle.algebra.specs.Locator.{Explains}
use Rattle.algebra.specs.Locator.Nodal.{Points}
use Rattle.algebra.specs.Places.{count}
use Rattle.algebra.specs.Sum.{sum}
use Rattle.algebra.specs.SumLaws.{sum_cong, sum-add}
use Rattle.algebra.specs.Xor.{◌⊕◌}
use Rattle.algebra.specs.XorLaws.{⊕_self, ⊕-zero, zero-⊕}
use Rattle.field.specs.Gf.{gf}
use Rattle.field.proofs.GfLaws.{gf_laws}
use Rattle.slices.specs.Bits.{IsBits}
use Rattle.params.specs.declared.Parameters.{Parameters}
use Rattle.params.proofs.Accepted.{accepted_pair}
use Rattle.params.specs.Code.{Accepted}
use Rattle.signature.specs.Signature.{root_at, support_at}
use Rattle.parity.specs.Selected.{Selected}
use Rattle.parity.specs.Word.{parity_at, held, syndrome_at, is_code_word}
use Rattle.nearest.specs.Places.{place, place_is, place_distinct, sum_places}
use Rattle.nearest.specs.Repair.{differs, distance}

-- two bits that hold x hold it together exactly if they differ
held_differs : (a b x : ℕ) → a < 2 → b < 2 → held a x ⊕ held b x ≡ cond (not (eqb a b)) x 0
unfolding held
held_differs zero zero x la lb = ⊕_self 0
held_differs zero (suc zero) x la lb = zero-⊕ x
held_differs (suc zero) zero x la lb = ⊕-zero x
held_differs (suc zero) (suc zero) x la lb = ⊕_self x
held_differs (suc (suc a)) b x la lb = absurd (omega arith)
held_differs zero (suc (suc b)) x la lb = absurd (omega arith)
held_differs (suc zero) (suc (suc b)) x la lb = absurd (omega arith)

-- of two words of n bits: error k is at place `error_place n r w k`
abbrev pub error_place : ℕ → List ℕ → List ℕ → ℕ → ℕ
error_place n r w = place n (differs r w)

-- the roots z and, place by place, the support L
abbrev pub z : Parameters → List ℕ → ℕ → ℕ
z c h = root_at (gf c.m) c.omega (entry_of h)

abbrev pub L : Parameters → List ℕ → List ℕ → ℕ → ℕ
L c h cols j = support_at (gf c.m) c.omega (entry_of h) (entry_of cols j)

module _ {c : Parameters} {h : List ℕ} (A : Accepted c h) where
  abbrev pub F : Laws (gf c.m)
  F = gf_laws c.m A.limits.width

  root_below : {i : ℕ} → i < c.t → i < c.n
  root_below l = omega (arith, A.limits.t_high)

  pub roots : Points (gf c.m) c.t (z c h)
  roots =
      record {
        inside = λ i l. (accepted_pair A).z_in i (root_below l);
        distinct = λ i j l lj. (accepted_pair A).z_distinct i j l (root_below lj);
      }

module _ {c : Parameters} {h cols : List ℕ} (A : Accepted c h) (S : Selected c.n cols) where
  abbrev N : ℕ
  N = length cols

  pub in_support : (j : ℕ) → j < N → (gf c.m).In (L c h cols j)
  in_support j l = (accepted_pair A).L_in (entry_of cols j) (S.inside j l)

  pub apart : (i j : ℕ) → i < c.t → j < N → z c h i ≢ L c h cols j
  apart i j li lj = (accepted_pair A).disjoint i (entry_of cols j) (root_below A li) (S.inside j lj)

  -- places of the same support are the same
  pub same_place : (i j : ℕ) → i < N → j < N → L c h cols i ≡ L c h cols j → i ≡ j
  same_place i j li lj e = decided (dec_lt i j) (dec_lt j i)
    where
      column : (i j : ℕ) → i < N → j < N → L c h cols i ≡ L c h cols j → entry_of cols i < entry_of cols j → ⊥
      column i j li lj e l = (accepted_pair A).L_distinct (entry_of cols i) (entry_of cols j) l (S.inside j lj) e

      same_column : entry_of cols i ≡ entry_of cols j
      same_column = between (dec_lt (entry_of cols i) (entry_of cols j)) (dec_lt (entry_of cols j) (entry_of cols i))
        where
          between : Dec (entry_of cols i < entry_of cols j) → Dec (entry_of cols j < entry_of cols i) → entry_of cols i ≡ entry_of cols j
          between (yes l) d = absurd (column i j li lj e l)
          between (no nl) (yes l) = absurd (column j i lj li (sym e) l)
          between (no nl) (no nl') = omega arith

      decided : Dec (i < j) → Dec (j < i) → i ≡ j
      decided (yes l) d = absurd (S.distinct i j l lj same_column)
      decided (no nl) (yes l) = absurd (S.distinct j i l li (sym same_column))
      decided (no nl) (no nl') = omega arith

  -- the word received and a code word
  module _ {r w : List ℕ} (br : IsBits N r) (bw : IsBits N w) where
    error_inside : (k : ℕ) → k < count N (differs r w) → error_place N r w k < N
    error_inside k l = (place_is N (differs r w) k l).0

    errors : Points (gf c.m) (count N (differs r w)) (λ k. L c h cols (error_place N r w k))
    errors =
        record {
          inside = λ k l. in_support (error_place N r w k) (error_inside k l);
          distinct = λ i k l lk e.
              place_distinct N (differs r w) i k l lk
              (same_place (error_place N r w i) (error_place N r w k) (error_inside i (omega arith)) (error_inside k lk) e);
        }

    -- the syndromes of two words add up to that of the places where they differ
    syndromes_add : (i : ℕ) → syndrome_at c h cols r i ⊕ syndrome_at c h cols w i
        ≡ sum (gf c.m) (count N (differs r w)) (λ k. (gf c.m).inv ((gf c.m).add (z c h i) (L c h cols (error_place N r w k))))
    unfolding syndrome_at parity_at differs
    syndromes_add i =
        sym (sum-add (gf c.m) (F A) N (λ j. held (entry_of r j) (entry j)) (λ j. held (entry_of w j) (entry j)))
        ∙ sum_cong (gf c.m) N (λ j l. held_differs (entry_of r j) (entry_of w j) (entry j) (br.bits j l) (bw.bits j l))
        ∙ sum_places (gf c.m) (F A) N (differs r w) entry
      where
        entry : ℕ → ℕ
        entry j = (gf c.m).inv ((gf c.m).add (z c h i) (L c h cols j))

    -- the syndrome of a code word is nothing
    syndrome_errors : is_code_word c h cols w ≡ true → (i : ℕ) → i < c.t
        → syndrome_at c h cols r i
        ≡ sum (gf c.m) (count N (differs r w)) (λ k. (gf c.m).inv ((gf c.m).add (z c h i) (L c h cols (error_place N r w k))))
    unfolding is_code_word
    syndrome_errors code i l =
        sym (⊕-zero (syndrome_at c h cols r i))
        ∙ ap (λ (x : ℕ). syndrome_at c h cols r i ⊕ x)
        (sym (eqb-true (syndrome_at c h cols w i) 0 (all_is c.t (λ i. eqb (syndrome_at c h cols w i) 0) code i l)))
        ∙ syndromes_add i

    pub explains : is_code_word c h cols w ≡ true → distance N r w ≤ c.t
        → Explains (gf c.m) c.t (z c h) (syndrome_at c h cols r) (count N (differs r w)) (λ k. L c h cols (error_place N r w k))
    unfolding distance
    explains code near =
        record {
          roots = roots A;
          errors = errors;
          few = near;
          apart = λ i k li lk. apart i (error_place N r w k) li (error_inside k lk);
          syndrome = syndrome_errors code;
        }
