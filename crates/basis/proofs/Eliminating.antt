-- The basis of all parity rows, row by row: the rows brought in so far have the basis's solutions.
use mathlib.Core.Path.{◌≡◌, sym, ap, ◌∙◌, subst, subst₂}
use mathlib.Core.Logic.{◌↔◌}
use mathlib.Core.Bool.{true, false, false≢true}
use mathlib.Core.List.{List}
use Prim.Native.Nat.{ℕ, ◌+◌, ◌*◌, ◌/◌, ◌%◌, ◌≤◌, ◌<◌}
use native.Mathlib.Nat.{not-suc-le-zero, div-lt_iff_lt-mul, mod-lt, lt_of_lt_of_le}
use native.Mathlib.Omega.{arith}
use borrow.Author.Count.{below_more}
use lib.Arith.{digits_div, digits_mod, digits_lt}
use lib.Dec.{eqb}
use lib.ListN.{length}
use Rattle.algebra.specs.Gf2.{gf2}
use Rattle.algebra.specs.Gf2Laws.{gf2_laws}
use Rattle.algebra.specs.Echelon.{Solves, Inside, dot, dot_cong, agree}
use Rattle.algebra.specs.FieldLaws.{mul-nought}
use Rattle.algebra.specs.Lists.{entry_of}
use Rattle.algebra.specs.Places.{count}
use Rattle.algebra.specs.PlaceLaws.{count-le, count_full, count_none}
use Rattle.algebra.specs.SumLaws.{sum-nought}
use Rattle.slices.specs.Lengths.{longest}
use Rattle.basis.specs.Packed.{Packs}
use Rattle.basis.specs.Table.{row_bit, lead_at, Room, Form, Inserted, parity_bit, ParityBasis}

-- where every place has a row, zero is the only solution, and so any row holds of it
full_solves : (n : ℕ) (rows leads : List ℕ) → Form n rows leads → n ≤ count n (lead_at leads) → (r w : ℕ → ℕ) → Inside gf2 n w
    → Solves gf2 n (row_bit rows) (lead_at leads) w → dot gf2 n r w ≡ 0
unfolding dot
full_solves n rows leads F h r w hw s =
    sum-nought gf2 gf2_laws n (λ j l. ap (λ (x : ℕ). gf2.mul (r j) x) (none j l) ∙ mul-nought gf2 gf2_laws (r j))
  where
    none : (j : ℕ) → j < n → w j ≡ 0
    none j l =
        agree gf2 gf2_laws n (row_bit rows) (lead_at leads) F.echelon w (λ q. 0) hw (λ q m. gf2_laws.in_nought) s
        (λ q m t. sum-nought gf2 gf2_laws n (λ i k. mul-nought gf2 gf2_laws (row_bit rows q i))) 0
        (λ q a m f. absurd (false≢true (sym f ∙ count_full n (lead_at leads) h q m))) j (omega arith) l

-- ---- the loop

pub record Eliminating (m t : ℕ) (h cols rows leads : List ℕ) (rank k : ℕ) : Type 0 where
  pub form : Form (length cols) rows leads
  pub rank_is : rank ≡ count (length cols) (lead_at leads)
  pub bound : k ≤ t * m
  pub solves : (w : ℕ → ℕ) → Inside gf2 (length cols) w → Solves gf2 (length cols) (row_bit rows) (lead_at leads) w
      ↔ ((i : ℕ) → i < k → dot gf2 (length cols) (parity_bit h cols (i / m) (i % m)) w ≡ 0)

-- no row yet
pub eliminating_start : (m t : ℕ) (h cols : List ℕ) {rows leads : List ℕ} → Room (length cols) rows leads
    → ((p : ℕ) → p < length leads → entry_of leads p ≡ 0) → Eliminating m t h cols rows leads 0 0
unfolding lead_at
eliminating_start m t h cols {leads = leads} R z =
    record {
      form = record { room = R; echelon = record { unit = λ p l e. absurd (free p l e); empty = λ p l e. absurd (free p l e) } };
      rank_is = sym (count_none (length cols) (lead_at leads) none);
      bound = omega arith;
      solves = λ w hw. (λ s i l. absurd (not-suc-le-zero l), λ s p l e. absurd (free p l e));
    }
  where
    none : (p : ℕ) → p < length cols → lead_at leads p ≡ false
    none p l = ap (λ (x : ℕ). eqb x 1) (z p (lt_of_lt_of_le l R.leads_long))

    free : (p : ℕ) → p < length cols → lead_at leads p ≡ true → ⊥
    free p l e = false≢true (sym (none p l) ∙ e)

module _ {m t : ℕ} {h cols rows leads : List ℕ} {rank k : ℕ} (E : Eliminating m t h cols rows leads rank k) where
  -- the number of rows is small
  pub rank_short : {row rows' leads' : List ℕ} {more : ℕ} → Inserted (length cols) row rows leads more rows' leads' → rank + more ≤ longest
  rank_short {leads' = leads'} {more} I =
      omega (arith, E.rank_is, I.rank, count-le (length cols) (lead_at leads'), E.form.room.short)

  -- row k was brought in
  pub eliminating_turn : {row rows' leads' : List ℕ} {more : ℕ} → k < t * m → Packs (length cols) (parity_bit h cols (k / m) (k % m)) row
      → Inserted (length cols) row rows leads more rows' leads' → Eliminating m t h cols rows' leads' (rank + more) (k + 1)
  eliminating_turn {more = more} l e I =
      record {
        form = I.form;
        rank_is = ap (λ (x : ℕ). x + more) E.rank_is ∙ sym I.rank;
        bound = omega arith;
        solves =
            λ w hw. (
              λ s.
                  below_more (λ (i : ℕ). dot gf2 (length cols) (parity_bit h cols (i / m) (i % m)) w ≡ 0) k ((E.solves w hw).0 ((I.solves w).0 s).0)
                  (dot_cong gf2 gf2_laws (length cols) w (λ j a. sym (e j a)) ∙ ((I.solves w).0 s).1),
              λ s.
                  (I.solves w).1 (
                    (E.solves w hw).1 (λ i a. s i (omega arith)),
                    dot_cong gf2 gf2_laws (length cols) w e ∙ s k (omega arith),
                  ),
            );
      }

  -- a solution makes every row nothing; row (i, b) is row i·m + b
  whole : 0 < m
      → ((w : ℕ → ℕ) → Inside gf2 (length cols) w → Solves gf2 (length cols) (row_bit rows) (lead_at leads) w → (i : ℕ) → i < t * m
      → dot gf2 (length cols) (parity_bit h cols (i / m) (i % m)) w ≡ 0)
      → ParityBasis m t h cols rows leads rank
  whole pos all =
      record {
        form = E.form;
        solves =
            λ w hw. (
              λ s i b li lb.
                  subst₂ (λ (x y : ℕ). dot gf2 (length cols) (parity_bit h cols x y) w ≡ 0) (digits_div i lb) (digits_mod i lb)
                  (all w hw s (i * m + b) (digits_lt li lb)),
              λ s. (E.solves w hw).1 (λ i l. s (i / m) (i % m) ((div-lt_iff_lt-mul pos).1 (lt_of_lt_of_le l E.bound)) (mod-lt i pos)),
            );
        rank_is = E.rank_is;
      }

  -- all rows were brought in
  pub eliminating_end : 0 < m → t * m ≤ k → ParityBasis m t h cols rows leads rank
  eliminating_end pos done = whole pos (λ w hw s i l. (E.solves w hw).0 s i (lt_of_lt_of_le l done))

  -- or every place has a row
  pub eliminating_full : 0 < m → length cols ≤ rank → ParityBasis m t h cols rows leads rank
  eliminating_full pos full =
      whole pos
      (λ w hw s i l.
      full_solves (length cols) rows leads E.form (subst (λ (x : ℕ). length cols ≤ x) E.rank_is full) (parity_bit h cols (i / m) (i % m)) w hw s)
