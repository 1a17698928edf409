-- Bringing a row into the basis, over plain lists: what storing, reducing and the loop that does both make of it.
use mathlib.Core.Path.{◌≡◌, sym, ap, ap₂, ◌∙◌, subst, subst₂}
use mathlib.Core.Logic.{◌≢◌, ◌↔◌}
use mathlib.Core.Bool.{Bool, true, false, cond}
use mathlib.Core.List.{List, ◌++◌}
use Prim.Native.Nat.{ℕ, zero, suc, ◌+◌, ◌*◌, ◌/◌, ◌%◌, ◌≤◌, ◌<◌}
use native.Mathlib.Nat.{not-suc-le-zero, add-zero, lt_of_lt_of_le}
use native.Mathlib.Decide.{ℕ_discrete, dec_lt}
use native.Mathlib.Omega.{arith}
use borrow.Author.Count.{below_more}
use lib.Dec.{eqb}
use lib.ListN.{length, take, drop, set, length-set}
use lib.Seq.{get_or-set_same, get_or-set_other}
use Rattle.algebra.specs.Bits.{bit_at}
use Rattle.algebra.specs.BitLaws.{bit_at_lt}
use Rattle.algebra.specs.Gf2.{gf2}
use Rattle.algebra.specs.Gf2Laws.{gf2_laws}
use Rattle.algebra.specs.Echelon.{Echelon, Solves, dot, dot_cong, dot-add, put, put_at, put_other}
use Rattle.algebra.specs.Elimination.{stored_solves, stored_echelon, dot_empty}
use Rattle.algebra.specs.Lists.{entry_of}
use Rattle.algebra.specs.Places.{count}
use Rattle.algebra.specs.PlaceLaws.{count_tests}
use Rattle.algebra.specs.Splice.{length-spliced, spliced_inside, spliced_before, spliced_after}
use Rattle.algebra.specs.Xor.{◌⊕◌}
use Rattle.algebra.specs.XorLaws.{⊕_self, ⊕-zero}
use Rattle.slices.specs.Lengths.{longest}
use Rattle.basis.specs.Packed.{packed_bit, Added}
use Rattle.basis.specs.Table.{row_words, row_bit, lead_at, Form, RowFits, Reduced, Stored, Inserted}
use Rattle.basis.proofs.Parts.{part_words, part_words_lem, row_part, part_bit}

pub reduced : {p : ℕ} {rows old new : List ℕ} → RowFits p rows old → Added (row_part rows p) old new → Reduced p rows old new
reduced {p} {rows} {old} F a =
    record {
      long = a.long;
      sum = λ j l. a.sum j (omega (arith, F.long)) ∙ ap (λ (x : ℕ). packed_bit old j ⊕ x) (part_bit rows p j l);
    }

-- the table with row p replaced
module _ {p : ℕ} {row rows leads : List ℕ} (F : RowFits p rows row) (l : p < length leads) where
  replaced : Stored p row rows leads (take (p * row_words) rows ++ (row ++ drop row_words (drop (p * row_words) rows))) (set leads p 1)
  unfolding row_bit packed_bit lead_at
  replaced =
      record {
        rows_long = length-spliced rows row (p * row_words) row_words F.long F.inside;
        leads_long = length-set leads p 1;
        row_is = λ q j m. row_at q j m (ℕ_discrete q p);
        leads_is = λ q. lead_at_lem q (ℕ_discrete q p);
      }
    where
      new : List ℕ
      new = take (p * row_words) rows ++ (row ++ drop row_words (drop (p * row_words) rows))

      away : (q j : ℕ) → j < longest → q ≢ p → entry_of new (q * row_words + j / 64) ≡ entry_of rows (q * row_words + j / 64)
      away q j m ne = side (dec_lt q p)
        where
          side : Dec (q < p) → entry_of new (q * row_words + j / 64) ≡ entry_of rows (q * row_words + j / 64)
          side (yes a) = spliced_before rows row (p * row_words) row_words F.long F.inside (q * row_words + j / 64) 0 (omega arith)
          side (no b) = spliced_after rows row (p * row_words) row_words F.long F.inside (q * row_words + j / 64) 0 (omega arith)

      row_at : (q j : ℕ) → j < longest → Dec (q ≡ p) → row_bit new q j ≡ put (row_bit rows) p (packed_bit row) q j
      row_at q j m (yes e) =
          subst (λ (i : ℕ). row_bit new i j ≡ put (row_bit rows) p (packed_bit row) i j) (sym e)
          (ap (λ (x : ℕ). bit_at x (j % 64)) (spliced_inside rows row (p * row_words) row_words F.long F.inside (j / 64) 0 (omega arith))
          ∙ ap (λ (f : ℕ → ℕ). f j) (sym (put_at (row_bit rows) p (packed_bit row))))
      row_at q j m (no ne) = ap (λ (x : ℕ). bit_at x (j % 64)) (away q j m ne)
          ∙ ap (λ (f : ℕ → ℕ). f j) (sym (put_other (row_bit rows) p (packed_bit row) q ne))

      lead_at_lem : (q : ℕ) → Dec (q ≡ p) → lead_at (set leads p 1) q ≡ put (lead_at leads) p true q
      lead_at_lem q (yes e) =
          subst (λ (i : ℕ). lead_at (set leads p 1) i ≡ put (lead_at leads) p true i) (sym e)
          (ap (λ (x : ℕ). eqb x 1) (get_or-set_same leads p 1 0 l) ∙ sym (put_at (lead_at leads) p true))
      lead_at_lem q (no ne) = ap (λ (x : ℕ). eqb x 1) (get_or-set_other leads p q 1 0 ne) ∙ sym (put_other (lead_at leads) p true q ne)

  -- the same as the call that copies leaves it
  pub stored : {last : List ℕ} → last ≡ row
      → Stored p row rows leads (take (p * row_words) rows ++ (last ++ drop (part_words p) (drop (p * row_words) rows))) (set leads p 1)
  stored e =
      subst₂ (λ (x : List ℕ) (k : ℕ). Stored p row rows leads (take (p * row_words) rows ++ (x ++ drop k (drop (p * row_words) rows))) (set leads p 1))
      (sym e) (sym (part_words_lem p)) replaced

-- ---- one more place with a row

count-put : (n : ℕ) (f : ℕ → Bool) (p : ℕ) → p < n → f p ≡ false → count n (put f p true) ≡ count n f + 1
unfolding count
count-put zero f p l e = absurd (not-suc-le-zero l)
count-put (suc n) f p l e = decided (ℕ_discrete n p) (λ m. count-put n f p m e)
  where
    decided : Dec (n ≡ p) → (p < n → count n (put f p true) ≡ count n f + 1)
        → count n (put f p true) + cond (put f p true n) 1 0 ≡ count n f + cond (f n) 1 0 + 1
    decided (yes q) ih =
        ap₂ (λ (x : ℕ) (b : Bool). x + cond b 1 0) (count_tests n (put f p true) f (λ j m. put_other f p true j (λ z. omega arith)))
        (ap (put f p true) q ∙ put_at f p true)
        ∙ ap (λ (x : ℕ). x + 1) (sym (add-zero (count n f))) ∙ ap (λ (b : Bool). count n f + cond b 1 0 + 1) (sym (ap f q ∙ e))
    decided (no ne) ih =
        ap₂ (λ (x : ℕ) (b : Bool). x + cond b 1 0) (ih (omega arith)) (put_other f p true n ne) ∙ swapped (count n f) (cond (f n) 1 0)
      where
        swapped : (x y : ℕ) → x + 1 + y ≡ x + y + 1
        swapped x y = omega arith

no_bit : (b : ℕ) → b < 2 → (b ≡ 1 → ⊥) → b ≡ 0
no_bit b l ne = omega arith

-- ---- the loop: the row is empty before p, and says of every solution what it said at first

pub record Inserting (n : ℕ) (first rows leads row : List ℕ) (p : ℕ) : Type 0 where
  pub form : Form n rows leads
  pub long : length row ≡ row_words
  pub bound : p ≤ n
  pub empty : (j : ℕ) → j < p → packed_bit row j ≡ 0
  pub same : (w : ℕ → ℕ) → Solves gf2 n (row_bit rows) (lead_at leads) w → dot gf2 n (packed_bit row) w ≡ dot gf2 n (packed_bit first) w

module _ {n : ℕ} {first rows leads row : List ℕ} {p : ℕ} (I : Inserting n first rows leads row p) (l : p < n) where
  inside : (j : ℕ) → j < n → j < longest
  inside j m = lt_of_lt_of_le m I.form.room.short

  pub inserting_skip : (packed_bit row p ≡ 1 → ⊥) → Inserting n first rows leads row (p + 1)
  unfolding packed_bit
  inserting_skip ne =
      record {
        form = I.form;
        long = I.long;
        bound = omega arith;
        empty = below_more (λ (j : ℕ). packed_bit row j ≡ 0) p I.empty (no_bit (packed_bit row p) (bit_at_lt (entry_of row (p / 64)) (p % 64)) ne);
        same = I.same;
      }

  pub inserting_reduce : {new : List ℕ} → packed_bit row p ≡ 1 → lead_at leads p ≡ true → Reduced p rows row new
      → Inserting n first rows leads new (p + 1)
  inserting_reduce {new} u t r =
      record {
        form = I.form;
        long = r.long ∙ I.long;
        bound = omega arith;
        empty =
            below_more (λ (j : ℕ). packed_bit new j ≡ 0) p
            (λ j m. r.sum j (inside j (omega arith)) ∙ ap₂ (λ (x y : ℕ). x ⊕ y) (I.empty j m) (E.empty p l t j m) ∙ ⊕_self 0)
            (r.sum p (inside p l) ∙ ap₂ (λ (x y : ℕ). x ⊕ y) u (E.unit p l t) ∙ ⊕_self 1);
        same =
            λ w s.
            dot_cong gf2 gf2_laws n w (λ j m. r.sum j (inside j m)) ∙ dot-add gf2 gf2_laws n (packed_bit row) (row_bit rows p) w
            ∙ ap (λ (x : ℕ). dot gf2 n (packed_bit row) w ⊕ x) (s p l t) ∙ ⊕-zero (dot gf2 n (packed_bit row) w) ∙ I.same w s;
      }
    where
      E : Echelon gf2 n (row_bit rows) (lead_at leads)
      E = I.form.echelon

  pub inserting_store : {rows' leads' : List ℕ} → packed_bit row p ≡ 1 → lead_at leads p ≡ false → Stored p row rows leads rows' leads'
      → Inserted n first rows leads 1 rows' leads'
  inserting_store {leads' = leads'} u t k =
      record {
        form =
            record {
              room =
                  record {
                    short = I.form.room.short;
                    rows_long = subst (λ (i : ℕ). n * row_words ≤ i) (sym k.rows_long) I.form.room.rows_long;
                    leads_long = subst (λ (i : ℕ). n ≤ i) (sym k.leads_long) I.form.room.leads_long;
                  };
              echelon =
                  record {
                    unit = λ q m v. k.row_is q q (inside q m) ∙ E.unit q m (sym (k.leads_is q) ∙ v);
                    empty = λ q m v j a. k.row_is q j (inside j (omega arith)) ∙ E.empty q m (sym (k.leads_is q) ∙ v) j a;
                  };
            };
        solves =
            λ w. (
              λ s.
                  let both = (S w).0 (λ q m v. dot_cong gf2 gf2_laws n w (λ j a. sym (k.row_is q j (inside j a))) ∙ s q m (k.leads_is q ∙ v)) in
                  (both.0, sym (I.same w both.0) ∙ both.1),
              λ s q m v.
                  dot_cong gf2 gf2_laws n w (λ j a. k.row_is q j (inside j a))
                  ∙ (S w).1 (s.0, I.same w s.0 ∙ s.1) q m (sym (k.leads_is q) ∙ v),
            );
        rank = count_tests n (lead_at leads') (put (lead_at leads) p true) (λ q m. k.leads_is q) ∙ count-put n (lead_at leads) p l t;
      }
    where
      E : Echelon gf2 n (put (row_bit rows) p (packed_bit row)) (put (lead_at leads) p true)
      E = stored_echelon gf2 gf2_laws n (row_bit rows) (lead_at leads) p l t (packed_bit row) I.form.echelon u I.empty

      S : (w : ℕ → ℕ) → Solves gf2 n (put (row_bit rows) p (packed_bit row)) (put (lead_at leads) p true) w
          ↔ (Solves gf2 n (row_bit rows) (lead_at leads) w × (dot gf2 n (packed_bit row) w ≡ 0))
      S = stored_solves gf2 gf2_laws n (row_bit rows) (lead_at leads) p l t (packed_bit row)

pub inserting_end : {n : ℕ} {first rows leads row : List ℕ} {p : ℕ} → Inserting n first rows leads row p → n ≤ p
    → Inserted n first rows leads 0 rows leads
inserting_end {n} {leads = leads} {row} I h =
    record {
      form = I.form;
      solves = λ w. (λ s. (s, sym (I.same w s) ∙ dot_empty gf2 gf2_laws n (packed_bit row) w (λ j m. I.empty j (omega arith))), λ s. s.0);
      rank = sym (add-zero (count n (lead_at leads)));
    }
