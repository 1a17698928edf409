-- The code of the sent columns is the shortened code. Its code words are the code words that are 0 at every hidden place, with those places left out;
-- and no column changes its role, since those that are hidden are message columns.
use Rattle.std.specs.Prelude.{◌≡◌, ◌↔◌, Bool, ◌&&◌, List, ℕ, ◌+◌, ◌-◌, ◌<◌, length}
use Rattle.std.proofs.Math.Path.{refl, sym, ap, subst}
use Rattle.std.proofs.Common.{◌∙◌}
use Rattle.std.proofs.Math.Bool.{true, false, cond, not}
use Rattle.std.proofs.lemmas.Bool.{false≢true}
use native.Mathlib.Omega.{arith}
use Rattle.std.proofs.Math.Dec.{eqb}
use borrow.Author.Tests.{not-true}
use Rattle.algebra.specs.AllLaws.{all_cong}
use Rattle.algebra.specs.Echelon.{dot, Solves, Inside, Echelon}
use Rattle.algebra.specs.FieldLaws.{mul-nought}
use Rattle.algebra.specs.Gf2.{gf2}
use Rattle.algebra.specs.Gf2Laws.{gf2_laws}
use Rattle.algebra.specs.Lists.{entry_of}
use Rattle.algebra.specs.Places.{count, chosen}
use Rattle.algebra.specs.PlaceLaws.{count_tests, free_count_lem, chosen_cong, chosen_tests}
use Rattle.algebra.specs.Flags.{both_true}
use Rattle.algebra.specs.Subsequence.{sum_chosen, count_chosen, count_parts, chosen-chosen, chosen_at, entry_chosen, count_orders}
use Rattle.algebra.specs.Sum.{sum}
use Rattle.algebra.specs.SumLaws.{sum_cong}
use Rattle.algebra.specs.TabulateLaws.{tabulate_cong}
use Rattle.field.specs.Gf.{Width, gf}
use Rattle.field.proofs.GfLaws.{gf_laws}
use Rattle.params.specs.declared.Parameters.{Parameters}
use Rattle.parity.specs.Columns.{is_sum, is_message_column, dimension, message_of}
use Rattle.parity.specs.Encoding.{basis}
use Rattle.parity.specs.Parity.{Checks}
use Rattle.parity.specs.Systematic.{Basis, sum_is_free}
use Rattle.parity.specs.Word.{held, parity_at, syndrome_at, syndrome_of, is_code_word}
use Rattle.shortened.specs.Fits.{Hides}
use Rattle.shortened.specs.Marks.{is_sent, sent_count, sent_of, full_word, sent_dimension}
use Rattle.shortened.specs.MarkLaws.{length_sent, sent_below, sent_entry, From, from, full_at_lem, full_sent}

-- ---- words

-- the word of all places, by its entries
abbrev full_at : List ℕ → (ℕ → ℕ) → ℕ → ℕ
full_at hidden w p = cond (is_sent hidden p) (w (count p (is_sent hidden))) 0

held-cond : (b : Bool) (x y : ℕ) → held (cond b x 0) y ≡ cond b (held x y) 0
unfolding held
held-cond true x y = refl
held-cond false x y = refl

-- a sum over the sent places is one over all places
short_sum : {m : ℕ} (W : Width m) (hidden : List ℕ) (w f : ℕ → ℕ) (g : ℕ → ℕ)
    → ((p : ℕ) → p < length hidden → is_sent hidden p ≡ true → f (count p (is_sent hidden)) ≡ g p)
    → sum (gf m) (sent_count hidden) (λ j. held (w j) (f j)) ≡ sum (gf m) (length hidden) (λ p. held (full_at hidden w p) (g p))
unfolding sent_count
short_sum {m} W hidden w f g same =
    sum_chosen (is_sent hidden) (gf m) (gf_laws m W) (length hidden) (λ j. held (w j) (f j))
    ∙ sum_cong (gf m) (length hidden)
    (λ p l. at p (is_sent hidden p) (same p l) ∙ sym (held-cond (is_sent hidden p) (w (count p (is_sent hidden))) (g p)))
  where
    at : (p : ℕ) (b : Bool) → (b ≡ true → f (count p (is_sent hidden)) ≡ g p)
        → cond b (held (w (count p (is_sent hidden))) (f (count p (is_sent hidden)))) 0 ≡ cond b (held (w (count p (is_sent hidden))) (g p)) 0
    at p true s = ap (held (w (count p (is_sent hidden)))) (s refl)
    at p false s = refl

module _ (c : Parameters) (h cols hidden : List ℕ) (W : Width c.m) (long : length hidden ≡ length cols) where
  pub syndrome_short : (w : List ℕ) (i : ℕ) → syndrome_at c h (sent_of hidden cols) w i ≡ syndrome_at c h cols (full_word hidden w) i
  unfolding syndrome_at
  syndrome_short w i =
      ap (λ (n : ℕ). sum (gf c.m) n (λ j. held (entry_of w j) (parity_at c h i (entry_of (sent_of hidden cols) j)))) (length_sent hidden cols)
      ∙ short_sum W hidden (entry_of w) (λ j. parity_at c h i (entry_of (sent_of hidden cols) j)) (λ p. parity_at c h i (entry_of cols p))
      (λ p l t. ap (parity_at c h i) (sent_entry hidden cols p l t))
      ∙ sum_cong (gf c.m) (length hidden) (λ p l. ap (λ (b : ℕ). held b (parity_at c h i (entry_of cols p))) (sym (full_at_lem hidden w p l)))
      ∙ ap (λ (n : ℕ). sum (gf c.m) n (λ p. held (entry_of (full_word hidden w) p) (parity_at c h i (entry_of cols p)))) long

  -- the syndrome of a word is that of the word of all places
  pub syndromes_short : (w : List ℕ) → syndrome_of c h (sent_of hidden cols) w ≡ syndrome_of c h cols (full_word hidden w)
  unfolding syndrome_of
  syndromes_short w = tabulate_cong c.t (λ i l. syndrome_short w i)

  -- "code words that are 0 at every hidden place"
  pub code_word_short : (w : List ℕ) → is_code_word c h (sent_of hidden cols) w ≡ is_code_word c h cols (full_word hidden w)
  unfolding is_code_word
  code_word_short w = all_cong c.t (λ i l. ap (λ (x : ℕ). eqb x 0) (syndrome_short w i))

-- ---- roles

-- Hidden places have no row in the echelon basis, so that its rows without them are still in echelon form and lead where they led; and they are a
-- basis for the sent columns.
module _ {m t : ℕ} (W : Width m) (hidden : List ℕ) (e e' : ℕ → ℕ → ℕ)
    (same : (i p : ℕ) → p < length hidden → is_sent hidden p ≡ true → e' i (count p (is_sent hidden)) ≡ e i p)
    {rows : ℕ → ℕ → ℕ} {leads : ℕ → Bool} (B : Basis m (length hidden) t e rows leads)
    (free : (p : ℕ) → p < length hidden → is_sent hidden p ≡ false → leads p ≡ false) where
  abbrev n : ℕ
  n = length hidden

  abbrev k : ℕ
  k = sent_count hidden

  -- the place that number j comes from
  place_at : ℕ → ℕ
  place_at j = entry_of (chosen n (is_sent hidden) (λ q. q)) j

  place_is : (j : ℕ) (C : From hidden j) → place_at j ≡ C.place
  unfolding place_at
  place_is j C = chosen_at (is_sent hidden) n j (λ q. q) C

  place_back : (q : ℕ) → q < n → is_sent hidden q ≡ true → place_at (count q (is_sent hidden)) ≡ q
  unfolding place_at
  place_back q l s = entry_chosen (is_sent hidden) n (λ q. q) q l s

  place_inside : (j : ℕ) → j < k → place_at j < n
  place_inside j l =
      let C = from hidden j l in subst (λ (p : ℕ). p < n) (sym (place_is j C)) C.inside

  place_number : (j : ℕ) → j < k → count (place_at j) (is_sent hidden) ≡ j
  place_number j l =
      let C = from hidden j l in ap (λ (p : ℕ). count p (is_sent hidden)) (place_is j C) ∙ C.number

  short_rows : ℕ → ℕ → ℕ
  short_rows p j = rows (place_at p) (place_at j)

  short_leads : ℕ → Bool
  short_leads p = leads (place_at p)

  short_echelon : Echelon gf2 k short_rows short_leads
  unfolding short_rows short_leads
  short_echelon =
      record {
        unit = λ p l d. B.echelon.unit (place_at p) (place_inside p l) d;
        empty = λ p l d j a.
            B.echelon.empty (place_at p) (place_inside p l) d (place_at j)
            (count_orders (is_sent hidden) (place_at j) (place_at p) (ordered p j l a));
      }
    where
      ordered : (p j : ℕ) → p < k → j < p → count (place_at j) (is_sent hidden) < count (place_at p) (is_sent hidden)
      ordered p j l a =
          let lj : j < k = omega arith in
          subst (λ (x : ℕ). x < count (place_at p) (is_sent hidden)) (sym (place_number j lj))
          (subst (λ (x : ℕ). j < x) (sym (place_number p l)) a)

  module _ (w : ℕ → ℕ) (hw : Inside gf2 k w) where
    full_inside : Inside gf2 n (full_at hidden w)
    full_inside p l = at (is_sent hidden p) refl
      where
        at : (b : Bool) → is_sent hidden p ≡ b → cond (is_sent hidden p) (w (count p (is_sent hidden))) 0 < 2
        at true s =
            subst (λ (b : Bool). cond b (w (count p (is_sent hidden))) 0 < 2) (sym s) (hw (count p (is_sent hidden)) (sent_below hidden p l s))
        at false f = subst (λ (b : Bool). cond b (w (count p (is_sent hidden))) 0 < 2) (sym f) (omega arith)

    checked : (i : ℕ) → sum (gf m) k (λ j. held (w j) (e' i j)) ≡ sum (gf m) n (λ p. held (full_at hidden w p) (e i p))
    checked i = short_sum W hidden w (e' i) (e i) (same i)

    -- what a row says of the word
    row_says : (r : ℕ → ℕ) → dot gf2 k (λ j. r (place_at j)) w ≡ dot gf2 n r (full_at hidden w)
    unfolding dot sent_count
    row_says r =
        sum_chosen (is_sent hidden) gf2 gf2_laws n (λ j. gf2.mul (r (place_at j)) (w j))
        ∙ sum_cong gf2 n (λ q l. at q l (is_sent hidden q) refl)
      where
        at : (q : ℕ) → q < n → (b : Bool) → is_sent hidden q ≡ b
            → cond (is_sent hidden q) (gf2.mul (r (place_at (count q (is_sent hidden)))) (w (count q (is_sent hidden)))) 0
            ≡ gf2.mul (r q) (cond (is_sent hidden q) (w (count q (is_sent hidden))) 0)
        at q l true s =
            ap (λ (b : Bool). cond b (gf2.mul (r (place_at (count q (is_sent hidden)))) (w (count q (is_sent hidden)))) 0) s
            ∙ ap (λ (x : ℕ). gf2.mul (r x) (w (count q (is_sent hidden)))) (place_back q l s)
            ∙ ap (λ (b : Bool). gf2.mul (r q) (cond b (w (count q (is_sent hidden))) 0)) (sym s)
        at q l false f =
            ap (λ (b : Bool). cond b (gf2.mul (r (place_at (count q (is_sent hidden)))) (w (count q (is_sent hidden)))) 0) f
            ∙ sym (mul-nought gf2 gf2_laws (r q))
            ∙ ap (λ (b : Bool). gf2.mul (r q) (cond b (w (count q (is_sent hidden))) 0)) (sym f)

    short_kernel : Checks m k t e' w ↔ Solves gf2 k short_rows short_leads w
    unfolding short_rows short_leads
    short_kernel = (
      λ c p l d.
          row_says (rows (place_at p))
          ∙ (B.kernel (full_at hidden w) full_inside).0 (λ i li. sym (checked i) ∙ c i li) (place_at p) (place_inside p l) d,
      λ s i li. checked i ∙ (B.kernel (full_at hidden w) full_inside).1 (solves s) i li,
    )
      where
        solves : ((p : ℕ) → p < k → leads (place_at p) ≡ true → dot gf2 k (λ j. rows (place_at p) (place_at j)) w ≡ 0)
            → (q : ℕ) → q < n → leads q ≡ true → dot gf2 n (rows q) (full_at hidden w) ≡ 0
        solves s q l d = at (is_sent hidden q) refl
          where
            at : (b : Bool) → is_sent hidden q ≡ b → dot gf2 n (rows q) (full_at hidden w) ≡ 0
            at false f = absurd (false≢true (sym (free q l f) ∙ d))
            at true u =
                let p = count q (is_sent hidden) in
                let back : place_at p ≡ q = place_back q l u in
                ap (λ (x : ℕ). dot gf2 n (rows x) (full_at hidden w)) (sym back) ∙ sym (row_says (rows (place_at p)))
                ∙ s p (sent_below hidden q l u) (ap leads back ∙ d)

  short_basis : Basis m k t e' short_rows short_leads
  short_basis = record { echelon = short_echelon; kernel = short_kernel }

  -- so a sent column is a sum of columns before it exactly if it is one among the sent columns
  sum_short : (q : ℕ) → q < n → is_sent hidden q ≡ true → is_sum m t e' (count q (is_sent hidden)) ≡ is_sum m t e q
  unfolding short_leads
  sum_short q l s =
      sum_is_free W short_basis (count q (is_sent hidden)) (sent_below hidden q l s)
      ∙ ap (λ (p : ℕ). not (leads p)) (place_back q l s) ∙ sym (sum_is_free W B q l)

module _ (c : Parameters) (h cols hidden : List ℕ) (W : Width c.m) (H : Hides c h cols hidden) where
  -- hiding message columns moves no other role
  pub role_short : (q : ℕ) → q < length hidden → is_sent hidden q ≡ true
      → is_message_column c h (sent_of hidden cols) (count q (is_sent hidden)) ≡ is_message_column c h cols q
  unfolding is_message_column
  role_short q l s =
      let (rows, leads, B) = basis c h cols W in
      sum_short W hidden (λ i p. parity_at c h i (entry_of cols p)) (λ i j. parity_at c h i (entry_of (sent_of hidden cols) j))
      (λ i p lp sp. ap (parity_at c h i) (sent_entry hidden cols p lp sp))
      (subst (λ (n : ℕ). Basis c.m n c.t (λ i p. parity_at c h i (entry_of cols p)) rows leads) (sym H.long) B)
      (λ p lp f.
      not-true (leads p) (sym (sum_is_free W B p (subst (λ (n : ℕ). p < n) H.long lp)) ∙ H.messages p lp f)) q l s

  -- the sent message columns, by either list of columns
  sent_role : (q : ℕ) → q < length hidden
      → (is_sent hidden q && is_message_column c h (sent_of hidden cols) (count q (is_sent hidden))) ≡ (is_sent hidden q && is_message_column c h cols q)
  sent_role q l = at (is_sent hidden q) (role_short q l)
    where
      at : (b : Bool) → (b ≡ true → is_message_column c h (sent_of hidden cols) (count q (is_sent hidden)) ≡ is_message_column c h cols q)
          → (b && is_message_column c h (sent_of hidden cols) (count q (is_sent hidden))) ≡ (b && is_message_column c h cols q)
      at true same = same refl
      at false same = refl

  -- "k counts sent message columns only"
  pub dimension_short : dimension c h (sent_of hidden cols) ≡ sent_dimension c h cols hidden
  unfolding dimension sent_dimension sent_count
  dimension_short =
      ap (λ (k : ℕ). count k (is_message_column c h (sent_of hidden cols))) (length_sent hidden cols)
      ∙ count_chosen (is_sent hidden) (length hidden) (is_message_column c h (sent_of hidden cols))
      ∙ count_tests (length hidden) _ _ sent_role

  -- the message of a word is what the word of all places holds at the sent message columns
  pub message_short : (w : List ℕ) → message_of c h (sent_of hidden cols) w
      ≡ chosen (length hidden) (λ p. is_sent hidden p && is_message_column c h cols p) (entry_of (full_word hidden w))
  unfolding message_of sent_count
  message_short w =
      ap (λ (k : ℕ). chosen k (is_message_column c h (sent_of hidden cols)) (entry_of w)) (length_sent hidden cols)
      ∙ chosen-chosen (is_sent hidden) (length hidden) (is_message_column c h (sent_of hidden cols)) (entry_of w)
      ∙ chosen_tests (length hidden) _ (λ p. is_sent hidden p && is_message_column c h cols p) (λ q. entry_of w (count q (is_sent hidden)))
      sent_role
      ∙ chosen_cong (length hidden) (λ p. is_sent hidden p && is_message_column c h cols p) (λ q. entry_of w (count q (is_sent hidden)))
      (entry_of (full_word hidden w))
      (λ q l t. sym (full_sent hidden w q l (both_true (is_sent hidden q) (is_message_column c h cols q) t).0))

  -- k of all columns is more by the hidden places
  pub dimension-hidden : dimension c h cols ≡ sent_dimension c h cols hidden + (length hidden - sent_count hidden)
  unfolding dimension sent_dimension sent_count
  dimension-hidden =
      ap (λ (n : ℕ). count n (is_message_column c h cols)) (sym H.long)
      ∙ count_parts (is_sent hidden) (length hidden) (is_message_column c h cols) H.messages
      ∙ ap (λ (k : ℕ). count (length hidden) (λ p. is_sent hidden p && is_message_column c h cols p) + k) (free_count_lem (length hidden) (is_sent hidden))
