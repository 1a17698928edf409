-- The call on formulas in plain words, of whatever it answers and leaves (`Answered`, its contract): every text has a single reading; once width,
-- lengths and elements are in order, 16 is given exactly if the text reads as no formula, 9 exactly if it reads as one that asks for an inverse that
-- does not exist, and else the block of the formula stands in the buffer.
use Rattle.std.specs.Prelude.{◌≡◌, ◌≢◌, ◌↔◌, ◌⊎◌, Bool, true, false, length}
use Rattle.std.proofs.Math.Path.{refl, ap, subst}
use Rattle.std.proofs.Common.{sym, ◌∙◌, inl, inr, arith, lit<, eq-eqb, ne_eqb}
use Rattle.std.proofs.Math.Bool.{not, true≢false}
use mathlib.Core.List.{List}
use Prim.Native.Nat.{ℕ, suc, ◌^◌, ◌<◌, ◌≤◌}
use Rattle.std.proofs.Math.Decide.{ℕ_discrete}
use Rattle.refusals.specs.Outcome.{Outcome}
use Rattle.refusals.specs.Outcome.{Done, Refused}
use Rattle.refusals.specs.Rules.{Rule, Hold, fault, unless_refused}
use Rattle.refusals.specs.RuleLaws.{fault_here, fault_past, fault_empty, fault_none, fault_first, fault_rest, given, hold}
use Rattle.refusals.specs.Answered.{done_none, refused_due, done_apart, same_outcome}
use Rattle.field.specs.Gf.{gf}
use Rattle.field.proofs.GfLaws.{gf_laws}
use Rattle.slices.specs.Elements.{Elements}
use Rattle.dyadic.specs.Block.{matrix, total}
use Rattle.dyadic.specs.Matrix.{Matrix, Same, matrix_product, identity}
use Rattle.dyadic.specs.Invertible.{is_invertible}
use Rattle.dyadic.proofs.Laws.{invertible}
use Rattle.formula.specs.Letters.{Lent, is_lent}
use Rattle.formula.specs.Grammar.{Sum, Product, Term, ◌over◌, ◌times◌, inverse, sum_text}
use Rattle.formula.specs.Reading.{longest_text, Reads, TextReading, formula, none, IsReading, TermWithin}
use Rattle.formula.specs.Value.{sum_block, product_block, term_block, sum_exists, product_exists}
use Rattle.formula.specs.Answers.{lent_rules, lent_fault, reading_rules, formula_rules, formula_fault, reading_block, formula_answer, formula_after, Answered}
use Rattle.formula.specs.Callers.{Ready}
use Rattle.formula.specs.CallerLaws.{ready}
use Rattle.formula.proofs.ValueLaws.{sum_sized, term_sized}
use Rattle.formula.proofs.Written.{sum_written}
use Rattle.formula.proofs.SingleReading.{text_injective, single_reading, reading_unique}
use Rattle.formula.proofs.Deciding.{decided}
use Rattle.demands.specs.Lowest.{fault_up_to}

-- 01: "each accepted text has a single reading"; and every other text has none
pub one_reading : (β : Lent) (text : List ℕ) → (r : TextReading) × IsReading β text r × ((r' : TextReading) → IsReading β text r' → r' ≡ r)
one_reading β text =
    let (r, right) = decided β text in (r, right, λ r' right'. reading_unique β text r' r right' right)

-- also without regard to the limits
pub at_most_one : (x y : Sum) → sum_text x ≡ sum_text y → x ≡ y
at_most_one = text_injective

-- 01: "A text is 1 to 128 bytes"
pub text-length : {β : Lent} {text : List ℕ} {x : Sum} → Reads β text x → (1 ≤ length text) × (length text ≤ longest_text)
text-length {x = x} right = (subst (λ (l : List ℕ). 1 ≤ length l) right.written (sum_written x), right.short)

-- 01: "X/Y is X times the inverse of Y"
pub quotient_is : (m : ℕ) (β : Lent) (p : Product) (t : Term)
    → (product_block m β (p over t) ≡ product_block m β (p times inverse t)) × (product_exists m β (p over t) ≡ product_exists m β (p times inverse t))
unfolding product_block product_exists
quotient_is m β p t = (refl, refl)

-- ---- the blocks of a formula and of its parts, once the blocks that are lent have passed

module _ (m : ℕ) (β : Lent) (n : ℕ) (H : Hold (lent_rules m β n)) where
  passed_blocks : Ready m β n
  unfolding lent_fault
  passed_blocks = ready m β n (fault_none (lent_rules m β n) H)

  -- the block of a formula is one of n elements of the field
  pub formula_block : {text : List ℕ} {x : Sum} → Reads β text x → (length (sum_block m β x) ≡ n) × Elements m (sum_block m β x)
  formula_block {x = x} right = sum_sized passed_blocks x _ right.within

  -- the inverse of a part exists exactly if the matrix of its block has an inverse
  pub inverse_exists : (t : Term) (k : ℕ) → TermWithin (is_lent β) t k
      → (is_invertible m (term_block m β t) ≡ true)
      ↔ ((X : Matrix ℕ) × Same n (matrix_product (gf m) n X (matrix (gf m) (term_block m β t))) (identity (gf m))
      × Same n (matrix_product (gf m) n (matrix (gf m) (term_block m β t)) X) (identity (gf m)))
  unfolding is_invertible
  inverse_exists t k w =
      let R = passed_blocks in
      let (long, in_field) = term_sized R t k w in
      subst (λ (s : ℕ). (is_invertible m a ≡ true) ↔ Inverted s) (sym R.power) (
        λ alive. (exactly R long in_field).0 (λ z. true≢false (sym alive ∙ ap not (eq-eqb (total (gf m) a) 0 z))),
        λ x. ap not (ne_eqb (total (gf m) a) 0 ((exactly R long in_field).1 x)),
      )
    where
      a : List ℕ
      a = term_block m β t

      Inverted : ℕ → Type 0
      Inverted s =
          (X : Matrix ℕ) × Same s (matrix_product (gf m) s X (matrix (gf m) a)) (identity (gf m))
          × Same s (matrix_product (gf m) s (matrix (gf m) a) X) (identity (gf m))

      exactly : (R : Ready m β n) → length a ≡ n → Elements m a → (total (gf m) a ≢ 0) ↔ Inverted (2 ^ R.log)
      exactly R long in_field =
          let size = long ∙ R.power in
          invertible (gf m) (gf_laws m R.width) R.log a size (λ i l. in_field i (subst (λ (n : ℕ). i < n) (sym size) l))

-- ---- what the number is, once the blocks have passed

module _ (m : ℕ) (β : Lent) (n : ℕ) (H : Hold (lent_rules m β n)) where
  rest : (reading : TextReading) → formula_fault m β reading n ≡ fault (reading_rules m β reading)
  unfolding formula_fault formula_rules lent_rules
  rest reading = fault_rest (lent_rules m β n) (reading_rules m β reading) tt (fault_none (lent_rules m β n) H)

  none_fault : formula_fault m β none n ≡ 16
  unfolding reading_rules
  none_fault = rest none ∙ fault_here 16 _ refl

  dead_fault : (x : Sum) → sum_exists m β x ≡ false → formula_fault m β (formula x) n ≡ 9
  unfolding reading_rules
  dead_fault x e = rest (formula x) ∙ fault_past 16 _ refl (fault_here 9 _ e)

  live_fault : (x : Sum) → sum_exists m β x ≡ true → formula_fault m β (formula x) n ≡ 0
  unfolding reading_rules
  live_fault x e = rest (formula x) ∙ fault_past 16 _ refl (fault_past 9 _ e fault_empty)

-- a call with this number
refused_with : {A : Type 0} (refused : ℕ → A) (value : A) {k : ℕ} (j : ℕ) → k ≡ suc j → unless_refused k refused value ≡ refused (suc j)
unfolding unless_refused
refused_with refused value j e = ap (λ (k : ℕ). unless_refused k refused value) e

-- ---- a call that was made

module _ {m : ℕ} {text : List ℕ} {β : Lent} {out new : List ℕ} {r : Outcome} (C : Answered m text β out r new) where
  -- answer and buffer are those of every reading, since there is one alone
  at : (reading : TextReading) → IsReading β text reading → (r ≡ formula_answer m β reading out) × (new ≡ formula_after m β reading out)
  at reading right =
      subst (λ (k : TextReading). (r ≡ formula_answer m β k out) × (new ≡ formula_after m β k out))
      (reading_unique β text C.reading reading C.right right) (C.answer, C.buffer)

  module _ (H : Hold (lent_rules m β (length out))) where
    pub no_formula : ((x : Sum) → ¬ Reads β text x) → (r ≡ Refused 16) × (new ≡ out)
    unfolding formula_answer formula_after
    no_formula right =
        let (answer, buffer) = at none right in
        let number = none_fault m β (length out) H in
        (answer ∙ refused_with Refused Done 15 number, buffer ∙ refused_with (λ k. out) _ 15 number)

    pub no_inverse : (x : Sum) → Reads β text x → sum_exists m β x ≡ false → (r ≡ Refused 9) × (new ≡ out)
    unfolding formula_answer formula_after
    no_inverse x right e =
        let (answer, buffer) = at (formula x) right in
        let number = dead_fault m β (length out) H x e in
        (answer ∙ refused_with Refused Done 8 number, buffer ∙ refused_with (λ k. out) _ 8 number)

    pub block_written : (x : Sum) → Reads β text x → sum_exists m β x ≡ true → (r ≡ Done) × (new ≡ sum_block m β x)
    unfolding formula_answer formula_after reading_block
    block_written x right e =
        let (answer, buffer) = at (formula x) right in
        let number = live_fault m β (length out) H x e in
        (answer ∙ given Refused Done number, buffer ∙ given (λ k. out) _ number)

  -- a call whose blocks did not pass is refused by one of their numbers
  passed : (r ≡ Done) ⊎ ((k : ℕ) × (r ≡ Refused k) × (3 < k)) → Hold (lent_rules m β (length out))
  unfolding formula_answer formula_fault formula_rules lent_rules
  passed ended = decided_by (ℕ_discrete (fault rules) 0)
    where
      rules : List Rule
      rules = lent_rules m β (length out)

      low : fault rules ≤ 3
      low = fault_up_to 3 rules refl

      refused_by : fault rules ≢ 0 → (r ≡ Done) ⊎ ((k : ℕ) × (r ≡ Refused k) × (3 < k)) → ⊥
      refused_by ne (inl e) =
          let z = done_none _ (sym C.answer ∙ e) in absurd (ne (sym (fault_first rules (reading_rules m β C.reading) ne) ∙ z))
      refused_by ne (inr (k, e, high)) =
          let (_, is) = refused_due Refused Done done_apart same_outcome _ (sym C.answer ∙ e) in
          let same = sym (fault_first rules (reading_rules m β C.reading) ne) ∙ is in absurd (omega (arith, low))

      decided_by : Dec (fault rules ≡ 0) → Hold rules
      decided_by (yes z) = hold rules tt z
      decided_by (no ne) = absurd (refused_by ne ended)

  -- the three ways in which a call ends whose blocks have passed
  abbrev NoFormula : Type 0
  NoFormula = (r ≡ Refused 16) × ((x : Sum) → ¬ Reads β text x)

  abbrev NoInverse : Type 0
  NoInverse = (r ≡ Refused 9) × ((x : Sum) × Reads β text x × (sum_exists m β x ≡ false))

  abbrev WorkedOut : Type 0
  WorkedOut = (r ≡ Done) × ((x : Sum) × Reads β text x × (sum_exists m β x ≡ true))

  ends : Hold (lent_rules m β (length out)) → NoFormula ⊎ NoInverse ⊎ WorkedOut
  ends H = by C.reading C.right
    where
      alive : (x : Sum) → Reads β text x → (b : Bool) → sum_exists m β x ≡ b → NoFormula ⊎ NoInverse ⊎ WorkedOut
      alive x right true e = inr (inr ((block_written H x right e).0, (x, right, e)))
      alive x right false e = inr (inl ((no_inverse H x right e).0, (x, right, e)))

      by : (k : TextReading) → IsReading β text k → NoFormula ⊎ NoInverse ⊎ WorkedOut
      by none right = inl ((no_formula H right).0, right)
      by (formula x) right = alive x right (sum_exists m β x) refl

  apart : {i j : ℕ} → i ≢ j → r ≡ Refused i → r ≡ Refused j → ⊥
  apart {i} {j} ne e e' = ne (same_outcome i j (sym e ∙ e'))

  -- 01: 16 for "a text outside the rules, its length included, or a letter with no block lent", "looked for after 1, 2 and 3"
  pub refused_16_exactly : (r ≡ Refused 16) ↔ (Hold (lent_rules m β (length out)) × ((x : Sum) → ¬ Reads β text x))
  refused_16_exactly = (λ e. let H = passed (inr (16, e, lit< tt)) in (H, only e (ends H)), λ h. (no_formula h.0 h.1).0)
    where
      only : r ≡ Refused 16 → NoFormula ⊎ NoInverse ⊎ WorkedOut → (x : Sum) → ¬ Reads β text x
      only e (inl w) = w.1
      only e (inr (inl w)) = absurd (apart (λ z. omega arith) e w.0)
      only e (inr (inr w)) = absurd (done_apart 16 (sym e ∙ w.0))

  -- 01: "9 is given for a text within the rules if any inverse that it asks for doesn't exist"
  pub refused_9_exactly : (r ≡ Refused 9)
      ↔ (Hold (lent_rules m β (length out)) × ((x : Sum) × Reads β text x × (sum_exists m β x ≡ false)))
  refused_9_exactly =
      (λ e. let H = passed (inr (9, e, lit< tt)) in (H, only e (ends H)), λ h. (no_inverse h.0 h.1.0 h.1.1 h.1.2).0)
    where
      only : r ≡ Refused 9 → NoFormula ⊎ NoInverse ⊎ WorkedOut → (x : Sum) × Reads β text x × (sum_exists m β x ≡ false)
      only e (inl w) = absurd (apart (λ z. omega arith) e w.0)
      only e (inr (inl w)) = w.1
      only e (inr (inr w)) = absurd (done_apart 9 (sym e ∙ w.0))

  -- and else the block is in the buffer
  pub done_exactly : (r ≡ Done)
      ↔ (Hold (lent_rules m β (length out)) × ((x : Sum) × Reads β text x × (sum_exists m β x ≡ true)))
  done_exactly =
      (λ e. let H = passed (inl e) in (H, only e (ends H)), λ h. (block_written h.0 h.1.0 h.1.1 h.1.2).0)
    where
      only : r ≡ Done → NoFormula ⊎ NoInverse ⊎ WorkedOut → (x : Sum) × Reads β text x × (sum_exists m β x ≡ true)
      only e (inl w) = absurd (done_apart 16 (sym w.0 ∙ e))
      only e (inr (inl w)) = absurd (done_apart 9 (sym w.0 ∙ e))
      only e (inr (inr w)) = w.1

  pub written : (x : Sum) → Reads β text x → r ≡ Done → new ≡ sum_block m β x
  written x right e =
      let (H, (y, right', live)) = done_exactly.0 e in
      (block_written H y right' live).1 ∙ ap (sum_block m β) (single_reading right' right)
