-- What the parser answers is the formula whose text it went through. So every text has a reading: a formula, or none.
use Rattle.std.specs.Prelude.{◌≡◌, Bool, length}
use Rattle.std.proofs.Math.Path.{refl, sym, ap}
use Rattle.std.proofs.Common.{subst, ◌∙◌, arith}
use Rattle.std.proofs.Math.Bool.{true, false}
use mathlib.Core.List.{List, [], ◌∷◌, ◌++◌, append_assoc, append-nil}
use Prim.Native.Nat.{ℕ, zero, suc, ◌≤◌}
use Rattle.std.proofs.Math.Decide.{dec_le}
use Rattle.formula.specs.Letters.{Letter, Lent, is_lent, letter_byte, plus_byte, times_byte, over_byte, mark_byte, open_byte, close_byte}
use Rattle.formula.specs.Grammar.{Sum, Product, Term, letter, sum_text, product_text, term_text}
use Rattle.formula.specs.Reading.{longest_text, deepest, SumWithin, ProductWithin, TermWithin, TextReading, formula, none, IsReading}
use Rattle.formula.specs.Parser.{Token, Name, Plus, Times, Over, Mark, Open, Close, Other, token, chosen}
use Rattle.formula.specs.Parser.{Sums, first, after, Products, multiplied, divided, Front, with_term, with_product, whole, start}
use Rattle.formula.specs.Parser.{State, operand, operator, failed, step, ended, run}
use Rattle.formula.proofs.Passing.{whole_passes}
use Rattle.formula.proofs.Tokens.{IsByte, token_is}
use Rattle.formula.proofs.SingleReading.{formula_injective}

none≢formula : (x : Sum) → ¬ (none ≡ formula x)
none≢formula x e =
    let z : ◌≡◌ {A = ℕ} 0 1 = cc in absurd (omega arith)

-- ---- the text that led to a state, before the rest of the text

abbrev sums_before : Sums → List ℕ → List ℕ
sums_before first rest = rest
sums_before (after s) rest = sum_text s ++ plus_byte ∷ rest

abbrev products_before : Products → List ℕ → List ℕ
products_before first rest = rest
products_before (multiplied p) rest = product_text p ++ times_byte ∷ rest
products_before (divided p) rest = product_text p ++ over_byte ∷ rest

abbrev front_before : Front → List ℕ → List ℕ
front_before f rest = sums_before f.sums (products_before f.products rest)

abbrev outer_before : List Front → List ℕ → List ℕ
outer_before [] rest = rest
outer_before (g ∷ outer) rest = outer_before outer (front_before g (open_byte ∷ rest))

product_text_lem : (ps : Products) (t : Term) (rest : List ℕ) → products_before ps (term_text t ++ rest) ≡ product_text (with_term ps t) ++ rest
unfolding sum_text
product_text_lem first t rest = refl
product_text_lem (multiplied p) t rest = sym (append_assoc (product_text p) (times_byte ∷ term_text t) rest)
product_text_lem (divided p) t rest = sym (append_assoc (product_text p) (over_byte ∷ term_text t) rest)

sum_text_lem : (s : Sums) (p : Product) (rest : List ℕ) → sums_before s (product_text p ++ rest) ≡ sum_text (with_product s p) ++ rest
unfolding sum_text
sum_text_lem first p rest = refl
sum_text_lem (after s) p rest = sym (append_assoc (sum_text s) (plus_byte ∷ product_text p) rest)

whole_text : (f : Front) (t : Term) (rest : List ℕ) → front_before f (term_text t ++ rest) ≡ sum_text (whole f t) ++ rest
whole_text f t rest = ap (sums_before f.sums) (product_text_lem f.products t rest) ∙ sum_text_lem f.sums (with_term f.products t) rest

module _ (lent : Letter → Bool) where
  -- ---- what a state holds is within the limits

  abbrev SumsWithin : Sums → ℕ → Type 0
  SumsWithin first k = Unit {0}
  SumsWithin (after s) k = SumWithin lent s k

  abbrev ProductsWithin : Products → ℕ → Type 0
  ProductsWithin first k = Unit {0}
  ProductsWithin (multiplied p) k = ProductWithin lent p k
  ProductsWithin (divided p) k = ProductWithin lent p k

  abbrev FrontWithin : Front → ℕ → Type 0
  FrontWithin f k = SumsWithin f.sums k × ProductsWithin f.products k

  product_within : (ps : Products) (t : Term) (k : ℕ) → ProductsWithin ps k → TermWithin lent t k → ProductWithin lent (with_term ps t) k
  unfolding SumWithin
  product_within first t k w v = v
  product_within (multiplied p) t k w v = (w, v)
  product_within (divided p) t k w v = (w, v)

  sum_within : (s : Sums) (p : Product) (k : ℕ) → SumsWithin s k → ProductWithin lent p k → SumWithin lent (with_product s p) k
  unfolding SumWithin
  sum_within first p k w v = v
  sum_within (after s) p k w v = (w, v)

  whole_within : (f : Front) (t : Term) (k : ℕ) → FrontWithin f k → TermWithin lent t k → SumWithin lent (whole f t) k
  whole_within f t k w v = sum_within f.sums (with_term f.products t) k w.0 (product_within f.products t k w.1 v)

  module _ (limit : ℕ) (text : List ℕ) where
    -- a front that stands one pair of brackets further out may hold one more
    abbrev OuterWithin : List Front → ℕ → Type 0
    OuterWithin [] k = k ≡ limit
    OuterWithin (g ∷ outer) k = FrontWithin g (suc k) × OuterWithin outer (suc k)

    -- the parser that began with `limit` and `text` may be in this state, with this rest of the text
    abbrev Reached : State → List ℕ → Type 0
    Reached (operand k outer f) rest = (outer_before outer (front_before f rest) ≡ text) × FrontWithin f k × OuterWithin outer k
    Reached (operator k outer f t) rest =
        (outer_before outer (front_before f (term_text t ++ rest)) ≡ text) × FrontWithin f k × OuterWithin outer k × TermWithin lent t k
    Reached failed rest = Unit {0}

    -- a byte of which the token is known
    known : {b n : ℕ} (state : State) (rest : List ℕ) → b ≡ n → Reached state (b ∷ rest) → Reached state (n ∷ rest)
    known state rest e r = subst (λ (n : ℕ). Reached state (n ∷ rest)) e r

    letter_reached : (k : ℕ) (outer : List Front) (f : Front) (l : Letter) (b : Bool) (rest : List ℕ) → lent l ≡ b
        → Reached (operand k outer f) (letter_byte l ∷ rest) → Reached (chosen b (operator k outer f (letter l)) failed) rest
    unfolding SumWithin sum_text
    letter_reached k outer f l true rest e r = (r.0, r.1, r.2, e)
    letter_reached k outer f l false rest e r = tt

    -- what a step leads to is reached too
    next : (state : State) (x : Token) (b : ℕ) (rest : List ℕ) → IsByte b x → Reached state (b ∷ rest) → Reached (step lent state x) rest
    unfolding SumWithin sum_text
    next (operand k outer f) (Name l) b rest i r = letter_reached k outer f l (lent l) rest refl (known (operand k outer f) rest i r)
    next (operand zero outer f) Open b rest i r = tt
    next (operand (suc k) outer f) Open b rest i r =
        let u = known (operand (suc k) outer f) rest i r in (u.0, (tt, tt), (u.1, u.2))
    next (operand k outer f) Plus b rest i r = tt
    next (operand k outer f) Times b rest i r = tt
    next (operand k outer f) Over b rest i r = tt
    next (operand k outer f) Mark b rest i r = tt
    next (operand k outer f) Close b rest i r = tt
    next (operand k outer f) Other b rest i r = tt
    next (operator k outer f t) Plus b rest i r =
        let u = known (operator k outer f t) rest i r in
        (sym (ap (outer_before outer) (whole_text f t (plus_byte ∷ rest))) ∙ u.0, (whole_within f t k u.1 u.3, tt), u.2)
    next (operator k outer f t) Times b rest i r =
        let u = known (operator k outer f t) rest i r in (
          sym (ap (λ (v : List ℕ). outer_before outer (sums_before f.sums v)) (product_text_lem f.products t (times_byte ∷ rest))) ∙ u.0,
          (u.1.0, product_within f.products t k u.1.1 u.3),
          u.2,
        )
    next (operator k outer f t) Over b rest i r =
        let u = known (operator k outer f t) rest i r in (
          sym (ap (λ (v : List ℕ). outer_before outer (sums_before f.sums v)) (product_text_lem f.products t (over_byte ∷ rest))) ∙ u.0,
          (u.1.0, product_within f.products t k u.1.1 u.3),
          u.2,
        )
    next (operator k outer f t) Mark b rest i r =
        let u = known (operator k outer f t) rest i r in
        (ap (λ (v : List ℕ). outer_before outer (front_before f v)) (append_assoc (term_text t) (mark_byte ∷ []) rest) ∙ u.0, u.1, u.2, u.3)
    next (operator k [] f t) Close b rest i r = tt
    next (operator k (g ∷ outer) f t) Close b rest i r =
        let u = known (operator k (g ∷ outer) f t) rest i r in (
          ap (λ (v : List ℕ). outer_before outer (front_before g (open_byte ∷ v)))
              (append_assoc (sum_text (whole f t)) (close_byte ∷ []) rest ∙ sym (whole_text f t (close_byte ∷ rest))) ∙ u.0,
          u.2.0,
          u.2.1,
          whole_within f t k u.1 u.3,
        )
    next (operator k outer f t) (Name l) b rest i r = tt
    next (operator k outer f t) Open b rest i r = tt
    next (operator k outer f t) Other b rest i r = tt
    next failed x b rest i r = tt

    ended_sound : (state : State) (x : Sum) → Reached state [] → ended lent state ≡ formula x → (sum_text x ≡ text) × SumWithin lent x limit
    ended_sound (operator k [] f t) x r e =
        subst (λ (y : Sum). (sum_text y ≡ text) × SumWithin lent y limit) (formula_injective (whole f t) x e) (
          sym (append-nil (sum_text (whole f t))) ∙ sym (whole_text f t []) ∙ r.0,
          subst (SumWithin lent (whole f t)) r.2 (whole_within f t k r.1 r.3),
        )
    ended_sound (operator k (g ∷ outer) f t) x r e = absurd (none≢formula x e)
    ended_sound (operand k outer f) x r e = absurd (none≢formula x e)
    ended_sound failed x r e = absurd (none≢formula x e)

    run_sound : (state : State) (rest : List ℕ) (x : Sum) → Reached state rest → run lent state rest ≡ formula x
        → (sum_text x ≡ text) × SumWithin lent x limit
    unfolding run
    run_sound state [] x r e = ended_sound state x r e
    run_sound state (b ∷ rest) x r e = run_sound (step lent state (token b)) rest x (next state (token b) b rest (token_is b) r) e

  -- what the parser answers is written as the text, and within the limits
  answer_sound : (k : ℕ) (text : List ℕ) (x : Sum) → run lent (operand k [] start) text ≡ formula x → (sum_text x ≡ text) × SumWithin lent x k
  answer_sound k text x e = run_sound k text (operand k [] start) text x (refl, (tt, tt), refl) e

-- where the parser finds nothing there is no reading
pub no_reading : (β : Lent) (text : List ℕ) → run (is_lent β) (operand deepest [] start) text ≡ none → IsReading β text none
no_reading β text e x h =
    none≢formula x (sym e ∙ ap (run (is_lent β) (operand deepest [] start)) (sym h.written) ∙ whole_passes (is_lent β) x deepest h.within)

-- every text reads as a formula or as none
pub decided : (β : Lent) (text : List ℕ) → (r : TextReading) × IsReading β text r
decided β text = by_length (dec_le (length text) longest_text)
  where
    by_answer : length text ≤ longest_text → (r : TextReading) → run (is_lent β) (operand deepest [] start) text ≡ r
        → (r : TextReading) × IsReading β text r
    by_answer l (formula x) e =
        let s = answer_sound (is_lent β) deepest text x e in (formula x, record { written = s.0; short = l; within = s.1 })
    by_answer l none e = (none, no_reading β text e)

    by_length : Dec (length text ≤ longest_text) → (r : TextReading) × IsReading β text r
    by_length (yes l) = by_answer l (run (is_lent β) (operand deepest [] start) text) refl
    by_length (no nl) = (none, λ x h. nl h.short)
