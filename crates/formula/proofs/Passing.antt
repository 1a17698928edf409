-- The parser goes through the text of a formula, and what follows it finds the parser with that formula read.
use Rattle.std.specs.Prelude.{◌≡◌, Bool, true, ℕ, zero, suc}
use Rattle.std.proofs.Math.Path.{refl, ap}
use Rattle.std.proofs.Common.{sym, ◌∙◌}
use mathlib.Core.List.{List, [], ◌∷◌, ◌++◌, append_assoc, append-nil}
use Rattle.formula.specs.Letters.{Letter, A, B, C, D}
use Rattle.formula.specs.Letters.{plus_byte, times_byte, over_byte, mark_byte, close_byte, letter_byte}
use Rattle.formula.specs.Grammar.{Sum, product, ◌plus◌, Product, term, ◌times◌, ◌over◌, Term, letter, bracket, inverse}
use Rattle.formula.specs.Grammar.{sum_text, product_text, term_text}
use Rattle.formula.specs.Reading.{formula, none, SumWithin, ProductWithin, TermWithin}
use Rattle.formula.specs.Parser.{Plus, Times, Over, Close, token, chosen}
use Rattle.formula.specs.Parser.{Sums, first, after, Products, multiplied, divided, Front, start, with_term, whole}
use Rattle.formula.specs.Parser.{State, operand, operator, failed, step, run}

-- a product is what stands before its last term, and that term
abbrev pub front_of : Product → Products
front_of (term t) = first
front_of (p times t) = multiplied p
front_of (p over t) = divided p

abbrev pub last_of : Product → Term
last_of (term t) = t
last_of (p times t) = t
last_of (p over t) = t

together : (p : Product) → with_term (front_of p) (last_of p) ≡ p
together (term t) = refl
together (p times t) = refl
together (p over t) = refl

-- and so is a sum
abbrev pub sum_front_of : Sum → Front
sum_front_of (product p) = record { sums = first; products = front_of p }
sum_front_of (s plus p) = record { sums = after s; products = front_of p }

abbrev pub sum_last_of : Sum → Term
sum_last_of (product p) = last_of p
sum_last_of (s plus p) = last_of p

sum_together : (x : Sum) → whole (sum_front_of x) (sum_last_of x) ≡ x
sum_together (product p) = ap product (together p)
sum_together (s plus p) = ap (λ (q : Product). s plus q) (together p)

-- a product stands before, after these sums
abbrev pub after_product : ℕ → List Front → Sums → Product → State
after_product k outer s p = operator k outer (record { sums = s; products = front_of p }) (last_of p)

-- a sum stands before
abbrev pub after_sum : ℕ → List Front → Sum → State
after_sum k outer x = operator k outer (sum_front_of x) (sum_last_of x)

module _ (lent : Letter → Bool) where
  pub failed-none : (text : List ℕ) → run lent failed text ≡ none
  unfolding run
  failed-none [] = refl
  failed-none (b ∷ text) = failed-none text

  -- how the parser goes on after a product or a sum

  pub product_times : (k : ℕ) (outer : List Front) (s : Sums) (p : Product)
      → step lent (after_product k outer s p) Times ≡ operand k outer (record { sums = s; products = multiplied p })
  product_times k outer s p = ap (λ (q : Product). operand k outer (record { sums = s; products = multiplied q })) (together p)

  pub product_over : (k : ℕ) (outer : List Front) (s : Sums) (p : Product)
      → step lent (after_product k outer s p) Over ≡ operand k outer (record { sums = s; products = divided p })
  product_over k outer s p = ap (λ (q : Product). operand k outer (record { sums = s; products = divided q })) (together p)

  pub sum_plus : (k : ℕ) (outer : List Front) (x : Sum)
      → step lent (after_sum k outer x) Plus ≡ operand k outer (record { sums = after x; products = first })
  sum_plus k outer x = ap (λ (y : Sum). operand k outer (record { sums = after y; products = first })) (sum_together x)

  sum_close : (k : ℕ) (g : Front) (outer : List Front) (x : Sum)
      → step lent (after_sum k (g ∷ outer) x) Close ≡ operator (suc k) outer g (bracket x)
  sum_close k g outer x = ap (λ (y : Sum). operator (suc k) outer g (bracket y)) (sum_together x)

  letter_passes : (l : Letter) → lent l ≡ true → (k : ℕ) (outer : List Front) (f : Front)
      → step lent (operand k outer f) (token (letter_byte l)) ≡ operator k outer f (letter l)
  letter_passes A e k outer f = ap (λ (b : Bool). chosen b (operator k outer f (letter A)) failed) e
  letter_passes B e k outer f = ap (λ (b : Bool). chosen b (operator k outer f (letter B)) failed) e
  letter_passes C e k outer f = ap (λ (b : Bool). chosen b (operator k outer f (letter C)) failed) e
  letter_passes D e k outer f = ap (λ (b : Bool). chosen b (operator k outer f (letter D)) failed) e

  mutual
    unfolding run sum_text SumWithin

    pub sum_passes : (x : Sum) (k : ℕ) → SumWithin lent x k → (outer : List Front) (rest : List ℕ)
        → run lent (operand k outer start) (sum_text x ++ rest) ≡ run lent (after_sum k outer x) rest
    sum_passes (product p) k w outer rest = product_passes p k w outer first rest
    sum_passes (s plus p) k w outer rest =
        ap (run lent (operand k outer start)) (append_assoc (sum_text s) (plus_byte ∷ product_text p) rest)
        ∙ sum_passes s k w.0 outer (plus_byte ∷ product_text p ++ rest)
        ∙ ap (λ (x : State). run lent x (product_text p ++ rest)) (sum_plus k outer s)
        ∙ product_passes p k w.1 outer (after s) rest

    pub product_passes : (p : Product) (k : ℕ) → ProductWithin lent p k → (outer : List Front) (s : Sums) (rest : List ℕ)
        → run lent (operand k outer (record { sums = s; products = first })) (product_text p ++ rest) ≡ run lent (after_product k outer s p) rest
    product_passes (term t) k w outer s rest = term_passes t k w outer (record { sums = s; products = first }) rest
    product_passes (p times t) k w outer s rest =
        ap (run lent (operand k outer (record { sums = s; products = first }))) (append_assoc (product_text p) (times_byte ∷ term_text t) rest)
        ∙ product_passes p k w.0 outer s (times_byte ∷ term_text t ++ rest)
        ∙ ap (λ (x : State). run lent x (term_text t ++ rest)) (product_times k outer s p)
        ∙ term_passes t k w.1 outer (record { sums = s; products = multiplied p }) rest
    product_passes (p over t) k w outer s rest =
        ap (run lent (operand k outer (record { sums = s; products = first }))) (append_assoc (product_text p) (over_byte ∷ term_text t) rest)
        ∙ product_passes p k w.0 outer s (over_byte ∷ term_text t ++ rest)
        ∙ ap (λ (x : State). run lent x (term_text t ++ rest)) (product_over k outer s p)
        ∙ term_passes t k w.1 outer (record { sums = s; products = divided p }) rest

    term_passes : (t : Term) (k : ℕ) → TermWithin lent t k → (outer : List Front) (f : Front) (rest : List ℕ)
        → run lent (operand k outer f) (term_text t ++ rest) ≡ run lent (operator k outer f t) rest
    term_passes (letter l) k w outer f rest = ap (λ (x : State). run lent x rest) (letter_passes l w k outer f)
    term_passes (bracket s) zero w outer f rest = absurd w
    term_passes (bracket s) (suc k) w outer f rest =
        ap (run lent (operand k (f ∷ outer) start)) (append_assoc (sum_text s) (close_byte ∷ []) rest)
        ∙ sum_passes s k w (f ∷ outer) (close_byte ∷ rest)
        ∙ ap (λ (x : State). run lent x rest) (sum_close k f outer s)
    term_passes (inverse t) k w outer f rest =
        ap (run lent (operand k outer f)) (append_assoc (term_text t) (mark_byte ∷ []) rest)
        ∙ term_passes t k w outer f (mark_byte ∷ rest)

  -- the text of a formula is read as that formula
  pub whole_passes : (x : Sum) (k : ℕ) → SumWithin lent x k → run lent (operand k [] start) (sum_text x) ≡ formula x
  unfolding run
  whole_passes x k w =
      ap (run lent (operand k [] start)) (sym (append-nil (sum_text x))) ∙ sum_passes x k w [] [] ∙ ap formula (sum_together x)
