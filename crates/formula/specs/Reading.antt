-- What a text reads as: the formula whose text it is, within 01's limits. No text is the text of two formulas (SingleReading).
use Rattle.std.specs.Prelude.{◌≡◌, Bool, true, List, ℕ, zero, suc, ◌≤◌, length}
use Rattle.formula.specs.Letters.{Letter, Lent, is_lent}
use Rattle.formula.specs.Grammar.{Sum, product, ◌plus◌, Product, term, ◌times◌, ◌over◌, Term, letter, bracket, inverse, sum_text}

-- 01: "A text is 1 to 128 bytes"; that a formula is written with at least one follows
abbrev pub longest_text : ℕ
longest_text = 128

-- 01: "Round brackets nest at most eight deep"
abbrev pub deepest : ℕ
deepest = 8

-- brackets nest at most k deep, and a block is lent for every letter
module _ (lent : Letter → Bool) where
  unfoldable mutual
    pub SumWithin : Sum → ℕ → Type 0
    SumWithin (product p) k = ProductWithin p k
    SumWithin (s plus p) k = SumWithin s k × ProductWithin p k

    pub ProductWithin : Product → ℕ → Type 0
    ProductWithin (term t) k = TermWithin t k
    ProductWithin (p times t) k = ProductWithin p k × TermWithin t k
    ProductWithin (p over t) k = ProductWithin p k × TermWithin t k

    pub TermWithin : Term → ℕ → Type 0
    TermWithin (letter l) k = lent l ≡ true
    TermWithin (bracket s) zero = ⊥
    TermWithin (bracket s) (suc k) = SumWithin s k
    TermWithin (inverse t) k = TermWithin t k

pub record Reads (β : Lent) (text : List ℕ) (x : Sum) : Type 0 where
  pub written : sum_text x ≡ text
  pub short : length text ≤ longest_text
  pub within : SumWithin (is_lent β) x deepest

-- a text reads as a formula, or as none
pub data TextReading : Type 0 where
  formula : Sum → TextReading
  none : TextReading

abbrev pub IsReading : Lent → List ℕ → TextReading → Type 0
IsReading β text (formula x) = Reads β text x
IsReading β text none = (x : Sum) → ¬ Reads β text x
