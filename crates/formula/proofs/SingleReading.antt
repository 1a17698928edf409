-- A text is the text of at most one formula, so it has at most one reading.
use Rattle.std.specs.Prelude.{◌≡◌, refl, Bool, true, List, [], ℕ, zero, suc, ◌+◌, ◌≤◌}
use Rattle.std.proofs.Common.{sym, ap, ◌∙◌, arith}
use Rattle.formula.specs.Letters.{Letter, Lent}
use Rattle.formula.specs.Grammar.{Sum, product, ◌plus◌, Product, term, ◌times◌, ◌over◌, Term, letter, bracket, inverse, sum_text}
use Rattle.formula.specs.Reading.{SumWithin, ProductWithin, TermWithin, Reads, TextReading, formula, none, IsReading}
use Rattle.formula.specs.Parser.{operand, run, start}
use Rattle.formula.proofs.Passing.{whole_passes}

-- ---- with all blocks lent, a formula is within the limit of as many brackets as it has pairs

abbrev mutual
  sum_pairs : Sum → ℕ
  sum_pairs (product p) = product_pairs p
  sum_pairs (s plus p) = sum_pairs s + product_pairs p

  product_pairs : Product → ℕ
  product_pairs (term t) = term_pairs t
  product_pairs (p times t) = product_pairs p + term_pairs t
  product_pairs (p over t) = product_pairs p + term_pairs t

  term_pairs : Term → ℕ
  term_pairs (letter l) = 0
  term_pairs (bracket s) = suc (sum_pairs s)
  term_pairs (inverse t) = term_pairs t

abbrev all_lent : Letter → Bool
all_lent l = true

mutual
  unfolding SumWithin

  sum_within : (x : Sum) (k : ℕ) → sum_pairs x ≤ k → SumWithin all_lent x k
  sum_within (product p) k l = product_within p k l
  sum_within (s plus p) k l = (sum_within s k (omega arith), product_within p k (omega arith))

  product_within : (p : Product) (k : ℕ) → product_pairs p ≤ k → ProductWithin all_lent p k
  product_within (term t) k l = term_within t k l
  product_within (p times t) k l = (product_within p k (omega arith), term_within t k (omega arith))
  product_within (p over t) k l = (product_within p k (omega arith), term_within t k (omega arith))

  term_within : (t : Term) (k : ℕ) → term_pairs t ≤ k → TermWithin all_lent t k
  term_within (letter a) k l = refl
  term_within (bracket s) zero l = absurd (omega arith)
  term_within (bracket s) (suc k) l = sum_within s k (omega arith)
  term_within (inverse t) k l = term_within t k l

-- ---- so the parser goes through its text, and has one answer

pub formula_injective : (x y : Sum) → formula x ≡ formula y → x ≡ y
formula_injective x y e = cc

pub text_injective : (x y : Sum) → sum_text x ≡ sum_text y → x ≡ y
text_injective x y e =
    let k = sum_pairs x + sum_pairs y in
    let read_x : run all_lent (operand k [] start) (sum_text x) ≡ formula x = whole_passes all_lent x k (sum_within x k (omega arith)) in
    let read_y : run all_lent (operand k [] start) (sum_text y) ≡ formula y = whole_passes all_lent y k (sum_within y k (omega arith)) in
    formula_injective x y (sym read_x ∙ ap (run all_lent (operand k [] start)) e ∙ read_y)

pub single_reading : {β : Lent} {text : List ℕ} {x y : Sum} → Reads β text x → Reads β text y → x ≡ y
single_reading {x = x} {y = y} r r' = text_injective x y (r.written ∙ sym r'.written)

pub reading_unique : (β : Lent) (text : List ℕ) (r r' : TextReading) → IsReading β text r → IsReading β text r' → r ≡ r'
reading_unique β text (formula x) (formula y) h h' = ap formula (single_reading h h')
reading_unique β text (formula x) none h h' = absurd (h' x h)
reading_unique β text none (formula y) h h' = absurd (h y h')
reading_unique β text none none h h' = refl
