-- A parser that goes through a text byte by byte. It is no part of what a text means: it serves the proofs that a text has one reading, and the
-- evaluators promise each other by it that they refuse no text that has one.
use Rattle.std.specs.Prelude.{Bool, true, false, List, [], ◌∷◌, ℕ, zero, suc, eqb}
use Rattle.formula.specs.Letters.{Letter, A, B, C, D, letter_byte, plus_byte, times_byte, over_byte, mark_byte, open_byte, close_byte}
use Rattle.formula.specs.Grammar.{Sum, product, ◌plus◌, Product, term, ◌times◌, ◌over◌, Term, letter, bracket, inverse}
use Rattle.formula.specs.Reading.{TextReading, formula, none}

-- what a byte stands for
pub data Token : Type 0 where
  Name : Letter → Token
  Plus : Token
  Times : Token
  Over : Token
  Mark : Token
  Open : Token
  Close : Token
  Other : Token

abbrev pub chosen : {X : Type 0} → Bool → X → X → X
chosen true x y = x
chosen false x y = y

-- the byte of a token; `Other` stands for all that are left
abbrev pub byte_of : Token → ℕ
byte_of (Name l) = letter_byte l
byte_of Plus = plus_byte
byte_of Times = times_byte
byte_of Over = over_byte
byte_of Mark = mark_byte
byte_of Open = open_byte
byte_of Close = close_byte
byte_of Other = 0

-- the one of these tokens that a byte stands for
abbrev pub among : List Token → ℕ → Token
among [] n = Other
among (x ∷ xs) n = chosen (eqb n (byte_of x)) x (among xs n)

abbrev pub tokens : List Token
tokens = Plus ∷ Times ∷ Over ∷ Mark ∷ Open ∷ Close ∷ Name A ∷ Name B ∷ Name C ∷ Name D ∷ []

abbrev pub token : ℕ → Token
token n = among tokens n

-- what stands before the next product of a sum
pub data Sums : Type 0 where
  first : Sums
  after : Sum → Sums

-- what stands before the next term of a product
pub data Products : Type 0 where
  first : Products
  multiplied : Product → Products
  divided : Product → Products

-- what stands before the next term, within one pair of brackets
pub record Front : Type 0 where
  pub sums : Sums
  pub products : Products

abbrev pub start : Front
start = record { sums = first; products = first }

abbrev pub with_term : Products → Term → Product
with_term first t = term t
with_term (multiplied p) t = p times t
with_term (divided p) t = p over t

abbrev pub with_product : Sums → Product → Sum
with_product first p = product p
with_product (after s) p = s plus p

abbrev pub whole : Front → Term → Sum
whole f t = with_product f.sums (with_term f.products t)

-- k brackets may still be opened, and `outer` are the fronts around the brackets that are open, the innermost first
pub data State : Type 0 where
  -- a term is to come
  operand : ℕ → List Front → Front → State
  -- a term stands before
  operator : ℕ → List Front → Front → Term → State
  -- the text is no formula
  failed : State

module _ (lent : Letter → Bool) where
  abbrev pub step : State → Token → State
  step (operand k outer f) (Name l) = chosen (lent l) (operator k outer f (letter l)) failed
  step (operand zero outer f) Open = failed
  step (operand (suc k) outer f) Open = operand k (f ∷ outer) start
  step (operand k outer f) Plus = failed
  step (operand k outer f) Times = failed
  step (operand k outer f) Over = failed
  step (operand k outer f) Mark = failed
  step (operand k outer f) Close = failed
  step (operand k outer f) Other = failed
  step (operator k outer f t) Plus = operand k outer (record { sums = after (whole f t); products = first })
  step (operator k outer f t) Times = operand k outer (record { sums = f.sums; products = multiplied (with_term f.products t) })
  step (operator k outer f t) Over = operand k outer (record { sums = f.sums; products = divided (with_term f.products t) })
  step (operator k outer f t) Mark = operator k outer f (inverse t)
  step (operator k [] f t) Close = failed
  step (operator k (g ∷ outer) f t) Close = operator (suc k) outer g (bracket (whole f t))
  step (operator k outer f t) (Name l) = failed
  step (operator k outer f t) Open = failed
  step (operator k outer f t) Other = failed
  step failed b = failed

  abbrev pub ended : State → TextReading
  ended (operator k [] f t) = formula (whole f t)
  ended (operator k (g ∷ outer) f t) = none
  ended (operand k outer f) = none
  ended failed = none

  unfoldable pub run : State → List ℕ → TextReading
  run state [] = ended state
  run state (b ∷ text) = run (step state (token b)) text
