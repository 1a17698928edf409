-- Formulas of blocks, by 01's order of operations: the mark ' "binds tightest and may be repeated; then * and /, then +, each from left to right",
-- and "a bracket holds a whole formula again". A sum and a product go on at their right, so that they are worked from left to right.
use Rattle.std.specs.Prelude.{List, [], ◌∷◌, ◌++◌, ℕ}
use Rattle.formula.specs.Letters.{Letter, letter_byte, plus_byte, times_byte, over_byte, mark_byte, open_byte, close_byte}

infixl 60 ◌plus◌
infixl 70 ◌times◌ ◌over◌
mutual
  pub data Sum : Type 0 where
    product : Product → Sum
    ◌plus◌ : Sum → Product → Sum

  pub data Product : Type 0 where
    term : Term → Product
    ◌times◌ : Product → Term → Product
    ◌over◌ : Product → Term → Product

  pub data Term : Type 0 where
    letter : Letter → Term
    bracket : Sum → Term
    inverse : Term → Term

-- a formula written down
unfoldable mutual
  pub sum_text : Sum → List ℕ
  sum_text (product p) = product_text p
  sum_text (s plus p) = sum_text s ++ plus_byte ∷ product_text p

  pub product_text : Product → List ℕ
  product_text (term t) = term_text t
  product_text (p times t) = product_text p ++ times_byte ∷ term_text t
  product_text (p over t) = product_text p ++ over_byte ∷ term_text t

  pub term_text : Term → List ℕ
  term_text (letter l) = letter_byte l ∷ []
  term_text (bracket s) = open_byte ∷ sum_text s ++ close_byte ∷ []
  term_text (inverse t) = term_text t ++ mark_byte ∷ []
