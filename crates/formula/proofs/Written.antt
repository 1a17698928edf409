-- A formula is written with at least one byte.
use Rattle.std.specs.Prelude.{List, [], ◌∷◌, ◌++◌, ℕ, ◌<◌, length}
use Rattle.std.proofs.Common.{arith, lit<, length-append}
use Rattle.formula.specs.Letters.{open_byte, close_byte}
use Rattle.formula.specs.Grammar.{Sum, product, ◌plus◌, Product, term, ◌times◌, ◌over◌, Term, letter, bracket, inverse}
use Rattle.formula.specs.Grammar.{sum_text, product_text, term_text}

longer : (u v : List ℕ) → 0 < length u → 0 < length (u ++ v)
longer u v l =
    let e = length-append u v in omega arith

mutual
  unfolding sum_text

  pub sum_written : (x : Sum) → 0 < length (sum_text x)
  sum_written (product p) = product_written p
  sum_written (s plus p) = longer (sum_text s) _ (sum_written s)

  pub product_written : (p : Product) → 0 < length (product_text p)
  product_written (term t) = term_written t
  product_written (p times t) = longer (product_text p) _ (product_written p)
  product_written (p over t) = longer (product_text p) _ (product_written p)

  pub term_written : (t : Term) → 0 < length (term_text t)
  term_written (letter l) = lit< tt
  term_written (bracket s) = longer (open_byte ∷ []) (sum_text s ++ close_byte ∷ []) (lit< tt)
  term_written (inverse t) = longer (term_text t) _ (term_written t)
