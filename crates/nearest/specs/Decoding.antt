-- What the parts that find the candidate are handed and what they leave, for an accepted code and a list of its columns.
use Rattle.std.specs.Prelude.{◌≡◌, Bool, List, ℕ, ◌≤◌, eqb, length}
use Rattle.algebra.specs.Lists.{entry_of}
use Rattle.algebra.specs.Locator.Pass.{Invariant}
use Rattle.algebra.specs.Locator.Split.{Halves, value}
use Rattle.algebra.specs.Places.{count}
use Rattle.field.specs.Gf.{gf}
use Rattle.params.specs.declared.Parameters.{Parameters}
use Rattle.signature.specs.Signature.{root_at, support_at}
use Rattle.parity.specs.Word.{syndrome_at}
use Rattle.locator.specs.declared.polynomial.Polynomial.{Polynomial}
use Rattle.locator.specs.Coefficients.{halves_of}
use Rattle.nearest.specs.Turned.{turned}

-- the support of place j, by its column, is a root of the polynomial
unfoldable pub root_place : Polynomial → List ℕ → List ℕ → ℕ → Bool
root_place p support cols j = eqb (value (gf p.m) (halves_of (gf p.m) p) (entry_of support (entry_of cols j))) 0

-- the support of place j is a root of the pair
unfoldable pub is_error : Parameters → List ℕ → List ℕ → Halves ℕ → ℕ → Bool
is_error c h cols pair j = eqb (value (gf c.m) pair (support_at (gf c.m) c.omega (entry_of h) (entry_of cols j))) 0

-- the word received with the bits turned where the support is a root of what the pass leaves, and the number of them
pub record Candidate (c : Parameters) (h cols received : List ℕ) (number : ℕ) (word : List ℕ) : Type 0 where
  pub pair : Halves ℕ
  pub degree : ℕ
  pub rest : Halves ℕ
  pub rest_degree : ℕ
  pub invariant : Invariant (gf c.m) (root_at (gf c.m) c.omega (entry_of h)) (syndrome_at c h cols received) c.t pair degree rest rest_degree
  pub least : degree ≤ rest_degree
  pub number_is : number ≡ count (length cols) (is_error c h cols pair)
  pub word_is : word ≡ turned (length cols) (is_error c h cols pair) received
