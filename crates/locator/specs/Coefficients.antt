-- The locator as the program keeps it: a polynomial by its halves, with the width of its field and a bound on its degree; and what the pass makes of two.
use Rattle.std.specs.Prelude.{◌≡◌, Bool, true, false, List, ℕ, ◌+◌, ◌/◌, ◌<◌, ◌≤◌, ◌^◌, length}
use Rattle.algebra.specs.Field.{Ops}
use Rattle.algebra.specs.Locator.Split.{Halves}
use Rattle.algebra.specs.Locator.Pass.{Invariant, Pivot, Raised, Reduced, Step}
use Rattle.field.specs.Gf.{gf}
use Rattle.slices.specs.Lengths.{longest}
use Rattle.algebra.specs.Lists.{entry_of}
use Rattle.locator.specs.declared.polynomial.Polynomial.{Polynomial}
use Rattle.locator.specs.Halves.{evaluate, Constant}

abbrev pub halves_of : Ops ℕ → Polynomial → Halves ℕ
halves_of K p = record { even = evaluate K p.even; odd = evaluate K p.odd }

-- a polynomial over the field of width m, of degree d at most
pub record IsOver (m d : ℕ) (p : Polynomial) : Type 0 where
  pub width : p.m ≡ m
  pub degree : p.degree ≡ d

-- the pivot P and the other polynomial Q, after a turn at a root whose square is r
pub record Turned (m r a b : ℕ) (P Q P' Q' : Polynomial) : Type 0 where
  pub pivot : IsOver m (P.degree + 2) P'
  pub other : IsOver m Q.degree Q'
  pub raised : Raised (gf m) r (halves_of (gf m) P) (halves_of (gf m) P')
  pub reduced : Reduced (gf m) a b (halves_of (gf m) P) (halves_of (gf m) Q) (halves_of (gf m) Q')

-- which of two polynomials is the pivot: the first one or the second one
pub data Choice (m a b p q : ℕ) : Bool → Type 0 where
  first : Pivot (gf m) a b p q → Choice m a b p q true
  second : Pivot (gf m) b a q p → Choice m a b p q false

-- one turn at the root z with the syndrome s
pub record Advanced (m z s : ℕ) (P Q P' Q' : Polynomial) : Type 0 where
  pub first : P'.m ≡ m
  pub second : Q'.m ≡ m
  pub step : Step (gf m) z s (halves_of (gf m) P) P.degree (halves_of (gf m) Q) Q.degree (halves_of (gf m) P') P'.degree (halves_of (gf m) Q') Q'.degree

-- what the pass starts with: 1, of degree 0, and x, of degree 1
pub record Started (m : ℕ) (P Q : Polynomial) : Type 0 where
  pub first : IsOver m 0 P
  pub second : IsOver m 1 Q
  pub first_even : Constant 1 P.even
  pub first_odd : Constant 0 P.odd
  pub second_even : Constant 0 Q.even
  pub second_odd : Constant 1 Q.odd

-- a syndrome for the roots, one element for each of them, and no more of them than repair can take
pub record Syndrome (m : ℕ) (roots syndrome : List ℕ) : Type 0 where
  pub few : length roots ≤ longest / 2
  pub long : length syndrome ≡ length roots
  pub inside : (k : ℕ) → k < length roots → entry_of syndrome k < 2 ^ m

-- the pass after i roots
pub record Passed (m : ℕ) (roots syndrome : List ℕ) (i : ℕ) (P Q : Polynomial) : Type 0 where
  pub first : P.m ≡ m
  pub second : Q.m ≡ m
  pub invariant : Invariant (gf m) (entry_of roots) (entry_of syndrome) i (halves_of (gf m) P) P.degree (halves_of (gf m) Q) Q.degree

-- the pass is over, and P is the one of smaller degree of its two polynomials; so its degree is at most the number of roots
pub record Located (m : ℕ) (roots syndrome : List ℕ) (P : Polynomial) : Type 0 where
  pub width : P.m ≡ m
  pub rest : Halves ℕ
  pub rest_degree : ℕ
  pub least : P.degree ≤ rest_degree
  pub invariant : Invariant (gf m) (entry_of roots) (entry_of syndrome) (length roots) (halves_of (gf m) P) P.degree rest rest_degree
