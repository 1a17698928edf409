-- What the product asks of its callers: slices that have been checked.
use Rattle.std.specs.Prelude.{◌≡◌, List, ℕ, ◌^◌, ◌≤◌, length}
use Rattle.field.specs.Gf.{Width}
use Rattle.slices.specs.Lengths.{longest}
use Rattle.slices.specs.Elements.{Elements}

-- two blocks of 2^log elements, no longer than the longest, and a buffer for their product
pub record Factors (m : ℕ) (a b out : List ℕ) : Type 0 where
  pub width : Width m
  pub log : ℕ
  pub length_a : length a ≡ 2 ^ log
  pub short : length a ≤ longest
  pub length_b : length b ≡ 2 ^ log
  pub length_out : length out ≡ 2 ^ log
  pub elements_a : Elements m a
  pub elements_b : Elements m b
