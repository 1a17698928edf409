-- The sizes of a signature of n entries and an essence of k values, of which a is given: there is an e, so that n is 2^e and k is e + 1.
use Rattle.std.specs.Prelude.{◌≡◌, List, ℕ, suc, ◌^◌, ◌≤◌}
use Rattle.field.specs.Gf.{Width}
use Rattle.slices.specs.Elements.{Elements}
use Rattle.slices.specs.Lengths.{longest_log}

pub record Shape (m : ℕ) (a : List ℕ) (n k : ℕ) : Type 0 where
  pub width : Width m
  pub e : ℕ
  pub low : 1 ≤ e
  pub high : e ≤ longest_log
  pub entries : n ≡ 2 ^ e
  pub values : k ≡ suc e
  pub elements : Elements m a
