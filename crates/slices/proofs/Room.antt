-- A local array of zeros, of which a function lends the first n elements.
use mathlib.Core.Path.{◌≡◌, ap, ◌∙◌}
use mathlib.Core.List.{List, ◌++◌}
use Prim.Native.Nat.{ℕ, ◌≤◌}
use lib.ListN.{length, take, drop, replicate}
use lib.Seq.{length-take-le, take_at}
use Rattle.algebra.specs.ListLaws.{front_long}
use Rattle.slices.specs.Lengths.{longest}

abbrev pub zeros : List ℕ
zeros = replicate longest 0

pub length_lent : {n : ℕ} → n ≤ longest → length (take n zeros) ≡ n
length_lent {n} fits = length-take-le n zeros fits

-- after a call that left `block` in them: these elements again, with the zeros that were not lent behind them
abbrev pub lent_front : ℕ → List ℕ → List ℕ
lent_front n block = take n (block ++ drop n zeros)

pub record Filled (n : ℕ) (block : List ℕ) : Type 0 where
  pub length_block : length block ≡ n
  pub fits : n ≤ length (block ++ drop n zeros)
  pub front : lent_front n block ≡ block
  pub length_front : length (lent_front n block) ≡ n

pub filled : {n : ℕ} {block : List ℕ} → n ≤ longest → length block ≡ length (take n zeros) → Filled n block
filled {n} {block} fits kept =
    let long = kept ∙ length_lent fits in
    let front = take_at block (drop n zeros) n long in
    record { length_block = long; fits = front_long block (drop n zeros) long; front = front; length_front = ap length front ∙ long }
