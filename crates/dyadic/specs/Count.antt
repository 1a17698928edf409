-- How many products of elements the product of two blocks takes, by three products of halves: "exactly 3^e" for blocks of 2^e elements.
use Rattle.std.specs.Prelude.{◌≡◌, ℕ, ◌^◌}

-- n products of elements for blocks of s elements
abbrev pub Counted : ℕ → ℕ → Type 0
Counted s n = (e : ℕ) → s ≡ 2 ^ e → n ≡ 3 ^ e
