-- Lengths of blocks and of words: powers of two up to one limit, which stands here and nowhere else in specs/.
use Rattle.std.specs.Prelude.{Bool, ℕ, suc, ◌^◌, eqb}
use Rattle.algebra.specs.All.{some}

-- the longest length is 2 ^ longest_log
abbrev pub longest_log : ℕ
longest_log = 9

abbrev pub longest : ℕ
longest = 2 ^ longest_log

-- s is a power of two, from 1 to the longest
unfoldable pub is_power : ℕ → Bool
is_power s = some (suc longest_log) (λ e. eqb s (2 ^ e))
