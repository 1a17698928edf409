-- Message columns and check columns; the message of a word, and the code word that carries a message.
use Rattle.std.specs.Prelude.{Bool, ◌&&◌, cond, List, ℕ, ◌^◌, eqb, length}
use Rattle.algebra.specs.All.{all, some}
use Rattle.algebra.specs.Bits.{bit_at}
use Rattle.algebra.specs.Lists.{entry_of, same_list}
use Rattle.algebra.specs.Places.{count, chosen, found}
use Rattle.algebra.specs.Sum.{sum}
use Rattle.algebra.specs.Tabulate.{tabulate}
use Rattle.field.specs.Gf.{gf}
use Rattle.params.specs.declared.Parameters.{Parameters}
use Rattle.parity.specs.Word.{whole, parity_at, held, is_code_word}

-- the word of n bits whose bits are those of the number s
unfoldable pub word_of : ℕ → ℕ → List ℕ
word_of n s = tabulate n (bit_at s)

-- Of a matrix with t rows: column j is the sum of the columns before it that the bits of s choose.
-- The m × t bits of a column are those of its t entries, so columns add entry by entry.
unfoldable pub is_sum_of : ℕ → ℕ → (ℕ → ℕ → ℕ) → ℕ → ℕ → Bool
is_sum_of m t e j s = all t (λ i. eqb (sum (gf m) j (λ p. held (bit_at s p) (e i p))) (e i j))

-- column j "is a sum of columns before it (the empty sum is zero)"
unfoldable pub is_sum : ℕ → ℕ → (ℕ → ℕ → ℕ) → ℕ → Bool
is_sum m t e j = some (2 ^ j) (is_sum_of m t e j)

module _ (c : Parameters) (h cols : List ℕ) where
  -- "Column j is a message column if it is a sum of columns before it, else a check column."
  unfoldable pub is_message_column : ℕ → Bool
  is_message_column = is_sum c.m c.t (λ i p. parity_at c h i (entry_of cols p))

  -- 1 for a message column, 0 for a check column
  unfoldable pub roles_of : List ℕ
  roles_of = tabulate (length cols) (λ j. cond (is_message_column j) 1 0)

  -- "k is the count of message columns."
  unfoldable pub dimension : ℕ
  dimension = count (length cols) is_message_column

  -- "Taking the message out of a word gives its bytes at the message columns."
  unfoldable pub message_of : List ℕ → List ℕ
  message_of w = chosen (length cols) is_message_column (entry_of w)

  -- the code word that carries the message, by a search over all words
  unfoldable pub encoding_of : List ℕ → List ℕ
  encoding_of message =
      word_of (length cols)
      (found (2 ^ length cols) (λ s. is_code_word c h cols (word_of (length cols) s) && same_list (message_of (word_of (length cols) s)) message))

-- k of the whole code
abbrev pub message_length : Parameters → List ℕ → ℕ
message_length c h = dimension c h (whole c.n)
