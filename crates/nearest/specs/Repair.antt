-- Repair, defined without an algorithm: the code word within t places of the word received, found by a search over all words of n bits.
use Rattle.std.specs.Prelude.{Bool, not, ◌&&◌, List, ℕ, ◌^◌, eqb, leb, length}
use Rattle.algebra.specs.All.{some}
use Rattle.algebra.specs.Lists.{entry_of}
use Rattle.algebra.specs.Places.{count, found}
use Rattle.params.specs.declared.Parameters.{Parameters}
use Rattle.parity.specs.Columns.{word_of}
use Rattle.parity.specs.Word.{is_code_word}

-- "Two words differ in the places where their bytes are unequal."
unfoldable pub differs : List ℕ → List ℕ → ℕ → Bool
differs a b j = not (eqb (entry_of a j) (entry_of b j))

unfoldable pub distance : ℕ → List ℕ → List ℕ → ℕ
distance n a b = count n (differs a b)

module _ (c : Parameters) (h cols : List ℕ) where
  -- a code word that differs from the word received in at most t places
  unfoldable pub is_near : List ℕ → List ℕ → Bool
  is_near received w = is_code_word c h cols w && leb (distance (length cols) received w) c.t

  -- some word of n bits is one
  unfoldable pub is_repairable : List ℕ → Bool
  is_repairable received = some (2 ^ length cols) (λ s. is_near received (word_of (length cols) s))

  unfoldable pub repaired_of : List ℕ → List ℕ
  repaired_of received = word_of (length cols) (found (2 ^ length cols) (λ s. is_near received (word_of (length cols) s)))
