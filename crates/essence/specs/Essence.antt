-- The essence of a signature, and the signature of an essence.
--
-- The essence is document 004's short form of a signature: e + 1 values for n = 2^e entries. By 01's rule for 1/h, 1/h_i is 1/h_0 plus the sum, over
-- the bits s of i that are 1, of 1/h at 2^s plus 1/h_0. So it is the sum of a choice of the essence's values: those at the bits of i, and the last.
use Rattle.std.specs.Prelude.{List, [], ◌∷◌, ◌++◌, ℕ, ◌+◌, ◌^◌}
use Rattle.algebra.specs.Tabulate.{tabulate}
use Rattle.algebra.specs.Xor.{◌⊕◌}
use Rattle.field.specs.Product.{inverse}
use Rattle.field.specs.Words.{word}
use Rattle.signature.specs.Tests.{inverse_at}
use Rattle.essence.specs.Choices.{choice_sum}

-- f being 1/h, 01's "e values 1/h at 2^s plus 1/h_0, s from 0 to e − 1, followed by 1/h_0"
unfoldable pub essence_from : ℕ → (ℕ → ℕ) → List ℕ
essence_from e f = tabulate e (λ s. f (2 ^ s) ⊕ f 0) ++ f 0 ∷ []

-- the essence of a signature h of 2^e entries
unfoldable pub essence_of : ℕ → ℕ → List ℕ → List ℕ
essence_of m e h = essence_from e (inverse_at m h)

-- 1/h_i from the essence v: the choice 2^e + i takes the values at the bits of i, and the last, which stands at place e
unfoldable pub chosen_at : ℕ → ℕ → List ℕ → ℕ → ℕ
chosen_at m e v i = choice_sum m v (2 ^ e + i)

-- the signature of an essence v of e + 1 values
unfoldable pub signature_of : ℕ → ℕ → List ℕ → List ℕ
signature_of m e v = tabulate (2 ^ e) (λ i. inverse m (word m) (chosen_at m e v i))
