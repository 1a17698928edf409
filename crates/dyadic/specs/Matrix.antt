-- Square matrices of size s over the operations K of a field: functions of a row and a column, of which the entries below s count.
use Rattle.std.specs.Prelude.{◌≡◌, Bool, true, false, ℕ, ◌<◌, eqb}
use Rattle.algebra.specs.Field.{Ops}
use Rattle.algebra.specs.Sum.{sum}

abbrev pub Matrix : Type 0 → Type 0
Matrix A = ℕ → ℕ → A

-- equal as matrices of size s
abbrev pub Same : {A : Type 0} → ℕ → Matrix A → Matrix A → Type 0
Same s P Q = (i k : ℕ) → i < s → k < s → P i k ≡ Q i k

module _ {A : Type 0} (K : Ops A) where
  unfoldable pub matrix_sum : Matrix A → Matrix A → Matrix A
  matrix_sum P Q i k = K.add (P i k) (Q i k)

  unfoldable pub matrix_product : ℕ → Matrix A → Matrix A → Matrix A
  matrix_product s P Q i k = sum K s (λ j. K.mul (P i j) (Q j k))

  -- one on the diagonal, nought beside it
  unfoldable pub diagonal : Bool → A
  diagonal true = K.one
  diagonal false = K.nought

  unfoldable pub identity : Matrix A
  identity i k = diagonal (eqb i k)
