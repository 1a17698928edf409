-- The basis of a code as the program keeps it, in the words of the definitions: its free places are the message columns, and a word that it completes
-- is the encoding of its message.
use Rattle.std.specs.Prelude.{◌≡◌, Bool, List, ℕ, ◌≤◌, ◌<◌, length}
use Rattle.std.proofs.Common.{sym, ◌∙◌, subst}
use Rattle.std.proofs.Math.Path.{ap}
use Rattle.std.proofs.Math.Bool.{cond}
use Rattle.algebra.specs.Lists.{entry_of}
use Rattle.algebra.specs.Places.{count, chosen}
use Rattle.algebra.specs.PlaceLaws.{chosen_tests, count_tests, count-le}
use Rattle.algebra.specs.Tabulate.{tabulate}
use Rattle.algebra.specs.TabulateLaws.{tabulate_cong}
use Rattle.slices.specs.Bits.{Bits}
use Rattle.basis.specs.Table.{free_at, Form, Carried}
use Rattle.params.specs.declared.Parameters.{Parameters}
use Rattle.parity.specs.Columns.{is_message_column, roles_of, dimension, message_of, encoding_of}

-- the free places of the list are the k message columns
pub record MessageColumns (c : Parameters) (h cols leads : List ℕ) (k : ℕ) : Type 0 where
  pub long : length cols ≤ length leads
  pub number : k ≡ dimension c h cols
  pub are : (p : ℕ) → p < length cols → is_message_column c h cols p ≡ free_at leads p

module _ {c : Parameters} {h cols leads : List ℕ} {k : ℕ} (M : MessageColumns c h cols leads k) where
  pub roles_are : roles_of c h cols ≡ tabulate (length cols) (λ p. cond (free_at leads p) 1 0)
  unfolding roles_of
  roles_are = tabulate_cong (length cols) (λ p l. ap (λ (b : Bool). cond b 1 0) (M.are p l))

  pub message_is : (w : List ℕ) → message_of c h cols w ≡ chosen (length cols) (free_at leads) (entry_of w)
  unfolding message_of
  message_is w = chosen_tests (length cols) (is_message_column c h cols) (free_at leads) (entry_of w) M.are

  pub counted : k ≡ count (length cols) (free_at leads)
  unfolding dimension
  counted = M.number ∙ count_tests (length cols) (is_message_column c h cols) (free_at leads) M.are

  pub fewer : k ≤ length cols
  fewer = subst (λ (i : ℕ). i ≤ length cols) (sym counted) (count-le (length cols) (free_at leads))

-- and the rows beside it say what the check columns hold
pub record CodeBasis (c : Parameters) (h cols rows leads : List ℕ) (k : ℕ) : Type 0 where
  pub form : Form (length cols) rows leads
  pub columns : MessageColumns c h cols leads k
  pub encodes : (message word : List ℕ) → length message ≡ k → Bits message → length word ≡ length cols
      → Carried (length cols) rows leads message word → word ≡ encoding_of c h cols message
