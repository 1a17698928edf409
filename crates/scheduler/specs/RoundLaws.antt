-- Laws of a round.
use Rattle.std.specs.Prelude.{◌≡◌, List, ℕ, zero, suc, length}
use Rattle.algebra.specs.TabulateLaws.{length-tabulate}
use Rattle.refusals.specs.Rules.{fault, unless_refused}
use Rattle.params.specs.declared.Parameters.{Parameters}
use Rattle.parity.specs.Columns.{word_of}
use Rattle.nearest.specs.Repair.{repaired_of}
use Rattle.repair.specs.Answers.{word_rules}
use Rattle.repair.specs.Decoding.{word_after}

-- a word that is handed out fits its part
pub length_after : (c : Parameters) (h cols word old : List ℕ) → length old ≡ length cols → length (word_after c h cols word old) ≡ length cols
unfolding word_after repaired_of word_of unless_refused
length_after c h cols word old long = either (fault (word_rules c h cols word))
  where
    either : (k : ℕ) → length (unless_refused k (λ i. old) (repaired_of c h cols word)) ≡ length cols
    either zero = length-tabulate (length cols) _
    either (suc k) = long
