-- What the parts of the calls hand to one another.
use Rattle.std.specs.Prelude.{◌≡◌, List, ℕ}
use Rattle.refusals.specs.Rules.{fault}
use Rattle.params.specs.declared.Parameters.{Parameters}
use Rattle.nearest.specs.Repair.{repaired_of}
use Rattle.rows.specs.declared.Reading.{Reading}
use Rattle.rows.specs.Answers.{read_rules, reading_answer}

-- what reading answers, and in the buffer `word` the repaired word, where a row was read
pub record ReadInto (c : Parameters) (h cols received : List ℕ) (reading : Reading) (word : List ℕ) : Type 0 where
  pub answer : reading ≡ reading_answer c h cols received
  pub repaired : fault (read_rules c h cols received) ≡ 0 → word ≡ repaired_of c h cols received
