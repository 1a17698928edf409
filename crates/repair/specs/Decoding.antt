-- What repair answers and leaves for an accepted code and a list of its columns, and what the decoder does.
use Rattle.std.specs.Prelude.{◌≡◌, List, ℕ}
use Rattle.refusals.specs.Rules.{fault, unless_refused}
use Rattle.params.specs.declared.Parameters.{Parameters}
use Rattle.nearest.specs.Repair.{repaired_of}
use Rattle.repair.specs.declared.Recovery.{Recovery}
use Rattle.repair.specs.declared.Recovery.TheVariants.{Repaired, Refused}
use Rattle.repair.specs.Answers.{word_rules, turned_count}

module _ (c : Parameters) (h cols received : List ℕ) where
  unfoldable pub word_answer : Recovery
  word_answer = unless_refused (fault (word_rules c h cols received)) Refused (Repaired (turned_count c h cols received))

  unfoldable pub word_after : List ℕ → List ℕ
  word_after repaired = unless_refused (fault (word_rules c h cols received)) (λ k. repaired) (repaired_of c h cols received)

-- the answer, and in the buffer `word` the repaired word, where there is one
pub record Decoded (c : Parameters) (h cols received : List ℕ) (answer : Recovery) (word : List ℕ) : Type 0 where
  pub answer_is : answer ≡ word_answer c h cols received
  pub word_is : fault (word_rules c h cols received) ≡ 0 → word ≡ repaired_of c h cols received
