-- What repair answers, and what it leaves in the lent buffer, for every input.
--
-- The definition of repair, and the laws of demand 3 about it, stand in `Repair` and `Demand` of the crate `nearest`.
use Rattle.std.specs.Prelude.{true, ◌&&◌, List, [], ◌∷◌, ◌++◌, ℕ, eqb, length}
use Rattle.refusals.specs.Rules.{Rule, ◌unless◌, fault, unless_refused}
use Rattle.slices.specs.Bits.{all_bits}
use Rattle.params.specs.declared.Parameters.{Parameters}
use Rattle.shortened.specs.Setting.{Setting, places, columns_of, setting_rules}
use Rattle.nearest.specs.Repair.{distance, is_repairable, repaired_of}
use Rattle.repair.specs.declared.Recovery.{Recovery}
use Rattle.repair.specs.declared.Recovery.TheVariants.{Repaired, Refused}

-- ---- for an accepted code and any list of its columns

module _ (c : Parameters) (h cols received : List ℕ) where
  -- 8 and 10
  unfoldable pub word_rules : List Rule
  word_rules = (8 unless all_bits received) ∷ (10 unless is_repairable c h cols received) ∷ []

  -- "The count is the number of places in which the word received and the repaired word differ."
  unfoldable pub turned_count : ℕ
  turned_count = distance (length cols) received (repaired_of c h cols received)

-- ---- the call, for the whole code or for a selection of its blocks, each without its hidden places

module _ (c : Parameters) (h : List ℕ) (s : Setting) (received repaired : List ℕ) where
  unfoldable pub repair_fault : ℕ
  repair_fault =
      fault (setting_rules c h s true (eqb (length received) (places s) && eqb (length repaired) (places s))
      ++ word_rules c h (columns_of c s) received)

  unfoldable pub repair_answer : Recovery
  repair_answer = unless_refused repair_fault Refused (Repaired (turned_count c h (columns_of c s) received))

  unfoldable pub repair_after : List ℕ
  repair_after = unless_refused repair_fault (λ k. repaired) (repaired_of c h (columns_of c s) received)
