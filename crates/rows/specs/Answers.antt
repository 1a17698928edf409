-- What writing and reading a row answer, and what they leave in the lent buffer, for every input.
use Rattle.std.specs.Prelude.{true, ◌&&◌, List, [], ◌∷◌, ◌++◌, ℕ, eqb, leb, length}
use Rattle.refusals.specs.Rules.{Rule, ◌unless◌, fault, unless_refused}
use Rattle.refusals.specs.Outcome.{Outcome}
use Rattle.refusals.specs.Outcome.{Done, Refused}
use Rattle.params.specs.declared.Parameters.{Parameters}
use Rattle.parity.specs.Columns.{dimension, message_of, encoding_of}
use Rattle.shortened.specs.Setting.{Setting, places, columns_of, setting_rules}
use Rattle.nearest.specs.Repair.{repaired_of}
use Rattle.repair.specs.Answers.{word_rules, turned_count}
use Rattle.gears.specs.Rows.{is_row, row_bits, row_message, gear_in, lamp_in, is_row_message, row_of}
use Rattle.rows.specs.declared.Reading.{Reading}
use Rattle.rows.specs.declared.Reading.TheVariants.{Read, Refused as NotRead}

-- ---- for an accepted code and any list of its columns

module _ (c : Parameters) (h cols : List ℕ) where
  -- 12 and 11
  unfoldable pub write_rules : ℕ → ℕ → List Rule
  write_rules gear lamp = (12 unless leb row_bits (dimension c h cols)) ∷ (11 unless is_row gear lamp) ∷ []

  unfoldable pub row_word : ℕ → ℕ → List ℕ
  row_word gear lamp = encoding_of c h cols (row_message (dimension c h cols) gear lamp)

  module _ (received : List ℕ) where
    -- what the repaired word carries
    unfoldable pub carried : List ℕ
    carried = message_of c h cols (repaired_of c h cols received)

    -- 12, then 8 and 10 as repair gives them, then 11: "a row is looked at only if the repair succeeded"
    unfoldable pub read_rules : List Rule
    read_rules = (12 unless leb row_bits (dimension c h cols)) ∷ (word_rules c h cols received ++ (11 unless is_row_message carried) ∷ [])

    -- the row with "the count of repaired bits"
    unfoldable pub row_read : Reading
    row_read = Read (row_of (gear_in carried) (lamp_in carried)) (turned_count c h cols received)

    -- what reading answers, and what it leaves in the second buffer
    unfoldable pub reading_answer : Reading
    reading_answer = unless_refused (fault read_rules) NotRead row_read

    unfoldable pub reading_after : List ℕ → List ℕ
    reading_after repaired = unless_refused (fault read_rules) (λ k. repaired) (repaired_of c h cols received)

-- ---- the calls, for the whole code or for a selection of its blocks, each without its hidden places

module _ (c : Parameters) (h : List ℕ) (s : Setting) where
  module _ (gear lamp : ℕ) (word : List ℕ) where
    unfoldable pub write_fault : ℕ
    write_fault = fault (setting_rules c h s true (eqb (length word) (places s)) ++ write_rules c h (columns_of c s) gear lamp)

    unfoldable pub write_answer : Outcome
    write_answer = unless_refused write_fault Refused Done

    unfoldable pub write_after : List ℕ
    write_after = unless_refused write_fault (λ k. word) (row_word c h (columns_of c s) gear lamp)

  module _ (received repaired : List ℕ) where
    unfoldable pub read_fault : ℕ
    read_fault =
        fault (setting_rules c h s true (eqb (length received) (places s) && eqb (length repaired) (places s))
        ++ read_rules c h (columns_of c s) received)

    unfoldable pub read_answer : Reading
    read_answer = unless_refused read_fault NotRead (row_read c h (columns_of c s) received)

    unfoldable pub read_after : List ℕ
    read_after = unless_refused read_fault (λ k. repaired) (repaired_of c h (columns_of c s) received)
