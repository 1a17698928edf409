-- How an answer crosses into C, which has no enum: an int32_t that is the value, or minus the refusal's number.
-- The prover's numbers are natural, so minus n is its pattern of 32 bits, 2^32 − n.
use Rattle.std.specs.Prelude.{ℕ, ◌+◌, ◌-◌, ◌*◌, ◌%◌, ◌^◌, true, false, Ok, Err}
use Rattle.field.specs.Found.{Answer}
use Rattle.refusals.specs.Counted.{Counted}
use Rattle.refusals.specs.Outcome.{Outcome}
use Rattle.params.specs.declared.Parameters.{Parameters}
use Rattle.codes.specs.Sameness.{Sameness}
use Rattle.repair.specs.declared.Recovery.{Recovery}
use Rattle.repair.specs.declared.Recovery.TheVariants.{Repaired, Refused as NotRepaired}
use Rattle.gears.specs.Rows.{lamp_number}
use Rattle.rows.specs.declared.Reading.{Reading}
use Rattle.rows.specs.declared.Reading.TheVariants.{Read, Refused as NotRead}

-- C hands over a code's numbers one by one
abbrev pub code : ℕ → ℕ → ℕ → ℕ → Parameters
code m n t ω = record { m = m; n = n; t = t; omega = ω }

abbrev pub minus : ℕ → ℕ
minus n = (2 ^ 32 - n) % 2 ^ 32

abbrev pub element_code : Answer → ℕ
element_code (Ok a) = a
element_code (Err n) = minus n

abbrev pub outcome_code : Outcome → ℕ
outcome_code (Ok done) = 0
outcome_code (Err n) = minus n

abbrev pub sameness_code : Sameness → ℕ
sameness_code (Ok true) = 1
sameness_code (Ok false) = 0
sameness_code (Err n) = minus n

abbrev pub counted_code : Counted → ℕ
counted_code (Ok k) = k
counted_code (Err n) = minus n

abbrev pub recovery_code : Recovery → ℕ
recovery_code (Repaired count) = count
recovery_code (NotRepaired n) = minus n

-- a row and a count in one number of 32 bits
abbrev pub reading_code : Reading → ℕ
reading_code (Read row count) = (row.gear + 8 * lamp_number row.lamp + 32 * count) % 2 ^ 32
reading_code (NotRead n) = minus n
