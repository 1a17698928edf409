-- No row that is read needs more than 31 bits: its number is the sum itself, and never looks like a refusal.
use Rattle.std.specs.Prelude.{◌≡◌, ℕ, ◌+◌, ◌*◌, ◌^◌, ◌<◌, ◌≤◌, List}
use Rattle.std.proofs.Common.{mod-eq_of_lt, arith}
use Rattle.slices.specs.Lengths.{longest}
use Rattle.params.specs.declared.Parameters.{Parameters}
use Rattle.params.proofs.Accepted.{n_short}
use Rattle.shortened.specs.Setting.{Setting}
use Rattle.gears.specs.declared.Row.{Row}
use Rattle.gears.specs.Messages.{row_gear, row_lamp}
use Rattle.gears.specs.Rows.{lamp_number}
use Rattle.rows.specs.declared.Reading.TheVariants.{Read}
use Rattle.rows.specs.Answers.{read_answer}
use Rattle.rows.proofs.Laws.{read_allowed, read_within}
use Rattle.wire.specs.Wire.{reading_code}

module _ (c : Parameters) (h : List ℕ) (s : Setting) (received repaired : List ℕ) (row : Row) (count : ℕ)
    (e : read_answer c h s received repaired ≡ Read row count) where
  small : row.gear + 8 * lamp_number row.lamp + 32 * count < 2 ^ 31
  small =
      let allowed = read_allowed c h s received repaired e in
      let (A, within) = read_within c h s received repaired e in
      let short : c.n ≤ longest = n_short A.limits in
      let gear : row.gear < 8 = row_gear row.gear (lamp_number row.lamp) allowed in
      let lamp : lamp_number row.lamp < 3 = row_lamp row.gear (lamp_number row.lamp) allowed in
      omega (arith, A.limits.t_high)

  pub reading_whole : (reading_code (Read row count) ≡ row.gear + 8 * lamp_number row.lamp + 32 * count) × (reading_code (Read row count) < 2 ^ 31)
  reading_whole =
      let whole = mod-eq_of_lt (wide small) in (whole, below whole)
    where
      wide : row.gear + 8 * lamp_number row.lamp + 32 * count < 2 ^ 31 → row.gear + 8 * lamp_number row.lamp + 32 * count < 2 ^ 32
      wide l = omega arith

      below : {x : ℕ} → x ≡ row.gear + 8 * lamp_number row.lamp + 32 * count → x < 2 ^ 31
      below q = omega (arith, small)
