-- What a setting must be, in words.
use Rattle.std.specs.Prelude.{◌≡◌, true, false, List, ℕ, ◌<◌, length}
use Rattle.slices.specs.Bits.{Bits}
use Rattle.params.specs.declared.Parameters.{Parameters}
use Rattle.parity.specs.Columns.{is_message_column}
use Rattle.columns.specs.Choice.{all_columns}
use Rattle.columns.specs.Fits.{ChoiceFits}
use Rattle.shortened.specs.Marks.{is_sent}
use Rattle.shortened.specs.Setting.{Setting}

-- marks of the columns `cols`, which hide message columns only
pub record Hides (c : Parameters) (h cols hidden : List ℕ) : Type 0 where
  pub long : length hidden ≡ length cols
  -- "0 sent or 1 hidden"
  pub marks : Bits hidden
  -- "A hidden place must be a message column"
  pub messages : (p : ℕ) → p < length hidden → is_sent hidden p ≡ false → is_message_column c h cols p ≡ true

pub record Fits (c : Parameters) (h : List ℕ) (s : Setting) : Type 0 where
  pub choice : ChoiceFits c s.choice
  pub hides : Hides c h (all_columns c s.choice) s.hidden
