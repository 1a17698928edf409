-- Code words over any list of columns.
use Rattle.std.specs.Prelude.{◌≡◌, true, List, ℕ, length}
use Rattle.slices.specs.Bits.{IsBits}
use Rattle.params.specs.declared.Parameters.{Parameters}
use Rattle.parity.specs.Word.{is_code_word}

-- a code word of as many bits as there are columns
pub record CodeWord (c : Parameters) (h cols w : List ℕ) : Type 0 where
  pub bits : IsBits (length cols) w
  pub code : is_code_word c h cols w ≡ true
