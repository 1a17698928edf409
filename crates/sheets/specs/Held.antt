-- A text that is not refused, as the calls hold it.
use Rattle.std.specs.Prelude.{◌≡◌, List, ℕ, ◌≤◌, length, take}
use Rattle.signature.specs.Inverses.{Inverted}
use Rattle.sheets.specs.Sheet.{sheet_parameters, sheet_n, sheet_h}
use Rattle.sheets.specs.Fault.{sheet_fault}

-- h begins with the signature, and `inverses` with the inverses of its entries
pub record SheetRead (text h inverses : List ℕ) : Type 0 where
  pub none : sheet_fault text ≡ 0
  pub fits : sheet_n text ≤ length h
  pub signature : take (sheet_n text) h ≡ sheet_h text
  pub inverted : Inverted (sheet_parameters text).m (sheet_h text) inverses
