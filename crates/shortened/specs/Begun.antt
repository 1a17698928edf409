-- How a call on words begins, for its parts: the number that is due, or the code on the columns of the sent places.
use Rattle.std.specs.Prelude.{◌≡◌, ◌≢◌, Bool, ◌&&◌, List, ℕ, Result, Ok, Err, eqb, length}
use Rattle.refusals.specs.Rules.{fault}
use Rattle.params.specs.declared.Parameters.{Parameters}
use Rattle.parity.specs.declared.Code.{Code}
use Rattle.shortened.specs.Setting.{Setting, columns_of, setting_rules}

-- the code of the parameters and the signature, on the columns of the sent places
pub record OnSent (c : Parameters) (h : List ℕ) (s : Setting) (code : Code) : Type 0 where
  pub parameters : code.c ≡ c
  pub signature : code.h.now ≡ h
  pub columns : code.cols.now ≡ columns_of c s

pub record Begun (c : Parameters) (h : List ℕ) (s : Setting) (others words : Bool) (found : Result Code ℕ) : Type 0 where
  pub refused : (number : ℕ) → found ≡ Err number → (number ≡ fault (setting_rules c h s others words)) × (number ≢ 0)
  pub passed : (code : Code) → found ≡ Ok code → (fault (setting_rules c h s others words) ≡ 0) × OnSent c h s code

-- the word received and the buffer for the repaired one both have n entries
abbrev pub both_long : List ℕ → List ℕ → ℕ → Bool
both_long received repaired n = eqb (length received) n && eqb (length repaired) n
