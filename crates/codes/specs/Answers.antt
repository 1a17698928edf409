-- What the public calls answer, and what they leave in the lent buffers, for every input.
use Rattle.std.specs.Prelude.{Bool, true, false, ◌&&◌, List, ℕ, zero, suc, min, eqb, length}
use Rattle.algebra.specs.Tabulate.{tabulate}
use Rattle.field.specs.Gf.{gf}
use Rattle.refusals.specs.Rules.{Rule, fault, unless_refused}
use Rattle.refusals.specs.Outcome.{Outcome}
use Rattle.refusals.specs.Outcome.{Done, Refused}
use Rattle.params.specs.declared.Parameters.{Parameters}
use Rattle.codes.specs.Sameness.{Sameness}
use Rattle.codes.specs.Sameness.{Same, Different, Refused as NotCompared}
use Rattle.signature.specs.Signature.{root_at, support_at}
use Rattle.algebra.specs.Lists.{entry_of}
use Rattle.shortened.specs.Setting.{short_code, setting_rules}
use Rattle.codes.specs.Same.{same_code}

-- ---- check: both buffers have to have n entries

module _ (c : Parameters) (h hidden roots support : List ℕ) where
  unfoldable pub check_fault : ℕ
  check_fault = fault (setting_rules c h (short_code hidden) (eqb (length roots) c.n && eqb (length support) c.n) true)

  unfoldable pub check_answer : Outcome
  check_answer = unless_refused check_fault Refused Done

  -- "The answer gives z_i = 1/h_i + ω and L_j = 1/h_j + 1/h_0 + ω, n of each."
  unfoldable pub roots_after : List ℕ
  roots_after = unless_refused check_fault (λ k. roots) (tabulate c.n (root_at (gf c.m) c.omega (entry_of h)))

  unfoldable pub support_after : List ℕ
  support_after = unless_refused check_fault (λ k. support) (tabulate c.n (support_at (gf c.m) c.omega (entry_of h)))

-- ---- same

-- the lower of two numbers of 01's table, where 0 is none
unfoldable pub lowest : ℕ → ℕ → ℕ
lowest zero b = b
lowest (suc a) zero = suc a
lowest (suc a) (suc b) = min (suc a) (suc b)

unfoldable pub compared : Bool → Sameness
compared true = Same
compared false = Different

-- the rules of a card, with its marks
abbrev pub card_rules : Parameters → List ℕ → List ℕ → List Rule
card_rules c h hidden = setting_rules c h (short_code hidden) true true

-- "a fault in either brings its number, the lowest of both cards"
module _ (c₁ : Parameters) (h₁ hidden₁ : List ℕ) (c₂ : Parameters) (h₂ hidden₂ : List ℕ) where
  unfoldable pub same_fault : ℕ
  same_fault = lowest (fault (card_rules c₁ h₁ hidden₁)) (fault (card_rules c₂ h₂ hidden₂))

  unfoldable pub same_answer : Sameness
  same_answer = unless_refused same_fault NotCompared (compared (same_code c₁ h₁ hidden₁ c₂ h₂ hidden₂))
