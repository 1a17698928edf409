-- What the check of a step tells: what refuses the step, or its row.
use mathlib.Core.Path.{◌≡◌, refl, sym, ap, ◌∙◌}
use mathlib.Core.Bool.{true}
use mathlib.Core.List.{List}
use Prim.Native.Nat.{ℕ, zero, suc}
use native.Mathlib.Omega.{arith}
use Rattle.std.specs.Prelude.{◌↔◌, false, Option, Some, None, IsNone, IfSome, Result, Ok, Err, ok_or}
use Rattle.refusals.specs.Outcome.{Refused, tested}
use Rattle.refusals.specs.Rules.{fault, unless_refused}
use Rattle.refusals.specs.RuleLaws.{hold, fault_here, fault_past, fault_none, refuse, accept}
use Rattle.slices.specs.Bits.{Bits, all_bits}
use Rattle.slices.specs.BitLaws.{bits_are}
use Rattle.gears.specs.declared.Row.{Row}
use Rattle.gears.specs.Rows.{is_row, lamp_number, row_of}
use Rattle.gears.proofs.AllowedRows.{not_allowed, is_allowed, row_is, row_of_parts}
use Rattle.simulation.specs.Steps.{step_rules}

-- an answer that goes by a number, and has a row where there is none
refused_by : (k : ℕ) (row : Row) {number : ℕ} → Err number ≡ unless_refused k Err (Ok row) → Refused number ≡ tested k
unfolding unless_refused
refused_by zero row is =
    let z : ◌≡◌ {A = ℕ} 0 1 = cc in absurd (omega arith)
refused_by (suc k) row is = cc

made_by : (k : ℕ) {row due : Row} → Ok row ≡ unless_refused k Err (Ok due) → (k ≡ 0) × (row ≡ due)
unfolding unless_refused
made_by zero is = (refl, cc)
made_by (suc k) is =
    let z : ◌≡◌ {A = ℕ} 0 1 = cc in absurd (omega arith)

module _ (gear lamp : ℕ) (marks : List ℕ) where
  abbrev Checked : Result Row ℕ → Type 0
  Checked answer = answer ≡ unless_refused (fault (step_rules gear lamp marks)) Err (Ok (row_of gear lamp))

  pub wrong_mark : all_bits marks ≡ false → Checked (Err 8)
  unfolding step_rules
  wrong_mark e = refuse {k = 8} Err _ (sym (fault_here 8 _ e)) (λ z. omega arith)

  pub row_checked : all_bits marks ≡ true → (answer : Option Row) → (IsNone answer ↔ (is_row gear lamp ≡ false))
      → IfSome answer (λ row. (row.gear ≡ gear) × (lamp_number row.lamp ≡ lamp)) → Checked (ok_or answer 11)
  unfolding step_rules
  row_checked bits None none made =
      refuse {k = 11} Err _ (sym (fault_past 8 _ bits (fault_here 11 _ (not_allowed gear lamp none refl)))) (λ z. omega arith)
  row_checked bits (Some row) none made =
      ap Ok (row_is gear lamp {answer = Some row} made refl)
      ∙ accept {k = 0} Err _ (sym (fault_none _ (bits, (is_allowed gear lamp none {row = row} refl, tt)))) refl

  pub step_refused : {number : ℕ} → Checked (Err number) → Refused number ≡ tested (fault (step_rules gear lamp marks))
  step_refused is = refused_by (fault (step_rules gear lamp marks)) _ is

  module _ {row : Row} (is : Checked (Ok row)) where
    pub none_refuses : fault (step_rules gear lamp marks) ≡ 0
    none_refuses = (made_by (fault (step_rules gear lamp marks)) is).0

    pub step_bits : Bits marks
    unfolding step_rules
    step_bits = (bits_are marks).0 (hold (step_rules gear lamp marks) tt none_refuses).0

    pub step_row : (row.gear ≡ gear) × (lamp_number row.lamp ≡ lamp)
    unfolding step_rules
    step_row =
        row_of_parts gear lamp (hold (step_rules gear lamp marks) tt none_refuses).1.0 (made_by (fault (step_rules gear lamp marks)) is).1
