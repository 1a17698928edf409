-- What `Row::allowed` tells its caller, by its answer: whether the row is allowed, and of an allowed one its gear and its lamp.
use mathlib.Core.Path.{◌≡◌, refl, sym, ap, ap₂, ◌∙◌, subst}
use mathlib.Core.Bool.{Bool, true, false}
use Prim.Native.Nat.{ℕ}
use Rattle.std.specs.Prelude.{◌↔◌, Option, Some, None, is_some, IsNone, IfSome}
use Rattle.std.proofs.lemmas.Bool.{false≢true}
use Rattle.gears.specs.declared.Lamp.{Lamp}
use Rattle.gears.specs.declared.Lamp.TheVariants.{Dark, Green, Amber}
use Rattle.gears.specs.declared.Row.{Row}
use Rattle.gears.specs.Messages.{row_lamp, lamp_number_lem}
use Rattle.gears.specs.Rows.{is_row, lamp_of, lamp_number, row_of}

module _ (gear lamp : ℕ) {answer : Option Row} (none : IsNone answer ↔ (is_row gear lamp ≡ false)) where
  pub not_allowed : answer ≡ None → is_row gear lamp ≡ false
  not_allowed is = none.0 (ap is_some is)

  pub is_allowed : {row : Row} → answer ≡ Some row → is_row gear lamp ≡ true
  is_allowed is = decided (is_row gear lamp) refl
    where
      decided : (b : Bool) → is_row gear lamp ≡ b → is_row gear lamp ≡ true
      decided true e = e
      decided false e = absurd (false≢true (sym (none.1 e) ∙ ap is_some is))

-- a lamp is the one of its number
lamp_of_number : (lamp : Lamp) → lamp ≡ lamp_of (lamp_number lamp)
unfolding lamp_of lamp_number
lamp_of_number Dark = refl
lamp_of_number Green = refl
lamp_of_number Amber = refl

module _ (gear lamp : ℕ) {answer : Option Row} {row : Row} (made : IfSome answer (λ row. (row.gear ≡ gear) × (lamp_number row.lamp ≡ lamp)))
    (is : answer ≡ Some row) where
  pub row_parts : (row.gear ≡ gear) × (lamp_number row.lamp ≡ lamp)
  row_parts = subst (λ (o : Option Row). IfSome o (λ row. (row.gear ≡ gear) × (lamp_number row.lamp ≡ lamp))) is made

  pub row_is : row ≡ row_of gear lamp
  unfolding row_of
  row_is =
      ap₂ (λ (g : ℕ) (l : Lamp). record { gear = g; lamp = l }) row_parts.0
      (lamp_of_number row.lamp ∙ ap lamp_of row_parts.1)

-- the parts of the row of these numbers
pub row_of_parts : (gear lamp : ℕ) {row : Row} → is_row gear lamp ≡ true → row ≡ row_of gear lamp
    → (row.gear ≡ gear) × (lamp_number row.lamp ≡ lamp)
unfolding row_of
row_of_parts gear lamp allowed is =
    (ap (λ (r : Row). r.gear) is, ap (λ (r : Row). lamp_number r.lamp) is ∙ lamp_number_lem lamp (row_lamp gear lamp allowed))
