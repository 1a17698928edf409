-- `lamp_of` meets its contract, lamp by lamp.
use mathlib.Core.Path.{◌≡◌, refl, sym, ap}
use Prim.Native.Nat.{ℕ, zero, suc}
use Rattle.gears.specs.declared.Lamp.TheVariants.{Amber}
use Rattle.gears.specs.Rows.{lamp_of}
use borrow.Author.Rules.{rules}
use Rattle.gears.proofs.lamp_of.Goals as goal

last : (number : ℕ) → (number ≡ 0 → ⊥) → (number ≡ 1 → ⊥) → Amber ≡ lamp_of number
unfolding lamp_of
last zero f g = absurd (f refl)
last (suc zero) f g = absurd (g refl)
last (suc (suc number)) f g = refl

pub returns-in-0 : goal.returns-in-0
unfolding lamp_of
returns-in-0 c = ap lamp_of (sym c.in-0.is)

pub returns-in-1 : goal.returns-in-1
unfolding lamp_of
returns-in-1 c = ap lamp_of (sym c.in-1.is)

pub returns-in_default : goal.returns-in_default
returns-in_default c = last c.args.number (search rules) (search rules)
