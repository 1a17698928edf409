-- The test of two lamps by `==` is that of their numbers.
use mathlib.Core.Path.{◌≡◌, refl}
use lib.Dec.{eqb}
use denote.Enum.Bare.{sameb}
use Rattle.gears.specs.contracts.Lamp.{the_type}
use Rattle.gears.specs.declared.Lamp.{Lamp}
use Rattle.gears.specs.declared.Lamp.TheVariants.{Dark, Green, Amber}
use Rattle.gears.specs.Rows.{lamp_number}

pub same_lamp : (a b : Lamp) → sameb the_type a b ≡ eqb (lamp_number a) (lamp_number b)
unfolding lamp_number
same_lamp Dark Dark = refl
same_lamp Dark Green = refl
same_lamp Dark Amber = refl
same_lamp Green Dark = refl
same_lamp Green Green = refl
same_lamp Green Amber = refl
same_lamp Amber Dark = refl
same_lamp Amber Green = refl
same_lamp Amber Amber = refl
