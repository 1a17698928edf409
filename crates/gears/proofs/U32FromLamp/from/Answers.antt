-- A lamp's number in a contract is the one that it has in the code.
use mathlib.Core.Path.{◌≡◌, refl}
use lib.Dec.{lit<}
use Prim.Native.Nat.{◌<◌}
use Rattle.gears.specs.declared.Lamp.{Lamp}
use Rattle.gears.specs.declared.Lamp.TheVariants.{Dark, Green, Amber}
use Rattle.gears.specs.Rows.{lamp_number}
use Rattle.gears.specs.contracts.Lamp.{the_type}
use denote.Enum.Declared.{tag_of}
use Rattle.gears.proofs.U32FromLamp.from.Goals as goal

is_number : (lamp : Lamp) → (tag_of the_type lamp ≡ lamp_number lamp) × (tag_of the_type lamp < 3)
unfolding lamp_number
is_number Dark = (refl, lit< tt)
is_number Green = (refl, lit< tt)
is_number Amber = (refl, lit< tt)

pub returns : goal.returns
returns c = is_number c.args.lamp
