-- Gear rows: which are allowed, how a message carries one, and what a message says.
use Rattle.std.specs.Prelude.{Bool, false, cond, ◌&&◌, ◌||◌, List, ℕ, zero, suc, ◌+◌, ◌-◌, ◌*◌, eqb, leb, ltb, length}
use Rattle.algebra.specs.All.{all}
use Rattle.algebra.specs.Bits.{bit_at}
use Rattle.algebra.specs.Lists.{entry_of}
use Rattle.algebra.specs.Tabulate.{tabulate}
use Rattle.gears.specs.declared.Lamp.{Lamp}
use Rattle.gears.specs.declared.Lamp.TheVariants.{Dark, Green, Amber}
use Rattle.gears.specs.declared.Row.{Row}

-- Gears are the positions of the gearbox, from neutral to the high neutral: "positions are now 0 to 7, 7 is the high neutral".
abbrev pub neutral : ℕ
neutral = 0

abbrev pub high_neutral : ℕ
high_neutral = 7

-- The allowed rows, by the lamp, "0 dark, 1 green, 2 amber": "green is allowed with 0 and with 7. Dark and amber still go with all."
unfoldable pub is_row : ℕ → ℕ → Bool
is_row gear zero = leb gear high_neutral
is_row gear (suc zero) = eqb gear neutral || eqb gear high_neutral
is_row gear (suc (suc zero)) = leb gear high_neutral
is_row gear (suc (suc (suc lamp))) = false

-- the message bits of a gear, and those of a gear and a lamp: "A row needs k of at least 5."
abbrev pub gear_bits : ℕ
gear_bits = 3

abbrev pub row_bits : ℕ
row_bits = gear_bits + 2

-- "The first three message bits are the gear, lowest first, the next two the lamp, lowest first; further message bits are 0."
unfoldable pub row_bit : ℕ → ℕ → ℕ → ℕ
row_bit gear lamp j = cond (ltb j gear_bits) (bit_at gear j) (cond (ltb j row_bits) (bit_at lamp (j - gear_bits)) 0)

-- the message of a row among k message columns
unfoldable pub row_message : ℕ → ℕ → ℕ → List ℕ
row_message k gear lamp = tabulate k (row_bit gear lamp)

-- ---- what a message says

unfoldable pub gear_in : List ℕ → ℕ
gear_in message = entry_of message 0 + 2 * entry_of message 1 + 4 * entry_of message 2

-- the lamp's number
unfoldable pub lamp_in : List ℕ → ℕ
lamp_in message = entry_of message 3 + 2 * entry_of message 4

-- "further message bits are 0"
unfoldable pub further_zero : List ℕ → Bool
further_zero message = all (length message) (λ j. ltb j row_bits || eqb (entry_of message j) 0)

unfoldable pub is_row_message : List ℕ → Bool
is_row_message message = is_row (gear_in message) (lamp_in message) && further_zero message

-- ---- the lamp of a row that was read: "dark, green or amber"

unfoldable pub lamp_of : ℕ → Lamp
lamp_of zero = Dark
lamp_of (suc zero) = Green
lamp_of (suc (suc lamp)) = Amber

unfoldable pub lamp_number : Lamp → ℕ
lamp_number Dark = 0
lamp_number Green = 1
lamp_number Amber = 2

-- the row of a gear and a lamp's number
unfoldable pub row_of : ℕ → ℕ → Row
row_of gear lamp = record { gear = gear; lamp = lamp_of lamp }
