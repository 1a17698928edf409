-- `verdict` meets its contract: what was read is compared with what was sent.
use mathlib.Core.Path.{◌≡◌, sym, ap, ◌∙◌}
use mathlib.Core.Bool.{Bool, true, false, cond, ◌&&◌}
use Prim.Native.Nat.{ℕ}
use lib.Dec.{eqb}
use borrow.Author.Rules.{rules}
use Rattle.gears.specs.declared.Row.{Row}
use Rattle.gears.specs.Rows.{lamp_number}
use Rattle.gears.proofs.SameLamp.{same_lamp}
use Rattle.rows.specs.declared.Reading.{Reading}
use Rattle.rows.specs.declared.Reading.TheVariants.{Read}
use Rattle.simulation.specs.declared.Verdict.TheVariants.{Right, Wrong}
use Rattle.simulation.specs.Ride.{verdict_of}
use Rattle.simulation.proofs.steps.verdict.Goals as goal

-- a row that was read, and the test of both its parts, which `search` finds below by what it says, so that a proof names no word of it
compared : (sent : Row) (b : Bool) {reading : Reading} {row : Row} {count : ℕ} → reading ≡ Read row count
    → (eqb row.gear sent.gear && eqb (lamp_number row.lamp) (lamp_number sent.lamp)) ≡ b
    → cond b Right Wrong ≡ verdict_of sent.gear (lamp_number sent.lamp) reading
unfolding verdict_of
compared sent b {row = row} is t = ap (λ (b : Bool). cond b Right Wrong) (sym t) ∙ ap (verdict_of sent.gear (lamp_number sent.lamp)) (sym is)

pub returns-then-as_sent : goal.returns-then-as_sent
returns-then-as_sent c = compared c.args.sent true c.in-Read.is (search (rules, same_lamp c.in-Read.row.lamp c.args.sent.lamp))

pub returns-else-as_sent : goal.returns-else-as_sent
returns-else-as_sent c = compared c.args.sent false c.in-Read.is (search (rules, same_lamp c.in-Read.row.lamp c.args.sent.lamp))

pub returns-in-Refused : goal.returns-in-Refused
unfolding verdict_of
returns-in-Refused c =
    let sent = c.args.sent in ap (verdict_of sent.gear (lamp_number sent.lamp)) (sym c.in-Refused.is)
