-- `lead_byte` meets its contract.
use mathlib.Core.Path.{◌≡◌, refl, sym, ap}
use Prim.Native.Nat.{ℕ, zero, suc, ◌%◌}
use mathlib.Core.Logic.{◌≢◌}
use Rattle.fields.specs.Fields.{digit_byte, lead_byte}
use Rattle.fields.proofs.lead_byte.Goals as goal

digit-due : (r : ℕ) → r ≢ 0 → digit_byte (r % 10) ≡ lead_byte r
unfolding lead_byte
digit-due zero ne = absurd (ne refl)
digit-due (suc r) ne = refl

pub returns-then-rest-eq0 : goal.returns-then-rest-eq0
unfolding lead_byte
returns-then-rest-eq0 c = sym (ap lead_byte c.if-rest-eq0.true)

pub returns : goal.returns
returns c = digit-due c.args.rest c.if-rest-eq0.false
