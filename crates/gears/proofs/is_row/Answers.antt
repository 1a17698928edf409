-- `is_row` meets its contract, lamp by lamp.
use mathlib.Core.Path.{◌≡◌, refl, sym, ap}
use mathlib.Core.Logic.{◌⊎◌, inl, inr}
use mathlib.Core.Bool.{false}
use Prim.Native.Nat.{ℕ, zero, suc}
use lib.Dec.{leb}
use Rattle.gears.specs.Rows.{high_neutral, is_row}
use borrow.Author.Rules.{rules}
use Rattle.gears.proofs.is_row.Goals as goal

every : (gear lamp : ℕ) → (lamp ≡ 0) ⊎ (lamp ≡ 2) → leb gear high_neutral ≡ is_row gear lamp
unfolding is_row
every gear lamp (inl e) = ap (λ (l : ℕ). is_row gear l) (sym e)
every gear lamp (inr e) = ap (λ (l : ℕ). is_row gear l) (sym e)

none : (gear lamp : ℕ) → ((lamp ≡ 0) ⊎ (lamp ≡ 2) → ⊥) → (lamp ≡ 1 → ⊥) → false ≡ is_row gear lamp
unfolding is_row
none gear zero f g = absurd (f (inl refl))
none gear (suc zero) f g = absurd (g refl)
none gear (suc (suc zero)) f g = absurd (f (inr refl))
none gear (suc (suc (suc lamp))) f g = refl

pub returns-in-0 : goal.returns-in-0
returns-in-0 c = every c.args.gear c.args.lamp c.in-0.is

pub returns-in-1 : goal.returns-in-1
unfolding is_row
returns-in-1 c = ap (λ (l : ℕ). is_row c.args.gear l) (sym c.in-1.is)

pub returns-in_default : goal.returns-in_default
returns-in_default c = none c.args.gear c.args.lamp (search rules) (search rules)
