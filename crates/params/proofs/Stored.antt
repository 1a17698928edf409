-- The offset of an accepted code fits an element, as the stored sums of roots and support ask.
use mathlib.Core.List.{List}
use Prim.Native.Nat.{ℕ, ◌^◌, ◌<◌}
use Rattle.field.specs.Words.{widest}
use Rattle.field.proofs.Shift.{element_fits}
use Rattle.params.specs.declared.Parameters.{Parameters}
use Rattle.params.specs.Code.{Accepted}

pub offset_fits : {c : Parameters} {h : List ℕ} → Accepted c h → c.omega < 2 ^ widest
offset_fits {c} A = element_fits c.m A.limits.width c.omega A.ω_in
