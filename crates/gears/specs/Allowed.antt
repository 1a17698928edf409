-- The rule for rows in words.
use Rattle.std.specs.Prelude.{◌≡◌, ◌⊎◌, ℕ, ◌≤◌}

-- "positions are now 0 to 7 … and green is allowed with 0 and with 7. Dark and amber still go with all."
pub data Allowed (gear lamp : ℕ) : Type 0 where
  dark : gear ≤ 7 → lamp ≡ 0 → Allowed gear lamp
  green : (gear ≡ 0) ⊎ (gear ≡ 7) → lamp ≡ 1 → Allowed gear lamp
  amber : gear ≤ 7 → lamp ≡ 2 → Allowed gear lamp
