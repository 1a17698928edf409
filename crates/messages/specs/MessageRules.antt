-- When a message is refused.
use Rattle.std.specs.Prelude.{Bool, List, [], ◌∷◌, ℕ, eqb}
use Rattle.refusals.specs.Rules.{Rule, ◌unless◌}

-- 2 and 8 for a message of the given length, where `bits` says whether what is read holds bits only: "A message buffer's length is compared with k
-- only for a card that passes 1 to 7; a wrong one is then 2, before 8."
unfoldable pub message_rules : ℕ → ℕ → Bool → List Rule
message_rules k long bits = (2 unless eqb long k) ∷ (8 unless bits) ∷ []
