-- How a call's refusal is found: its rules stand in one list, in the order in which they are looked for, and the first that does not hold gives
-- the number. A call is refused by that number, or has its value.
use Rattle.std.specs.Prelude.{◌≡◌, Bool, true, false, List, [], ◌∷◌, ℕ, zero, suc}

infix 10 ◌unless◌
-- the number of 01's table that is due unless the test holds
pub data Rule : Type 0 where
  ◌unless◌ : ℕ → Bool → Rule

-- the first number that is due; 0 where every rule holds
unfoldable pub fault : List Rule → ℕ
fault [] = 0
fault ((n unless true) ∷ rules) = fault rules
fault ((n unless false) ∷ rules) = n

-- a call's answer: the refusal with its number, or the value where the number is 0
unfoldable pub unless_refused : {A : Type 0} → ℕ → (ℕ → A) → A → A
unless_refused zero refused value = value
unless_refused (suc n) refused value = refused (suc n)

-- every number of the list is one of 01's, which begin at 1
abbrev pub numbered : List Rule → Bool
numbered [] = true
numbered ((zero unless t) ∷ rules) = false
numbered ((suc n unless t) ∷ rules) = numbered rules

-- every rule of the list holds
abbrev pub Hold : List Rule → Type 0
Hold [] = Unit {0}
Hold ((n unless t) ∷ rules) = (t ≡ true) × Hold rules
