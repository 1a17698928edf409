-- The lower of two numbers of 01's table.
use Rattle.std.specs.Prelude.{◌≡◌, refl, ◌≢◌, ◌⊎◌, ℕ, zero, suc, min, ◌<◌, ◌≤◌}
use Rattle.std.proofs.Common.{ap, ◌∙◌, inl, inr, arith}
use Rattle.std.proofs.Math.Decide.{dec_lt}
use Rattle.codes.specs.Answers.{lowest}

pub lowest_left : (a b : ℕ) → a ≡ 0 → lowest a b ≡ b
unfolding lowest
lowest_left a b e = ap (λ (x : ℕ). lowest x b) e

lowest-zero : (a : ℕ) → lowest a 0 ≡ a
unfolding lowest
lowest-zero zero = refl
lowest-zero (suc a) = refl

pub lowest_right : (a b : ℕ) → b ≡ 0 → lowest a b ≡ a
lowest_right a b e = ap (lowest a) e ∙ lowest-zero a

pub lowest-min : (a b : ℕ) → a ≢ 0 → b ≢ 0 → lowest a b ≡ min a b
unfolding lowest
lowest-min zero b na nb = absurd (na refl)
lowest-min (suc a) zero na nb = absurd (nb refl)
lowest-min (suc a) (suc b) na nb = refl

-- none is due only if none is due on either side
pub lowest_none : (a b : ℕ) → lowest a b ≡ 0 → (a ≡ 0) × (b ≡ 0)
unfolding lowest
lowest_none zero b e = (refl, e)
lowest_none (suc a) zero e = absurd (omega arith)
lowest_none (suc a) (suc b) e = absurd (omega arith)

-- the lower of two numbers is one of them, and not above the other
pub lowest_is : (a b : ℕ) → lowest a b ≢ 0
    → (((lowest a b ≡ a) × (a ≢ 0)) ⊎ ((lowest a b ≡ b) × (b ≢ 0))) × ((a ≡ 0) ⊎ (lowest a b ≤ a)) × ((b ≡ 0) ⊎ (lowest a b ≤ b))
unfolding lowest
lowest_is zero b ne = (inr (refl, ne), inl refl, inr (omega arith))
lowest_is (suc a) zero ne = (inl (refl, ne), inr (omega arith), inl refl)
lowest_is (suc a) (suc b) ne = (decided (dec_lt a b), inr (omega arith), inr (omega arith))
  where
    decided : Dec (a < b) → ((min (suc a) (suc b) ≡ suc a) × (suc a ≢ 0)) ⊎ ((min (suc a) (suc b) ≡ suc b) × (suc b ≢ 0))
    decided (yes l) = inl (omega arith, λ z. omega arith)
    decided (no nl) = inr (omega arith, λ z. omega arith)

-- and not above what both are not above
pub lowest-le : (l a b : ℕ) → a ≤ l → b ≤ l → lowest a b ≤ l
unfolding lowest
lowest-le l zero b la lb = lb
lowest-le l (suc a) zero la lb = la
lowest-le l (suc a) (suc b) la lb = omega arith
