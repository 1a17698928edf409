-- Four counts in a buffer, and what a step adds to them.
use mathlib.Core.Path.{◌≡◌, sym, ap, ap₂, ◌∙◌}
use mathlib.Core.List.{List, [], ◌∷◌}
use Prim.Native.Nat.{ℕ, ◌+◌}
use native.Mathlib.Nat.{add-zero}
use native.Mathlib.Omega.{arith}
use lib.ListN.{length, set, replicate}
use Rattle.algebra.specs.Lists.{entry_of}
use Rattle.simulation.specs.declared.Verdict.{Verdict}
use Rattle.simulation.specs.declared.Verdict.TheVariants.{Right, Held, Wrong}
use Rattle.simulation.specs.Parts.{tallied}

-- one added at a place
abbrev pub raised : List ℕ → ℕ → List ℕ
raised l i = set l i (entry_of l i + 1)

-- a step is counted, and at place p again
abbrev Counted : ℕ → Verdict → List ℕ → Type 0
Counted p v l = raised (raised l 0) p ≡ tallied v l

four : (P : List ℕ → Type 0) → ((a b c d : ℕ) → P (a ∷ b ∷ c ∷ d ∷ [])) → (l : List ℕ) → length l ≡ 4 → P l
four P f [] e = absurd (omega arith)
four P f (a ∷ []) e = absurd (omega arith)
four P f (a ∷ b ∷ []) e = absurd (omega arith)
four P f (a ∷ b ∷ c ∷ []) e = absurd (omega arith)
four P f (a ∷ b ∷ c ∷ d ∷ []) e = f a b c d
four P f (a ∷ b ∷ c ∷ d ∷ x ∷ l) e = absurd (omega arith)

-- no step was counted yet
pub cleared : (l : List ℕ) {new : List ℕ} → length l ≡ 4 → new ≡ replicate (length l) 0 → new ≡ 0 ∷ 0 ∷ 0 ∷ 0 ∷ []
cleared l long is = is ∙ ap (λ (n : ℕ). replicate n 0) long

pub right_counted : (l : List ℕ) → length l ≡ 4 → Counted 1 Right l
unfolding tallied
right_counted = four (Counted 1 Right) (λ a b c d. ap₂ (λ (x y : ℕ). (a + 1) ∷ (b + 1) ∷ x ∷ y ∷ []) (sym (add-zero c)) (sym (add-zero d)))

pub held_counted : (l : List ℕ) → length l ≡ 4 → Counted 2 Held l
unfolding tallied
held_counted = four (Counted 2 Held) (λ a b c d. ap₂ (λ (x y : ℕ). (a + 1) ∷ x ∷ (c + 1) ∷ y ∷ []) (sym (add-zero b)) (sym (add-zero d)))

pub wrong_counted : (l : List ℕ) → length l ≡ 4 → Counted 3 Wrong l
unfolding tallied
wrong_counted = four (Counted 3 Wrong) (λ a b c d. ap₂ (λ (x y : ℕ). (a + 1) ∷ x ∷ y ∷ (d + 1) ∷ []) (sym (add-zero b)) (sym (add-zero c)))
