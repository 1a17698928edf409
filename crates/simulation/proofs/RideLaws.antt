-- The four counts, step by step: a step that is made adds to them what it ends in, one that is refused ends them, and the last three add up to the
-- first.
use Rattle.std.specs.Prelude.{◌≡◌, ◌≢◌, ◌&&◌, List, [], ◌∷◌, length}
use Rattle.std.proofs.Math.Path.{refl, ap, ap₂}
use Rattle.std.proofs.Common.{sym, ◌∙◌, add-zero}
use Rattle.std.proofs.Math.Bool.{Bool, true, false, cond}
use Prim.Native.Nat.{ℕ, zero, suc, ◌+◌, ◌<◌, ◌≤◌}
use Rattle.std.proofs.Math.Decide.{dec_lt}
use native.Mathlib.Omega.{arith}
use Rattle.algebra.specs.Lists.{entry_of}
use Rattle.algebra.specs.PlaceLaws.{count_tests, count_none, count-le}
use Rattle.algebra.specs.Places.{count}
use Rattle.refusals.specs.Rules.{fault}
use Rattle.params.specs.declared.Parameters.{Parameters}
use Rattle.simulation.specs.declared.Verdict.{Verdict}
use Rattle.simulation.specs.declared.Verdict.TheVariants.{Right, Held, Wrong}
use Rattle.simulation.specs.Steps.{Steps, rules_at, is_made}
use Rattle.simulation.proofs.StepLaws.{PassBelow, made, not_made}
use Rattle.simulation.specs.Ride.{is_right, is_held, is_wrong, verdict_at, verdict_count, counts_up_to}
use Rattle.simulation.specs.Parts.{tallied}

-- ---- counting

-- nothing is counted from a place on at which the test fails for good
count_stops : (k : ℕ) {i : ℕ} (p : ℕ → Bool) → i ≤ k → ((j : ℕ) → i ≤ j → p j ≡ false) → count k p ≡ count i p
unfolding count
count_stops zero {i} p l f = ap (λ (j : ℕ). count j p) (sym none)
  where
    none : i ≡ 0
    none = omega arith
count_stops (suc k) {i} p l f = decided (dec_lt k i) (λ le. count_stops k p le f)
  where
    decided : Dec (k < i) → (i ≤ k → count k p ≡ count i p) → count k p + cond (p k) 1 0 ≡ count i p
    decided (yes more) earlier =
        let last : suc k ≡ i = omega arith in ap (λ (j : ℕ). count j p) last
    decided (no less) earlier =
        let le : i ≤ k = omega arith in
        ap (λ (b : Bool). count k p + cond b 1 0) (f k le) ∙ add-zero (count k p) ∙ earlier le

-- what is held apart by three tests is counted by them
count_apart : (k : ℕ) (p : ℕ → Bool) (v : ℕ → Verdict)
    → count k p ≡ count k (λ i. p i && is_right (v i)) + count k (λ i. p i && is_held (v i)) + count k (λ i. p i && is_wrong (v i))
unfolding count
count_apart zero p v = refl
count_apart (suc k) p v =
    one (p k) (v k) (count k p) (count k (λ i. p i && is_right (v i))) (count k (λ i. p i && is_held (v i))) (count k (λ i. p i && is_wrong (v i)))
    (count_apart k p v)
  where
    one : (b : Bool) (x : Verdict) (s r h w : ℕ) → s ≡ r + h + w
        → s + cond b 1 0 ≡ r + cond (b && is_right x) 1 0 + (h + cond (b && is_held x) 1 0) + (w + cond (b && is_wrong x) 1 0)
    one false x s r h w e = omega arith
    one true Right s r h w e = omega arith
    one true Held s r h w e = omega arith
    one true Wrong s r h w e = omega arith

-- equal counts, one by one
four_alike : {a b c d a' b' c' d' : ℕ} → a ≡ a' → b ≡ b' → c ≡ c' → d ≡ d' → ◌≡◌ {A = List ℕ} (a ∷ b ∷ c ∷ d ∷ []) (a' ∷ b' ∷ c' ∷ d' ∷ [])
four_alike p q r s =
    let first : ℕ → List ℕ → List ℕ = λ x l. x ∷ l in ap₂ first p (ap₂ first q (ap₂ first r (ap (λ (x : ℕ). x ∷ []) s)))

module _ (c : Parameters) (h cols : List ℕ) (σ : Steps) where
  abbrev n : ℕ
  n = length cols

  abbrev made_at : ℕ → Bool
  made_at = is_made n σ

  abbrev verdict : ℕ → Verdict
  verdict = verdict_at c h cols σ

  -- step i is made, and ends so
  abbrev ends : (Verdict → Bool) → ℕ → Bool
  ends p i = made_at i && p (verdict i)

  -- ---- the loop's turns

  pub counts_start : counts_up_to c h cols σ 0 ≡ 0 ∷ 0 ∷ 0 ∷ 0 ∷ []
  unfolding counts_up_to verdict_count count
  counts_start = refl

  pub counts_turn : {i : ℕ} → PassBelow n σ (suc i) → counts_up_to c h cols σ (suc i) ≡ tallied (verdict_at c h cols σ i) (counts_up_to c h cols σ i)
  unfolding counts_up_to verdict_count count tallied
  counts_turn {i} pass =
      ap (λ (b : Bool). (count i made_at + cond b 1 0) ∷ more is_right b ∷ more is_held b ∷ more is_wrong b ∷ []) (made n σ pass)
    where
      more : (Verdict → Bool) → Bool → ℕ
      more p b = count i (ends p) + cond (b && p (verdict i)) 1 0

  pub counts_stop : {i k : ℕ} → i ≤ k → fault (rules_at n σ i) ≢ 0 → counts_up_to c h cols σ k ≡ counts_up_to c h cols σ i
  unfolding counts_up_to verdict_count
  counts_stop {i} {k} l ne =
      let none : (j : ℕ) → i ≤ j → made_at j ≡ false = λ j le. not_made n σ ne le in
      let each : (p : Verdict → Bool) → count k (ends p) ≡ count i (ends p) =
      λ p. count_stops k (ends p) l (λ j le. ap (λ (b : Bool). b && p (verdict j)) (none j le)) in
      four_alike (count_stops k made_at l none) (each is_right) (each is_held) (each is_wrong)

  -- no count is above the number of steps
  pub counts_few : (k i : ℕ) → entry_of (counts_up_to c h cols σ k) i ≤ k
  unfolding counts_up_to verdict_count
  counts_few k zero = count-le k made_at
  counts_few k (suc zero) = count-le k (ends is_right)
  counts_few k (suc (suc zero)) = count-le k (ends is_held)
  counts_few k (suc (suc (suc zero))) = count-le k (ends is_wrong)
  counts_few k (suc (suc (suc (suc i)))) = omega arith

  -- ---- what they count

  -- "Steps equal the other three added up."
  pub counts_add : (k : ℕ)
      → count k (is_made n σ) ≡ verdict_count c h cols σ is_right k + verdict_count c h cols σ is_held k + verdict_count c h cols σ is_wrong k
  unfolding verdict_count
  counts_add k = count_apart k made_at verdict

  -- the steps before the first that is refused
  made_count : (i : ℕ) → PassBelow n σ i → count i (is_made n σ) ≡ i
  unfolding count
  made_count zero f = refl
  made_count (suc i) f =
      ap₂ (λ (x : ℕ) (b : Bool). x + cond b 1 0) (made_count i (λ j l. f j (omega arith))) (made n σ f) ∙ one
    where
      one : i + 1 ≡ suc i
      one = omega arith

  -- of steps that all pass, each counts by what it ends in
  pub counts_made : (k : ℕ) → PassBelow n σ k
      → counts_up_to c h cols σ k
      ≡ k ∷ count k (λ i. is_right (verdict i)) ∷ count k (λ i. is_held (verdict i)) ∷ count k (λ i. is_wrong (verdict i)) ∷ []
  unfolding counts_up_to verdict_count
  counts_made k pass = four_alike (made_count k pass) (each is_right) (each is_held) (each is_wrong)
    where
      each : (p : Verdict → Bool) → count k (ends p) ≡ count k (λ i. p (verdict i))
      each p =
          count_tests k (ends p) (λ i. p (verdict i)) (λ i l. ap (λ (b : Bool). b && p (verdict i)) (made n σ (λ j l'. pass j (omega arith))))

  -- where every step that is made is right, none is held and none is wrong
  pub counts_right : (k : ℕ) → ((i : ℕ) → i < k → is_made n σ i ≡ true → verdict_at c h cols σ i ≡ Right)
      → (verdict_count c h cols σ is_held k ≡ 0) × (verdict_count c h cols σ is_wrong k ≡ 0)
  unfolding verdict_count
  counts_right k right = (none is_held refl, none is_wrong refl)
    where
      none : (p : Verdict → Bool) → p Right ≡ false → count k (ends p) ≡ 0
      none p e = count_none k (ends p) (λ i l. decided i (made_at i) refl l)
        where
          decided : (i : ℕ) (b : Bool) → made_at i ≡ b → i < k → ends p i ≡ false
          decided i true q l = ap₂ (λ (b : Bool) (v : Verdict). b && p v) q (right i l q) ∙ e
          decided i false q l = ap (λ (b : Bool). b && p (verdict i)) q
