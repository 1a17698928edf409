-- Which steps of a ride are made: those before the first that is refused, whose number the ride ends with.
use Rattle.std.specs.Prelude.{◌≡◌, ◌≢◌, ◌⊎◌, true, false, ◌++◌, T}
use Rattle.std.proofs.Common.{sym, ◌∙◌, subst, inl, inr, not-suc-le-zero}
use Rattle.std.proofs.Math.Path.{ap}
use Prim.Native.Nat.{ℕ, zero, suc, ◌<◌, ◌≤◌}
use Rattle.std.proofs.Math.Decide.{dec_lt, ℕ_discrete}
use native.Mathlib.Omega.{arith}
use Rattle.std.proofs.Math.Dec.{eqb}
use borrow.Author.Tests.{eq-eqb, eqb-true, ne_eqb}
use Rattle.algebra.specs.AllLaws.{below_suc, all_is, all_true, all-false}
use Rattle.refusals.specs.Rules.{fault, numbered}
use Rattle.refusals.specs.RuleLaws.{fault_empty, fault_first, fault_rest, numbered_both}
use Rattle.simulation.specs.Steps.{Steps, step_rules, rules_at, steps_rules, is_made}

module _ (n : ℕ) (σ : Steps) where
  -- nothing refuses step j
  abbrev pub Passes : ℕ → Type 0
  Passes j = fault (rules_at n σ j) ≡ 0

  -- nor one of the first k
  abbrev pub PassBelow : ℕ → Type 0
  PassBelow k = (j : ℕ) → j < k → Passes j

  pub pass_suc : {k : ℕ} → PassBelow k → Passes k → PassBelow (suc k)
  pass_suc {k} before here = below_suc Passes k before here

  -- the first of k steps that is refused, if there is one
  pub first_refused : (k : ℕ) → PassBelow k ⊎ ((i : ℕ) × (i < k) × PassBelow i × (fault (rules_at n σ i) ≢ 0))
  first_refused zero = inl (λ j l. absurd (not-suc-le-zero l))
  first_refused (suc k) = earlier (first_refused k)
    where
      last : PassBelow k → Dec (Passes k) → PassBelow (suc k) ⊎ ((i : ℕ) × (i < suc k) × PassBelow i × (fault (rules_at n σ i) ≢ 0))
      last before (yes here) = inl (pass_suc before here)
      last before (no ne) = inr (k, omega arith, before, ne)

      earlier : PassBelow k ⊎ ((i : ℕ) × (i < k) × PassBelow i × (fault (rules_at n σ i) ≢ 0))
          → PassBelow (suc k) ⊎ ((i : ℕ) × (i < suc k) × PassBelow i × (fault (rules_at n σ i) ≢ 0))
      earlier (inl before) = last before (ℕ_discrete (fault (rules_at n σ k)) 0)
      earlier (inr (i, l, before, ne)) = inr (i, omega arith, before, ne)

  -- ---- which are made

  pub made_is : {i : ℕ} → is_made n σ i ≡ true → PassBelow (suc i)
  unfolding is_made
  made_is {i} t j l = eqb-true (fault (rules_at n σ j)) 0 (all_is (suc i) (λ j. eqb (fault (rules_at n σ j)) 0) t j l)

  pub made : {i : ℕ} → PassBelow (suc i) → is_made n σ i ≡ true
  unfolding is_made
  made {i} f = all_true (suc i) (λ j. eqb (fault (rules_at n σ j)) 0) (λ j l. eq-eqb (fault (rules_at n σ j)) 0 (f j l))

  -- none from one that is refused on
  pub not_made : {i j : ℕ} → fault (rules_at n σ i) ≢ 0 → i ≤ j → is_made n σ j ≡ false
  unfolding is_made
  not_made {i} {j} ne l =
      all-false (suc j) (λ j. eqb (fault (rules_at n σ j)) 0) i (omega arith) (ne_eqb (fault (rules_at n σ i)) 0 ne)

  -- ---- the number

  rules_numbered : (j : ℕ) → T (numbered (rules_at n σ j))
  unfolding rules_at step_rules
  rules_numbered j = tt

  steps_numbered : (k : ℕ) → T (numbered (steps_rules n σ k))
  unfolding steps_rules
  steps_numbered zero = tt
  steps_numbered (suc k) = numbered_both (steps_rules n σ k) (rules_at n σ k) (steps_numbered k) (rules_numbered k)

  pub steps_pass : (k : ℕ) → PassBelow k → fault (steps_rules n σ k) ≡ 0
  unfolding steps_rules
  steps_pass zero f = fault_empty
  steps_pass (suc k) f =
      fault_rest (steps_rules n σ k) (rules_at n σ k) (steps_numbered k) (steps_pass k (λ j l. f j (omega arith))) ∙ f k (omega arith)

  -- the first step that is refused gives the number
  pub steps_stop : (k : ℕ) {i : ℕ} → i < k → PassBelow i → fault (rules_at n σ i) ≢ 0 → fault (steps_rules n σ k) ≡ fault (rules_at n σ i)
  unfolding steps_rules
  steps_stop zero l before ne = absurd (not-suc-le-zero l)
  steps_stop (suc k) {i} l before ne = decided (dec_lt i k) (λ less. steps_stop k less before ne)
    where
      decided : Dec (i < k) → (i < k → fault (steps_rules n σ k) ≡ fault (rules_at n σ i))
          → fault (steps_rules n σ k ++ rules_at n σ k) ≡ fault (rules_at n σ i)
      decided (yes less) earlier =
          fault_first (steps_rules n σ k) (rules_at n σ k) (λ z. ne (sym (earlier less) ∙ z)) ∙ earlier less
      decided (no more) earlier =
          let same : i ≡ k = omega arith in
          fault_rest (steps_rules n σ k) (rules_at n σ k) (steps_numbered k) (steps_pass k (subst PassBelow same before))
          ∙ ap (λ (j : ℕ). fault (rules_at n σ j)) (sym same)
