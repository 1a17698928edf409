-- Demand 2: "a signature is accepted exactly if two disjoint sequences of distinct field elements exist whose Cauchy matrix is its dyadic
-- matrix". This file says both sides of that sentence, over any field of characteristic two, and which pair comes back; Existence shows that the
-- sides are the same.
--
-- K is the field; a signature h of n elements is an index function, h i being its entry i. Its dyadic matrix has the entry h (i ⊕ j) at i, j,
-- and the Cauchy matrix of z and L has 1/(z i + L j) there. What h, z and L are from n on is not looked at.
use Rattle.std.specs.Prelude.{◌≡◌, ◌≢◌, ℕ, ◌<◌}
use Rattle.algebra.specs.Field.{Ops}
use Rattle.algebra.specs.Distinct.{Distinct}
use Rattle.algebra.specs.Xor.{◌⊕◌}

-- 01: "z_i = 1/h_i + ω"
unfoldable pub root_at : {A : Type 0} → Ops A → A → (ℕ → A) → ℕ → A
root_at K ω h i = K.add (K.inv (h i)) ω

-- 01: "L_j = 1/h_j + 1/h_0 + ω"
unfoldable pub support_at : {A : Type 0} → Ops A → A → (ℕ → A) → ℕ → A
support_at K ω h j = K.add (K.add (K.inv (h j)) (K.inv (h 0))) ω

-- 01: "no entry is zero"
abbrev pub NoZero : {A : Type 0} → Ops A → ℕ → (ℕ → A) → Type 0
NoZero K n h = (i : ℕ) → i < n → h i ≢ K.nought

-- 01: "for all i and j, 1/h at i ⊕ j equals 1/h_i + 1/h_j + 1/h_0"
abbrev pub Linear : {A : Type 0} → Ops A → ℕ → (ℕ → A) → Type 0
Linear K n h =
    (i j : ℕ) → i < n → j < n → K.inv (h (i ⊕ j)) ≡ K.add (K.add (K.inv (h i)) (K.inv (h j))) (K.inv (h 0))

-- 01's three conditions on a signature; the third: "no two entries are equal"
pub record Conditions {A : Type 0} (K : Ops A) (n : ℕ) (h : ℕ → A) : Type 0 where
  pub no_zero : NoZero K n h
  pub linear : Linear K n h
  pub distinct : Distinct n h

-- z and L are disjoint sequences of n distinct elements each, and their Cauchy matrix is the dyadic matrix of h
pub record Cauchy {A : Type 0} (K : Ops A) (n : ℕ) (h z L : ℕ → A) : Type 0 where
  pub z_in : (i : ℕ) → i < n → K.In (z i)
  pub L_in : (j : ℕ) → j < n → K.In (L j)
  pub z_distinct : Distinct n z
  pub L_distinct : Distinct n L
  pub disjoint : (i j : ℕ) → i < n → j < n → z i ≢ L j
  pub entry : (i j : ℕ) → i < n → j < n → K.inv (K.add (z i) (L j)) ≡ h (i ⊕ j)

-- such a pair exists
abbrev pub HasCauchy : {A : Type 0} → Ops A → ℕ → (ℕ → A) → Type 0
HasCauchy {A} K n h = (z : ℕ → A) × (L : ℕ → A) × Cauchy K n h z L
