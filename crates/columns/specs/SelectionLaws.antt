-- The columns of a selection are columns of the code, each at most once.
use Rattle.std.specs.Prelude.{◌≡◌, List}
use Rattle.std.proofs.Math.Path.{sym, ap, ap₂}
use Rattle.std.proofs.Common.{◌∙◌, subst, add-zero, mod-lt, mod-eq_of_lt, div-add-mod', div-lt_iff_lt-mul, le-div_iff_mul-le, pow_pos}
use Prim.Native.Nat.{ℕ, suc, ◌+◌, ◌*◌, ◌/◌, ◌%◌, ◌<◌, ◌≤◌}
use Rattle.std.proofs.Math.Nat.{suc-mul, div-eq_of_lt, mul-add-div_right, mul-add-mod_self_right}
use Rattle.std.proofs.Math.Decide.{dec_lt}
use native.Mathlib.Omega.{arith}
use Rattle.std.proofs.Math.ListN.{length}
use Rattle.algebra.specs.Distinct.{Distinct}
use Rattle.algebra.specs.Lists.{entry_of}
use Rattle.algebra.specs.Xor.{◌⊕◌}
use Rattle.algebra.specs.XorLaws.{⊕-lt, ⊕_comm, ⊕_cancel}
use Rattle.params.specs.declared.Parameters.{Parameters}
use Rattle.params.specs.Code.{Accepted}
use Rattle.columns.specs.Fits.{Chosen}
use Rattle.columns.specs.Choice.{selected_column}

-- ---- block and place in it

module _ {t : ℕ} (pos : 0 < t) where
  pub block_at : (b : ℕ) {r : ℕ} → r < t → (b * t + r) / t ≡ b
  block_at b {r} l = mul-add-div_right pos b r ∙ ap (λ (x : ℕ). b + x) (div-eq_of_lt l) ∙ add-zero b

  pub place_at : (b : ℕ) {r : ℕ} → r < t → (b * t + r) % t ≡ r
  place_at b {r} l = mul-add-mod_self_right b t r ∙ mod-eq_of_lt l

  -- "Place r of a chosen block takes the block's column r ⊕ s"
  pub selected_at : (blocks shifts : List ℕ) (b : ℕ) {r : ℕ} → r < t
      → selected_column t blocks shifts (b * t + r) ≡ entry_of blocks b * t + (r ⊕ entry_of shifts b)
  unfolding selected_column
  selected_at blocks shifts b l =
      ap₂ (λ (q s : ℕ). entry_of blocks q * t + (s ⊕ entry_of shifts q)) (block_at b l) (place_at b l)

  -- a column tells its block and its place there
  parts : (a b : ℕ) {r s : ℕ} → r < t → s < t → a * t + r ≡ b * t + s → (a ≡ b) × (r ≡ s)
  parts a b lr ls e = (
    sym (block_at a lr) ∙ ap (λ (x : ℕ). x / t) e ∙ block_at b ls,
    sym (place_at a lr) ∙ ap (λ (x : ℕ). x % t) e ∙ place_at b ls,
  )

-- ---- for an accepted code

pub t_positive : {c : Parameters} {h : List ℕ} → Accepted c h → 0 < c.t
t_positive A = subst (λ (t : ℕ). 0 < t) (sym A.limits.t_power) (pow_pos A.limits.f)

module _ {c : Parameters} {h : List ℕ} (A : Accepted c h) {blocks shifts : List ℕ} (C : Chosen c blocks shifts) where
  pub block_below : {j : ℕ} → j < length blocks * c.t → j / c.t < length blocks
  block_below l = (div-lt_iff_lt-mul (t_positive A)).1 l

  -- exclusive or keeps to the block
  pub shifted_below : {r b : ℕ} → r < c.t → b < length blocks → r ⊕ entry_of shifts b < c.t
  shifted_below {r} {b} lr lb =
      let s : entry_of shifts b < c.t = C.shifts_inside b (subst (λ (k : ℕ). b < k) (sym C.as_many) lb) in
      subst (λ (t : ℕ). r ⊕ entry_of shifts b < t) (sym A.limits.t_power)
      (⊕-lt A.limits.f r (entry_of shifts b)
      (subst (λ (t : ℕ). r < t) A.limits.t_power lr)
      (subst (λ (t : ℕ). entry_of shifts b < t) A.limits.t_power s))

  place_below : (j : ℕ) → j % c.t < c.t
  place_below j = mod-lt j (t_positive A)

  pub selected_inside : (j : ℕ) → j < length blocks * c.t → selected_column c.t blocks shifts j < c.n
  unfolding selected_column
  selected_inside j l =
      let b = j / c.t in
      let B = entry_of blocks b in
      let x : (j % c.t) ⊕ entry_of shifts b < c.t = shifted_below (place_below j) (block_below l) in
      let whole : suc B * c.t ≤ c.n = (le-div_iff_mul-le (t_positive A)).0 (C.inside b (block_below l)) in
      let split : suc B * c.t ≡ B * c.t + c.t = suc-mul B c.t in
      omega arith

  pub selected_distinct : Distinct (length blocks * c.t) (selected_column c.t blocks shifts)
  unfolding selected_column
  selected_distinct i j l lj e =
      let li : i < length blocks * c.t = omega arith in
      let (blocks-same, places_same) =
      parts (t_positive A) (entry_of blocks (i / c.t)) (entry_of blocks (j / c.t)) (shifted_below (place_below i) (block_below li))
      (shifted_below (place_below j) (block_below lj)) e in
      decided blocks-same places_same (block_below li) (block_below lj) (dec_lt (i / c.t) (j / c.t)) (dec_lt (j / c.t) (i / c.t))
    where
      same_place : (p q s : ℕ) → p ⊕ s ≡ q ⊕ s → p ≡ q
      same_place p q s e = sym (⊕_cancel s p) ∙ ap (λ (x : ℕ). s ⊕ x) (⊕_comm s p ∙ e ∙ ⊕_comm q s) ∙ ⊕_cancel s q

      equal : i / c.t ≡ j / c.t → (i % c.t) ⊕ entry_of shifts (i / c.t) ≡ (j % c.t) ⊕ entry_of shifts (j / c.t) → i ≡ j
      equal q e =
          sym (div-add-mod' i c.t)
          ∙ ap₂ (λ (b r : ℕ). b * c.t + r) q
          (same_place (i % c.t) (j % c.t) (entry_of shifts (j / c.t)) (ap (λ (b : ℕ). (i % c.t) ⊕ entry_of shifts b) (sym q) ∙ e))
          ∙ div-add-mod' j c.t

      decided : entry_of blocks (i / c.t) ≡ entry_of blocks (j / c.t)
          → (i % c.t) ⊕ entry_of shifts (i / c.t) ≡ (j % c.t) ⊕ entry_of shifts (j / c.t) → i / c.t < length blocks → j / c.t < length blocks
          → Dec (i / c.t < j / c.t) → Dec (j / c.t < i / c.t) → ⊥
      decided same e li lj (yes l) d = C.once (i / c.t) (j / c.t) l lj same
      decided same e li lj (no nl) (yes g) = C.once (j / c.t) (i / c.t) g li (sym same)
      decided same e li lj (no nl) (no ng) =
          let q : i / c.t ≡ j / c.t = omega arith in
          let r : i ≡ j = equal q e in
          omega (arith, l)
