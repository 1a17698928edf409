-- What the code computes from the values of two halves: the discrepancy of a pair at a root, and whether the pair is nought at a point.
use mathlib.Core.Path.{◌≡◌, sym, ap, ap₂, ◌∙◌, subst}
use Prim.Native.Nat.{ℕ, ◌<◌, ◌^◌}
use Rattle.algebra.specs.Locator.Split.{value, discrepancy, in_discrepancy}
use Rattle.algebra.specs.Xor.{◌⊕◌}
use Rattle.field.specs.Gf.{Width, gf}
use Rattle.field.proofs.GfLaws.{gf_laws}
use Rattle.locator.specs.declared.polynomial.Polynomial.{Polynomial}
use Rattle.locator.specs.Halves.{evaluate}
use Rattle.locator.specs.Coefficients.{halves_of}

module _ (m : ℕ) (p : Polynomial) where
  -- 1 + s·z
  pub slope_element : Width m → (s z : ℕ) {u : ℕ} → u ≡ (gf m).mul s z → 1 ⊕ u < 2 ^ m
  slope_element W s z e =
      (gf_laws m W).in_add 1 _ (gf_laws m W).in_one (subst (λ (x : ℕ). x < 2 ^ m) (sym e) ((gf_laws m W).in_mul s z))

  pub discrepancy_value : Width m → (z s : ℕ) {y slope level u v w : ℕ} → y ≡ (gf m).mul z z → slope ≡ evaluate (gf m) p.odd y
      → level ≡ evaluate (gf m) p.even y → u ≡ (gf m).mul s z → v ≡ (gf m).mul (1 ⊕ u) slope → w ≡ (gf m).mul s level
      → (v ⊕ w ≡ discrepancy (gf m) z s (halves_of (gf m) p)) × (v ⊕ w < 2 ^ m)
  unfolding discrepancy
  discrepancy_value W z s {y} {slope} {level} {u} {v} {w} ey es el eu ev ew =
      (same, subst (λ (x : ℕ). x < 2 ^ m) (sym same) (in_discrepancy (gf m) (gf_laws m W) z s (halves_of (gf m) p)))
    where
      at_odd : slope ≡ evaluate (gf m) p.odd ((gf m).mul z z)
      at_odd = es ∙ ap (evaluate (gf m) p.odd) ey

      at_even : level ≡ evaluate (gf m) p.even ((gf m).mul z z)
      at_even = el ∙ ap (evaluate (gf m) p.even) ey

      same : v ⊕ w ≡ discrepancy (gf m) z s (halves_of (gf m) p)
      same =
          ap₂ (λ (a b : ℕ). a ⊕ b) (ev ∙ ap₂ (λ (a b : ℕ). (gf m).mul (1 ⊕ a) b) eu at_odd) (ew ∙ ap ((gf m).mul s) at_even)

  pub value_at : (x : ℕ) {y slope level u : ℕ} → y ≡ (gf m).mul x x → level ≡ evaluate (gf m) p.even y → slope ≡ evaluate (gf m) p.odd y
      → u ≡ (gf m).mul x slope → level ⊕ u ≡ value (gf m) (halves_of (gf m) p) x
  unfolding value
  value_at x ey el es eu =
      ap₂ (λ (a b : ℕ). a ⊕ b) (el ∙ ap (evaluate (gf m) p.even) ey) (eu ∙ ap ((gf m).mul x) (es ∙ ap (evaluate (gf m) p.odd) ey))
