-- Two codes, each on a list of its columns, with the same parity check matrix repair the same words, and repair them to the same words.
use Rattle.std.specs.Prelude.{◌≡◌, Bool, ◌&&◌}
use Rattle.std.proofs.Math.Path.{ap₂, fun_ext}
use mathlib.Core.List.{List}
use Prim.Native.Nat.{ℕ, ◌^◌}
use Rattle.std.proofs.Math.Dec.{leb}
use Rattle.algebra.specs.All.{some}
use Rattle.algebra.specs.Places.{found}
use Rattle.params.specs.declared.Parameters.{Parameters}
use Rattle.parity.specs.Columns.{word_of}
use Rattle.parity.specs.SameMatrix.{SameMatrix}
use Rattle.parity.specs.SameMatrixLaws.{same_code_words}
use Rattle.nearest.specs.Repair.{distance, is_near, is_repairable, repaired_of}

module _ {c₁ c₂ : Parameters} {h₁ cols₁ h₂ cols₂ : List ℕ} (M : SameMatrix c₁ h₁ cols₁ c₂ h₂ cols₂) (received : List ℕ) where
  near : (w : List ℕ) → is_near c₁ h₁ cols₁ received w ≡ is_near c₂ h₂ cols₂ received w
  unfolding is_near
  near w =
      ap₂ (λ (x y : Bool). x && y) (same_code_words M w) (ap₂ (λ (n t : ℕ). leb (distance n received w) t) M.columns M.rows)

  pub same_repairable : is_repairable c₁ h₁ cols₁ received ≡ is_repairable c₂ h₂ cols₂ received
  unfolding is_repairable
  same_repairable = ap₂ (λ (n : ℕ) (p : List ℕ → Bool). some (2 ^ n) (λ s. p (word_of n s))) M.columns (fun_ext near)

  pub same_repaired : repaired_of c₁ h₁ cols₁ received ≡ repaired_of c₂ h₂ cols₂ received
  unfolding repaired_of
  same_repaired = ap₂ (λ (n : ℕ) (p : List ℕ → Bool). word_of n (found (2 ^ n) (λ s. p (word_of n s)))) M.columns (fun_ext near)
