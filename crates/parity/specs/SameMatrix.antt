-- Two codes, each on a list of its columns, with the same parity check matrix: as many rows and columns, and the same entries.
use Rattle.std.specs.Prelude.{◌≡◌, List, ℕ, ◌<◌, length}
use Rattle.algebra.specs.Lists.{entry_of}
use Rattle.params.specs.declared.Parameters.{Parameters}
use Rattle.parity.specs.Word.{parity_at}

pub record SameMatrix (c₁ : Parameters) (h₁ cols₁ : List ℕ) (c₂ : Parameters) (h₂ cols₂ : List ℕ) : Type 0 where
  pub widths : c₁.m ≡ c₂.m
  pub rows : c₁.t ≡ c₂.t
  pub columns : length cols₁ ≡ length cols₂
  pub entries : (i j : ℕ) → i < c₂.t → j < length cols₂ → parity_at c₁ h₁ i (entry_of cols₁ j) ≡ parity_at c₂ h₂ i (entry_of cols₂ j)
