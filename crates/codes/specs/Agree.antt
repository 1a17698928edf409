-- When two codes agree, in words.
use Rattle.std.specs.Prelude.{◌≡◌, List, ℕ}
use Rattle.params.specs.declared.Parameters.{Parameters}

-- "cards are the same only if ω agrees as well", and "only if their marks agree too"
pub record Agree (c₁ : Parameters) (h₁ hidden₁ : List ℕ) (c₂ : Parameters) (h₂ hidden₂ : List ℕ) : Type 0 where
  pub m_same : c₁.m ≡ c₂.m
  pub n_same : c₁.n ≡ c₂.n
  pub t_same : c₁.t ≡ c₂.t
  pub ω_same : c₁.omega ≡ c₂.omega
  pub h_same : h₁ ≡ h₂
  pub marks_same : hidden₁ ≡ hidden₂
