-- Two codes are the same if m, n, t, ω, h and the marks agree: as a computation.
use Rattle.std.specs.Prelude.{Bool, ◌&&◌, List, ℕ, eqb}
use Rattle.algebra.specs.Lists.{same_list}
use Rattle.params.specs.declared.Parameters.{Parameters}

module _ (c₁ : Parameters) (h₁ hidden₁ : List ℕ) (c₂ : Parameters) (h₂ hidden₂ : List ℕ) where
  -- "cards are the same only if ω agrees as well", and "only if their marks agree too"
  unfoldable pub same_code : Bool
  same_code =
      eqb c₁.m c₂.m && eqb c₁.n c₂.n && eqb c₁.t c₂.t && eqb c₁.omega c₂.omega && same_list h₁ h₂
      && same_list hidden₁ hidden₂
