-- Two offsets of one signature: each root, and each element of the support, differs by the sum of the offsets.
use Rattle.std.specs.Prelude.{◌≡◌, ℕ}
use Rattle.algebra.specs.Field.{Ops, Laws}
use Rattle.algebra.specs.FieldLaws.{ring}
use Rattle.signature.specs.Signature.{root_at, support_at}

module _ {A : Type 0} (K : Ops A) (F : Laws K) where
  infixl 65 ◌+◌
  open K use {inv, add as ◌+◌}

  apart : (a v w : A) → (a + v) + (a + w) ≡ v + w
  apart a v w = simp ring

  module _ (ω₁ ω₂ : A) (h : ℕ → A) where
    pub roots_apart : (i : ℕ) → root_at K ω₁ h i + root_at K ω₂ h i ≡ ω₁ + ω₂
    unfolding root_at
    roots_apart i = apart (inv (h i)) ω₁ ω₂

    pub support_apart : (j : ℕ) → support_at K ω₁ h j + support_at K ω₂ h j ≡ ω₁ + ω₂
    unfolding support_at
    support_apart j = apart (inv (h j) + inv (h 0)) ω₁ ω₂
