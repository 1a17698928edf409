-- The sums that are stored are the roots and the support.
use mathlib.Core.Path.{◌≡◌, sym, ap, ap₂, ◌∙◌}
use mathlib.Core.List.{List}
use Prim.Native.Nat.{ℕ, ◌≤◌}
use native.Mathlib.Omega.{arith}
use lib.ListN.{length}
use Rattle.algebra.specs.Lists.{entry_of}
use Rattle.algebra.specs.Tabulate.{tabulate}
use Rattle.algebra.specs.TabulateLaws.{tabulate_cong}
use Rattle.algebra.specs.Xor.{◌⊕◌}
use Rattle.algebra.specs.XorLaws.{⊕_assoc}
use Rattle.field.specs.Gf.{gf}
use Rattle.signature.specs.Signature.{root_at, support_at}
use Rattle.signature.specs.Inverses.{added, Inverted}
use Rattle.signature.specs.Tests.{inverse_at}

module _ {m : ℕ} {h inverses : List ℕ} (I : Inverted m h inverses) (k : ℕ) (short : k ≤ length h) (ω : ℕ) where
  pub roots_are : tabulate k (added inverses ω) ≡ tabulate k (root_at (gf m) ω (entry_of h))
  unfolding root_at inverse_at
  roots_are = tabulate_cong k (λ i l. ap (λ (x : ℕ). x ⊕ ω) (I.are i (omega arith)))

  pub support_is : tabulate k (added inverses (added inverses ω 0)) ≡ tabulate k (support_at (gf m) ω (entry_of h))
  unfolding support_at inverse_at
  support_is =
      tabulate_cong k
      (λ j l.
      ap₂ (λ (x y : ℕ). x ⊕ (y ⊕ ω)) (I.are j (omega arith)) (I.are 0 (omega arith)) ∙ sym (⊕_assoc (inverse_at m h j) (inverse_at m h 0) ω))
