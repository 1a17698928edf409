-- A word with the bits at some places turned.
use Rattle.std.specs.Prelude.{Bool, cond, List, ℕ}
use Rattle.algebra.specs.Lists.{entry_of}
use Rattle.algebra.specs.Tabulate.{tabulate}
use Rattle.algebra.specs.Xor.{◌⊕◌}

-- the first n bits of r, turned where the test holds
unfoldable pub turned : ℕ → (ℕ → Bool) → List ℕ → List ℕ
turned n p r = tabulate n (λ j. entry_of r j ⊕ cond (p j) 1 0)
