-- The signature of a chosen block: the block's t entries of the code's signature, in the order that the shift gives them.
use Rattle.std.specs.Prelude.{List, ℕ, ◌+◌, ◌*◌}
use Rattle.algebra.specs.Lists.{entry_of}
use Rattle.algebra.specs.Tabulate.{tabulate}
use Rattle.algebra.specs.Xor.{◌⊕◌}
use Rattle.params.specs.declared.Parameters.{Parameters}

-- h_(blocks_b·t + (r ⊕ shifts_b)), for r below t
unfoldable pub shifted_signature : Parameters → List ℕ → List ℕ → List ℕ → ℕ → List ℕ
shifted_signature c h blocks shifts b = tabulate c.t (λ r. entry_of h (entry_of blocks b * c.t + (r ⊕ entry_of shifts b)))
