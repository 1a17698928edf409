-- `carry` meets its contract: what is placed is completed.
use mathlib.Core.Path.{sym, subst}
use mathlib.Core.List.{List}
use Prim.Native.Nat.{ℕ}
use lib.ListN.{length}
use Rattle.slices.specs.Bits.{Bits}
use Rattle.basis.specs.Table.{Form}
use Rattle.systematic.proofs.Places.{placed_bits}
use Rattle.systematic.proofs.carry.Goals as goal

pub complete-requires : goal.complete-requires
complete-requires c =
    let a = c.args in
    let placed = c.place in (
      subst (λ (k : ℕ). Form k a.rows.now a.leads.now) (sym placed.auto.word) c.requires.form,
      subst (λ (x : List ℕ). Bits x) (sym placed.ensures) (placed_bits (length a.word.now) a.leads.now a.message.now c.requires.leads_in_bounds.1),
    )
