-- `internal::roles` meets its contract: the free places are the message columns.
use mathlib.Core.Path.{sym, ap, ◌∙◌}
use Prim.Native.Nat.{ℕ}
use native.Mathlib.Omega.{arith}
use mathlib.Core.Bool.{cond}
use Rattle.algebra.specs.Tabulate.{tabulate}
use Rattle.basis.specs.Table.{free_at}
use Rattle.messages.specs.CodeBasis.{roles_are, fewer}
use Rattle.parity.specs.Selected.{columns_short}
use Rattle.words.proofs.internal.roles.Goals as goal

pub message_columns-k-requires : goal.message_columns-k-requires
message_columns-k-requires c =
    let O = c.requires.0 in (O, omega (arith, columns_short O))

pub overflow_cast-result : goal.overflow_cast-result
overflow_cast-result c =
    record {
      fits = omega (
        arith,
        fewer c.message_columns-k.ensures,
        columns_short
            c.requires.0,
      );
    }

pub returns : goal.returns
returns c =
    let found = c.message_columns-k in
    record {
      value = found.ensures.number;
      out_after = c.roles.ensures ∙ ap (λ (k : ℕ). tabulate k (λ p. cond (free_at found.new.leads p) 1 0))
          c.requires.1 ∙ sym (roles_are found.ensures);
    }
