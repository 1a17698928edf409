-- `internal::message` meets its contract: the entries at the free places are the message.
use mathlib.Core.Path.{refl, sym, ap, ◌∙◌}
use Prim.Native.Nat.{ℕ}
use native.Mathlib.Omega.{arith}
use lib.ListN.{length}
use Rattle.algebra.specs.Lists.{entry_of}
use Rattle.algebra.specs.Places.{chosen}
use Rattle.refusals.specs.Ending.{ended_done}
use Rattle.refusals.specs.Testing.{tested_none}
use Rattle.slices.specs.Bits.{all_bits}
use Rattle.basis.specs.Table.{free_at, free_count}
use Rattle.parity.specs.Columns.{message_of}
use Rattle.messages.specs.CodeBasis.{message_is, counted}
use Rattle.parity.specs.Selected.{columns_short}
use Rattle.messages.proofs.Meaning.{message_fits, message_due}
use Rattle.words.proofs.Calls.{message_refused}
use Rattle.words.proofs.internal.message.Goals as goal

pub message_columns-k-requires : goal.message_columns-k-requires
message_columns-k-requires c =
    let O = c.requires.0 in (O, omega (arith, columns_short O))

pub returns-in_err-check_message : goal.returns-in_err-check_message
returns-in_err-check_message c =
    let a = c.args in
    message_refused c.message_columns-k.ensures (length a.message.now) (all_bits a.word.now) a.message.now _ _
    c.in_err-check_message.ensures c.from_residual.ensures.1

pub take_out-requires : goal.take_out-requires
take_out-requires c =
    let found = c.message_columns-k in
    let (long, bits) =
    message_fits found.result (length c.args.message.now) c.args.word.now (tested_none c.in_ok-check_message.ensures) in (
      omega (arith, columns_short c.requires.0, c.requires.1),
      long ∙ counted found.ensures ∙ ap (λ (k : ℕ). free_count k found.new.leads) (sym c.requires.1),
    )

pub returns : goal.returns
returns c =
    let a = c.args in
    let found = c.message_columns-k in
    let none = tested_none c.in_ok-check_message.ensures in
    let due = message_due found.ensures (length a.message.now) (all_bits a.word.now) (sym none) in
    ended_done _ a.message.now (message_of a.c a.h.now a.cols.now a.word.now) due refl
    (c.take_out.ensures ∙ ap (λ (k : ℕ). chosen k (free_at found.new.leads) (entry_of a.word.now)) c.requires.1
    ∙ sym (message_is found.ensures a.word.now))
