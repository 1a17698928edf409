-- `message_columns` meets its contract.
use native.Mathlib.Omega.{arith}
use Rattle.messages.proofs.Meaning.{room}
use Rattle.messages.proofs.message_columns.Goals as goal

pub code_basis-requires : goal.code_basis-requires
code_basis-requires c =
    let (O, long) = c.requires in (O, room O _ _ (omega arith) long)
