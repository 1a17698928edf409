-- `elimination::store` meets its contract: of the table only the part at p is written, and of the leads only p.
use Rattle.basis.proofs.Insertion.{stored}
use Rattle.basis.proofs.elimination.store.Goals as goal

pub returns : goal.returns
returns c =
    stored c.requires.0 c.requires.1 c.copy_from_slice.ensures.after
