-- `elimination::reduce` meets its contract: the part of the table that it adds is the row at p.
use Rattle.basis.proofs.Insertion.{reduced}
use Rattle.basis.proofs.elimination.reduce.Goals as goal

pub returns : goal.returns
returns c =
    reduced c.requires c.add.ensures
