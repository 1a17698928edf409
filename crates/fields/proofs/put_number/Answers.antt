-- `put_number` meets its contract.
use Rattle.fields.proofs.Printing.{number_written}
use Rattle.fields.proofs.put_number.Goals as goal

pub returns : goal.returns
returns c =
    let a = c.args in
    number_written a.v a.at a.out.now _ c.put_lead.ensures
