-- `put_lines` meets its contract.
use Rattle.lines.specs.Listing.{code_line}
use Rattle.lines.proofs.Rows.{lines_written}
use Rattle.lines.proofs.put_lines.Goals as goal

pub returns : goal.returns
unfolding code_line
returns c =
    let a = c.args in
    let line = c.put_line-next.ensures in
    lines_written a.c a.k a.columns.now.h.now a.columns.now.support.now a.columns.now.roles.now a.out.now
    c.requires.0 c.requires.2 line.out_after line.value c.put_columns.ensures
