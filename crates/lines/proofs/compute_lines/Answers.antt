-- `compute_lines` meets its contract: what it computes is the listing's.
use mathlib.Core.Path.{refl, ap, ◌∙◌}
use native.Mathlib.Omega.{arith}
use Rattle.params.proofs.Accepted.{n_short}
use Rattle.parity.proofs.OfCode.{on_columns}
use Rattle.parity.specs.ColumnLaws.{message_length-le}
use Rattle.parity.specs.Columns.{dimension, roles_of}
use Rattle.parity.specs.Selected.{as_long}
use Rattle.lines.proofs.Rows.{listing_written}
use Rattle.lines.proofs.compute_lines.Goals as goal

pub roles-k-requires : goal.roles-k-requires
roles-k-requires c =
    let code = c.args.code.now in (on_columns code, as_long code.c c.requires.whole_code.0 c.requires.support_len.1)

pub invariant_of-columns : goal.invariant_of-columns
invariant_of-columns c =
    let L = (on_columns c.args.code.now).accepted.limits in
    record {
      alike =
          record {
            short = omega (arith, n_short L, L.h_length);
            h_long = refl;
            support_long = omega (arith, c.requires.support_len, c.code_support.auto, L.h_length);
            roles_long = omega (arith, c.requires.support_len, c.roles-k.auto, L.h_length);
          };
    }

pub put_lines-requires : goal.put_lines-requires
put_lines-requires c =
    let code = c.args.code.now in
    let count = c.roles-k.ensures.value ∙ ap (dimension code.c code.h.now) c.requires.whole_code.0 in (
      (on_columns code).accepted.limits.h_length,
      omega (arith, count, message_length-le code.c code.h.now),
      c.requires.whole_code.1,
    )

pub returns : goal.returns
returns c =
    let code = c.args.code.now in
    let (every, room) = c.requires.whole_code in
    let record { value = count; out_after = roles } = c.roles-k.ensures in
    listing_written code.c code.h.now c.args.out.now (count ∙ ap (dimension code.c code.h.now) every) c.code_support.ensures
    (roles ∙ ap (roles_of code.c code.h.now) every) c.put_lines.ensures
