-- `points::support` meets its contract: the inverses are those of the signature.
use mathlib.Core.Path.{◌∙◌}
use native.Mathlib.Omega.{arith}
use lib.ListN.{length}
use Rattle.params.proofs.Stored.{offset_fits}
use Rattle.signature.proofs.Stored.{support_is}
use Rattle.parity.proofs.OfCode.{on_columns}
use Rattle.parity.proofs.points.support.Goals as goal

pub overflow_cast-code : goal.overflow_cast-code
overflow_cast-code c = record { fits = offset_fits (on_columns c.args.code.now).accepted }

pub store_support-requires : goal.store_support-requires
store_support-requires c =
    let code = c.args.code.now in
    let L = (on_columns code).accepted.limits in
    omega (arith, L.n_low, L.h_length, code.inverted.long, c.requires)

pub returns : goal.returns
returns c =
    let code = c.args.code.now in
    let L = (on_columns code).accepted.limits in
    c.store_support.ensures ∙ support_is code.inverted (length c.args.out.now) (omega (arith, L.h_length, c.requires)) code.c.omega
