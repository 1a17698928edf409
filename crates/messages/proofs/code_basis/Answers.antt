-- `code_basis` meets its contract.
use native.Mathlib.Omega.{arith}
use Rattle.params.proofs.Accepted.{n_short, t_short}
use Rattle.parity.specs.Parity.{reaches}
use Rattle.messages.proofs.Meaning.{code_basis_is, rank-le}
use Rattle.messages.proofs.code_basis.Goals as goal

pub parity_basis-requires : goal.parity_basis-requires
parity_basis-requires c =
    let (O, R) = c.requires in
    let L = O.accepted.limits in
    (L.width, omega (arith, t_short L, n_short L), R, reaches O.accepted O.selected)

pub overflow_sub-result : goal.overflow_sub-result
overflow_sub-result c =
    omega (
      arith,
      rank-le c.requires.0
          c.parity_basis.ensures,
    )

pub returns : goal.returns
returns c =
    code_basis_is c.requires.0
    c.parity_basis.ensures
