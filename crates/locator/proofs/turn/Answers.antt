-- `turn` meets its contract: the other polynomial takes what it needs of the pivot while the pivot is as it was, half by half.
use mathlib.Core.Path.{subst}
use Prim.Native.Nat.{ℕ, ◌+◌, ◌/◌}
use native.Mathlib.Omega.{arith}
use Rattle.locator.specs.Halves.{Half}
use Rattle.locator.proofs.Turns.{half_weaken, spare_even, spare_odd}
use Rattle.locator.proofs.turn.Goals as goal

pub combine-requires-clause-half : goal.combine-requires-clause-half
combine-requires-clause-half c =
    let pivot = c.args.pivot.now in
    let other = c.args.other.now in (
      half_weaken (omega (arith, pivot.fits)) pivot.pair.even_half,
      subst (λ (m : ℕ). Half m (other.degree / 2 + 1) other.even) c.requires.width.0 other.pair.even_half,
      spare_even pivot.width c.requires.pivot.1 pivot.pair.even_half,
    )

pub combine-requires-2-clause-half : goal.combine-requires-2-clause-half
combine-requires-2-clause-half c =
    let pivot = c.args.pivot.now in
    let other = c.args.other.now in (
      half_weaken (omega (arith, pivot.fits)) pivot.pair.odd_half,
      subst (λ (m : ℕ). Half m ((other.degree + 1) / 2) other.odd) c.requires.width.0 other.pair.odd_half,
      spare_odd pivot.width c.requires.pivot.1 pivot.pair.odd_half,
    )
