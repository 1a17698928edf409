-- `find_candidate` meets its contract: the roots, the support and the syndrome are those of the code, and the places turned are the
-- roots of the pair that the pass leaves.
use mathlib.Core.Path.{sym, subst, ◌∙◌}
use Prim.Native.Nat.{ℕ}
use native.Mathlib.Omega.{arith}
use Rattle.params.proofs.Accepted.{t_short}
use Rattle.slices.specs.Elements.{Elements}
use Rattle.parity.proofs.OfCode.{on_columns, summed, rows_reach, sums_are}
use Rattle.nearest.proofs.Decoding.{root_points, support_in, column_in, roots_stored, support_stored}
use Rattle.nearest.proofs.Decoding.{syndrome_fits, candidate_found}
use Rattle.nearest.proofs.find_candidate.Goals as goal

pub roots-requires : goal.roots-requires
roots-requires c = omega (arith, t_short (on_columns c.args.code.now).accepted.limits, c.requires.roots_len.0)

pub syndrome-requires : goal.syndrome-requires
syndrome-requires c =
    let O = on_columns c.args.code.now in
    (summed O c.requires.received.0, rows_reach O c.requires.roots_len.2)

pub locate-polynomial-requires : goal.locate-polynomial-requires
locate-polynomial-requires c =
    let O = on_columns c.args.code.now in
    let er = roots_stored O c.requires.roots_len.0 c.roots.ensures in
    let es = c.syndrome.ensures ∙ sums_are O c.args.received.now c.requires.roots_len.2 in
    (O.accepted.limits.width, root_points O er, syndrome_fits O c.args.received.now er es)

pub turn_roots-requires : goal.turn_roots-requires
turn_roots-requires c =
    let O = on_columns c.args.code.now in
    let el = support_stored O c.requires.roots_len.1 c.support.ensures in
    record {
      in_field = subst (λ (m : ℕ). Elements m c.support.new.out) (sym c.locate-polynomial.ensures.width) (support_in O el);
      by_index = column_in O el;
      received_len = (c.requires.received.0.long, c.requires.received.1);
    }

pub returns : goal.returns
returns c =
    let O = on_columns c.args.code.now in
    let er = roots_stored O c.requires.roots_len.0 c.roots.ensures in
    let el = support_stored O c.requires.roots_len.1 c.support.ensures in
    let es = c.syndrome.ensures ∙ sums_are O c.args.received.now c.requires.roots_len.2 in
    let places = c.turn_roots.ensures in
    candidate_found O c.args.received.now er el es c.locate-polynomial.ensures
    places.value places.word_after
