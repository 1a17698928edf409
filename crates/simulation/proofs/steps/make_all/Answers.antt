-- `make_all` meets its contract, step by step.
use mathlib.Core.Path.{sym, ap, ◌∙◌}
use native.Mathlib.Omega.{arith}
use lib.ListN.{length}
use Rattle.algebra.specs.PartLaws.{part_lent, length_lent}
use Rattle.refusals.specs.Outcome.{tested}
use Rattle.refusals.specs.Rules.{fault}
use Rattle.simulation.specs.Lending.{steps_in}
use Rattle.simulation.specs.Steps.{step_rules, rules_at}
use Rattle.simulation.specs.Ride.{verdict_at, step_verdict}
use Rattle.simulation.proofs.Riding.{riding_start, riding_countable, riding_turn, riding_stops, riding_ends}
use Rattle.simulation.proofs.Counting.{cleared}
use Rattle.simulation.proofs.Checking.{step_refused, none_refuses, step_bits, step_row}
use Rattle.simulation.proofs.Parts.{part_inside, step_alike}
use Rattle.simulation.proofs.steps.make_all.Goals as goal

pub loop-i-init : goal.loop-i-init
loop-i-init c =
    let a = c.args in
    let code = a.code.now in
    let σ = steps_in a.steps.now in
    riding_start code.c code.h.now code.cols.now σ (cleared _ c.requires.lent_steps.counts_long (c.fill.ensures.after (λ y e. e)))

pub returns-in_err-row : goal.returns-in_err-row
unfolding rules_at
returns-in_err-row c =
    let a = c.args in
    let code = a.code.now in
    let σ = steps_in a.steps.now in
    let l = c.loop-i in
    riding_stops l.invariant _ c.loop-i-test.true
    (step_refused _ _ _ c.in_err-row.ensures
    ∙ ap tested
    (step_alike (λ g l' m. fault (step_rules g l' m)) c.from-gear.ensures c.from-lamp.ensures (part_lent (length code.cols.now) a.steps.now.turned.now l.i)))
    c.from_residual.ensures.1

pub make-verdict-requires : goal.make-verdict-requires
make-verdict-requires c =
    let s = c.requires in
    record {
      code_basis = s.code_basis;
      bits = (
        step_bits _ _ _ c.in_ok-row.ensures,
        length_lent (length c.args.code.now.cols.now) c.args.steps.now.turned.now c.loop-i.i
            (part_inside s.lent_steps (omega (arith, c.loop-i-test.true))),
      );
    }

pub tally-requires : goal.tally-requires
tally-requires c =
    let s = c.requires in
    riding_countable c.loop-i.invariant s.lent_steps.short

pub loop-i-preserved : goal.loop-i-preserved
unfolding rules_at verdict_at
loop-i-preserved c =
    let a = c.args in
    let code = a.code.now in
    let σ = steps_in a.steps.now in
    let n = length code.cols.now in
    let l = c.loop-i in
    let marks = part_lent n a.steps.now.turned.now l.i in
    let checked = c.in_ok-row.ensures in
    let (gear_is, lamp_is) = step_row _ _ _ checked in
    let none = sym (step_alike (λ g l' m. fault (step_rules g l' m)) c.from-gear.ensures c.from-lamp.ensures marks) ∙ none_refuses _ _ _ checked in
    let verdict = step_verdict code.c code.h.now code.cols.now in
    let is = c.make-verdict.ensures ∙ step_alike verdict (gear_is ∙ c.from-gear.ensures) (lamp_is ∙ c.from-lamp.ensures) marks in
    riding_turn l.invariant c.loop-i-test.true none is c.tally.ensures

pub returns : goal.returns
returns c = riding_ends c.loop-i.invariant c.loop-i-test.false
