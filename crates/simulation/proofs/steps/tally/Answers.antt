-- `tally` meets its contract, verdict by verdict.
use mathlib.Core.Path.{sym, ap, ◌∙◌}
use Rattle.simulation.specs.declared.Verdict.{Verdict}
use Rattle.simulation.specs.Parts.{tallied}
use Rattle.simulation.proofs.Counting.{right_counted, held_counted, wrong_counted}
use Rattle.simulation.proofs.steps.tally.Goals as goal

pub returns-in-Right : goal.returns-in-Right
returns-in-Right c =
    right_counted c.args.counts.now c.requires.long
    ∙ ap (λ (v : Verdict). tallied v c.args.counts.now) (sym c.in-Right.is)

pub returns-in-Held : goal.returns-in-Held
returns-in-Held c =
    held_counted c.args.counts.now c.requires.long
    ∙ ap (λ (v : Verdict). tallied v c.args.counts.now) (sym c.in-Held.is)

pub returns-in-Wrong : goal.returns-in-Wrong
returns-in-Wrong c =
    wrong_counted c.args.counts.now c.requires.long
    ∙ ap (λ (v : Verdict). tallied v c.args.counts.now) (sym c.in-Wrong.is)
