-- `dismiss` meets its contract, sender by sender.
use mathlib.Core.Path.{refl}
use lib.ListN.{length}
use Rattle.algebra.specs.Filling.{filling_start, filling_end}
use Rattle.algebra.specs.Flags.{found_false, found_true}
use Rattle.scheduler.proofs.Handing.{kept_mark, dismissed, kept, filling_as}
use Rattle.scheduler.proofs.rounds.dismiss.Goals.{then-not-stays, else-not-stays}
use Rattle.scheduler.proofs.rounds.dismiss.Goals as goal

pub loop-p-init : goal.loop-p-init
loop-p-init c =
    let w = c.args.waiting.now in filling_start (kept_mark c.args.marks.now w) (length w) w refl

pub loop-p-preserved : goal.loop-p-preserved
loop-p-preserved c =
    let marks = c.args.marks.now in
    let F = c.loop-p.invariant in
    elim c.if-not-stays.branch [
      | then-not-stays w ↦ filling_as w.waiting-is (dismissed marks F c.loop-p-test.true (found_false c.stays.ensures w.if-not-stays.true))
      | else-not-stays w ↦ filling_as w.waiting-is (kept marks F c.loop-p-test.true (found_true c.stays.ensures w.if-not-stays.false))
    ]

pub returns : goal.returns
returns c = filling_end c.loop-p.invariant c.loop-p-test.false
