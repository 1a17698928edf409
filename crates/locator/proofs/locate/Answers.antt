-- `locate` meets its contract. The loop's invariant: the pass after the roots so far.
use native.Mathlib.Omega.{arith}
use lib.ListN.{length-append}
use Rattle.std.proofs.lemmas.Slice.Zip.{zip_turn, zip_end}
use Rattle.locator.proofs.Turns.{passed_none, passed_more, located_second}
use Rattle.locator.proofs.locate.Goals as goal

pub loop-root-init : goal.loop-root-init
loop-root-init c = passed_none c.requires.0 c.args.roots.now c.args.syndrome.now c.start.ensures

pub loop-root-preserved : goal.loop-root-preserved
loop-root-preserved c =
    let (within, _, root, s) =
    zip_turn c.args.roots.now c.args.syndrome.now _ _ _ c.next.new.self _ (cc) (cc) c.loop-root.yielded_by _ c.in-Some.is c.next.ensures.steps in
    simp length-append (passed_more c.requires.0 c.requires.1 c.loop-root.invariant within (root 0) (s 0) c.advance.ensures)

pub returns-then-second-first : goal.returns-then-second-first
returns-then-second-first c =
    let ended = zip_end c.args.roots.now c.args.syndrome.now _ _ _ c.next.new.self _ (cc) (cc) c.loop-root.yielded_by c.in-None.is c.next.ensures.steps in
    located_second c.requires.0 c.args.roots.now (omega (arith, c.requires.2.long)) c.loop-root.invariant c.if-second-first.true
