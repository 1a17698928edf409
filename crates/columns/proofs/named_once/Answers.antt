-- `named_once` meets its contract: it marks each block that it meets, so a block that is marked already is named twice.
use Rattle.columns.proofs.Naming.{naming_start, naming_fails, naming_turn, naming_end}
use Rattle.columns.proofs.named_once.Goals as goal

pub loop-number-init : goal.loop-number-init
loop-number-init c = naming_start c.args.blocks.now

pub returns-then-named-block : goal.returns-then-named-block
returns-then-named-block c =
    naming_fails c.loop-number.invariant c.requires c.loop-number-test.true c.if-named-block.true

pub loop-number-preserved : goal.loop-number-preserved
loop-number-preserved c =
    naming_turn c.loop-number.invariant c.requires c.loop-number-test.true c.if-named-block.false

pub returns : goal.returns
returns c = naming_end c.loop-number.invariant c.loop-number-test.false
