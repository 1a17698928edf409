-- `faults::is_word` meets its contract: the word of sender p lies inside all words.
use native.Mathlib.Omega.{arith}
use Rattle.algebra.specs.Lists.{entry_of}
use Rattle.algebra.specs.PartLaws.{part_room}
use Rattle.scheduler.proofs.Refusing.{word_waits}
use Rattle.scheduler.proofs.faults.is_word.Goals as goal

pub overflow_mul-start : goal.overflow_mul-start
overflow_mul-start c =
    omega (arith, part_room c.args.n c.requires.0)

pub overflow_add-end : goal.overflow_add-end
overflow_add-end c =
    omega (arith, part_room c.args.n c.requires.0)

pub returns : goal.returns
returns c =
    let a = c.args in
    word_waits (entry_of a.waiting.now a.p) a.n a.words.now a.p c.if-waiting-p-ne1.false c.all_bits.ensures
