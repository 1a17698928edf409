-- `faults::are_words` meets its contract: it tests the senders.
use mathlib.Core.Path.{◌∙◌}
use mathlib.Core.Bool.{not, ◌||◌}
use Prim.Native.Nat.{ℕ}
use native.Mathlib.Omega.{arith}
use borrow.Author.Rules.{rules}
use borrow.Author.Tests.{tests}
use lib.Dec.{eqb}
use lib.ListN.{length}
use Rattle.std.proofs.lemmas.Iterator.{YieldsList-from_range}
use Rattle.std.proofs.lemmas.Iterator.Search.{all_from_yields_List}
use Rattle.algebra.specs.Lists.{entry_of}
use Rattle.algebra.specs.Parts.{part}
use Rattle.slices.specs.Bits.{all_bits}
use Rattle.scheduler.specs.State.{all_words}
use Rattle.slices.proofs.Entries.{tests_below}
use Rattle.scheduler.proofs.faults.are_words.Goals as goal

pub returns : goal.returns
unfolding all_words
returns c =
    let a = c.args in
    let S = length a.waiting.now in
    let word = λ (p : ℕ). not (eqb (entry_of a.waiting.now p) 1) || all_bits (part a.n a.words.now p) in
    all_from_yields_List word _ _ c.all.result c.all.ensures.ran (YieldsList-from_range 0 S S (search rules) (omega arith)) (λ x b q k. search (rules, tests))
    ∙ tests_below S word
