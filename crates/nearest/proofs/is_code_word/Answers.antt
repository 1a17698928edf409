-- `is_code_word` meets its contract: it tests the rows.
use mathlib.Core.Path.{refl, ap, ◌∙◌}
use Prim.Native.Nat.{ℕ}
use native.Mathlib.Omega.{arith}
use borrow.Author.Rules.{rules}
use borrow.Author.Tests.{tests}
use lib.Dec.{eqb}
use Rattle.std.proofs.iter.Serving.{serving}
use Rattle.std.proofs.lemmas.Iterator.{YieldsList-from_range}
use Rattle.std.proofs.lemmas.Iterator.Search.{all_from_yields_List}
use Rattle.algebra.specs.AllLaws.{all_cong}
use Rattle.parity.specs.Parity.{signature_sum}
use Rattle.parity.specs.Word.{is_code_word}
use Rattle.parity.proofs.OfCode.{summed, rows_reach, sum_is}
use Rattle.slices.proofs.Entries.{tests_below}
use Rattle.nearest.proofs.is_code_word.Goals as goal

pub all-requires-clause-callable : goal.all-requires-clause-callable
all-requires-clause-callable c =
    let (O, bits) = c.requires in
    let S = summed O bits in
    let reach = rows_reach O refl in
    grind (serving, S, reach)

pub returns : goal.returns
unfolding is_code_word
returns c =
    let a = c.args in
    let O = c.requires.0 in
    let row = λ (i : ℕ). eqb (signature_sum a.c.m a.h.now a.cols.now a.word.now i) 0 in
    all_from_yields_List row _ _ c.all.result c.all.ensures.ran (YieldsList-from_range 0 a.c.t a.c.t (search rules) (omega arith))
    (λ x b q k. search (rules, tests))
    ∙ tests_below a.c.t row
    ∙ all_cong a.c.t (λ i l. ap (λ (x : ℕ). eqb x 0) (sum_is O a.word.now i l))
