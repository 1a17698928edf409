-- `is_line` meets its contract: it tests the fields, and then looks for the end.
use mathlib.Core.Path.{sym, ap}
use mathlib.Core.Bool.{Bool, ◌&&◌}
use Prim.Native.Nat.{ℕ, ◌+◌, ◌*◌}
use native.Mathlib.Omega.{arith}
use borrow.Author.Rules.{rules}
use borrow.Author.Tests.{tests}
use lib.Dec.{eqb}
use Rattle.std.proofs.Common.{◌∙◌}
use Rattle.std.proofs.lemmas.Iterator.{YieldsList-from_range}
use Rattle.std.proofs.lemmas.Iterator.Search.{all_from_yields_List}
use Rattle.algebra.specs.Lists.{entry_of}
use Rattle.fields.specs.Fields.{field_width, line_end, is_number, is_line}
use Rattle.slices.proofs.Entries.{tests_below}
use Rattle.fields.proofs.is_line.Goals as goal

pub returns-then-all : goal.returns-then-all
unfolding is_line
returns-then-all c =
    let a = c.args in
    let fields = λ (k : ℕ). is_number a.text.now (a.at + k * field_width) in
    let e = all_from_yields_List fields _ _ c.all.result c.all.ensures.ran (YieldsList-from_range 0 a.count a.count (search rules) (omega arith)) (λ x b q k. search (rules, tests)) in
    ap (λ (b : Bool). b && eqb (entry_of a.text.now (a.at + a.count * field_width)) line_end) (sym c.if-all.true ∙ e ∙ tests_below a.count fields)

pub returns-else-all : goal.returns-else-all
unfolding is_line
returns-else-all c =
    let a = c.args in
    let fields = λ (k : ℕ). is_number a.text.now (a.at + k * field_width) in
    let e = all_from_yields_List fields _ _ c.all.result c.all.ensures.ran (YieldsList-from_range 0 a.count a.count (search rules) (omega arith)) (λ x b q k. search (rules, tests)) in
    c.if-all.false
    ∙ ap (λ (b : Bool). b && eqb (entry_of a.text.now (a.at + a.count * field_width)) line_end) (sym c.if-all.false ∙ e ∙ tests_below a.count fields)
