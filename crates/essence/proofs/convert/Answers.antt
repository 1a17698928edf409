-- `convert` meets its contract: the tests of the table tell whether the essence is independent.
use mathlib.Core.Path.{refl, sym, ap₂, ◌∙◌}
use mathlib.Core.Bool.{Bool, ◌&&◌}
use mathlib.Core.List.{[]}
use native.Mathlib.Omega.{arith}
use Rattle.algebra.specs.Flags.{both_true}
use Rattle.refusals.specs.RuleLaws.{fault_here, fault_none}
use Rattle.refusals.specs.Ending.{ended_refused, ended_done}
use Rattle.essence.proofs.Shaped.{entries_short}
use Rattle.essence.proofs.Converting.{table_first, table_tells, table_entries, table_inverted}
use Rattle.essence.proofs.convert.Goals as goal

pub store_inverses-requires : goal.store_inverses-requires
store_inverses-requires c =
    let S = c.requires.0 in
    (omega (arith, S.values, S.high), entries_short S)

pub all_different-requires : goal.all_different-requires
all_different-requires c =
    table_first c.requires.0 (c.store_inverses.ensures c.args.m)

pub returns-then-not-no_zero-all_different : goal.returns-then-not-no_zero-all_different
returns-then-not-no_zero-all_different c =
    let tested = ap₂ (λ (x y : Bool). x && y) c.no_zero.ensures c.all_different.ensures in
    let dependent = sym (table_tells c.requires.0 (c.store_inverses.ensures c.args.m)) ∙ sym tested ∙ c.if-not-no_zero-all_different.true in
    ended_refused _ _ _ (sym (fault_here 17 [] dependent)) (λ z. omega arith)

pub invert-requires : goal.invert-requires
invert-requires c =
    let tested = both_true _ _ (c.if-not-no_zero-all_different.false) in (
      table_entries c.requires.0 (c.store_inverses.ensures c.args.m) c.requires.1,
      sym c.no_zero.ensures ∙ tested.0,
    )

pub returns : goal.returns
returns c =
    let stored = c.store_inverses.ensures c.args.m in
    let tested = ap₂ (λ (x y : Bool). x && y) c.no_zero.ensures c.all_different.ensures in
    let independent = sym (table_tells c.requires.0 stored) ∙ sym tested ∙ c.if-not-no_zero-all_different.false in
    ended_done _ _ _ (sym (fault_none _ (independent, tt))) refl
    (table_inverted c.requires.0 stored (c.invert.auto.inverses ∙ c.requires.1) c.invert.ensures)
