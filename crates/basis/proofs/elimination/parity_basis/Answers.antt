-- `elimination::parity_basis` meets its contract. The loop's invariant: the rows brought in so far have the basis's solutions.
use mathlib.Core.Path.{refl, sym, ap, ◌∙◌, subst}
use mathlib.Core.List.{List}
use Prim.Native.Nat.{ℕ, ◌≤◌, ◌<◌}
use native.Mathlib.Omega.{arith}
use borrow.Author.Rules.{rules}
use lib.ListN.{length}
use Rattle.std.proofs.lemmas.List.{get_or-replicate}
use Rattle.algebra.specs.Lists.{entry_of}
use Rattle.basis.proofs.Eliminating.{eliminating_start, eliminating_turn, eliminating_end, eliminating_full}
use Rattle.basis.proofs.Eliminating.{rank_short}
use Rattle.basis.proofs.elimination.parity_basis.Goals as goal

pub loop-k-init : goal.loop-k-init
loop-k-init c =
    let empty = c.fill.ensures.after (search rules) in
    let R = c.requires.2 in (
      refl,
      eliminating_start c.args.m c.args.t c.args.h.now c.args.cols.now
          (record {
            short = R.short;
            rows_long = R.rows_long;
            leads_long = subst (λ (k : ℕ). length c.args.cols.now ≤ k) (sym c.fill.ensures.len) R.leads_long;
          })
          (λ p l.
          ap (λ (x : List ℕ). entry_of x p) empty
          ∙ get_or-replicate (length c.args.leads.now) p 0 0 (subst (λ (k : ℕ). p < k) c.fill.ensures.len l)),
    )

pub overflow_add-rank : goal.overflow_add-rank
overflow_add-rank c =
    omega (
      arith,
      rank_short
          c.loop-k.invariant.1
          c.insert-rank.ensures,
    )

pub loop-k-preserved : goal.loop-k-preserved
loop-k-preserved c =
    let insert = c.insert-rank in
    let row = c.parity_row in
    let l = c.loop-k in (
      insert.auto.row ∙ row.auto.row ∙ l.invariant.0,
      eliminating_turn l.invariant.1 c.loop-k-test.true row.ensures insert.ensures,
    )

pub returns-after-loop-k : goal.returns-after-loop-k
returns-after-loop-k c =
    eliminating_end c.loop-k.invariant.1 (omega (arith, c.requires.0.low)) c.loop-k-test.false

pub returns-then-cols-rank : goal.returns-then-cols-rank
returns-then-cols-rank c =
    eliminating_full c.loop-k.invariant.1 (omega (arith, c.requires.0.low)) c.if-cols-rank.true
