-- `elimination::insert` meets its contract. The loop's invariant: the basis is as it was, the row is empty before p, and it says of every solution
-- what it said at first.
use mathlib.Core.Path.{sym, ◌∙◌, subst, subst₂}
use Prim.Native.Nat.{ℕ, ◌+◌}
use borrow.Author.Tests.{eq-eqb, ne_eqb}
use mathlib.Core.List.{List}
use Rattle.algebra.specs.Lists.{entry_of}
use Rattle.basis.specs.Table.{lead_at, Inserted}
use Rattle.basis.proofs.Insertion.{Inserting, inserting_skip, inserting_reduce, inserting_store, inserting_end}
use Rattle.basis.proofs.elimination.insert.Goals.{then-bit-eq1+else-leads-p-ne1, else-bit-eq1}
use Rattle.basis.proofs.elimination.insert.Goals as goal

pub returns-then-leads-p-ne1 : goal.returns-then-leads-p-ne1
unfolding lead_at
returns-then-leads-p-ne1 c =
    let store = c.store in
    let l = c.loop-p in
    let one = sym c.bit.ensures ∙ c.if-bit-eq1.true in
    let free = ne_eqb (entry_of l.leads l.p) 1 c.if-leads-p-ne1.true in
    subst₂ (λ (x y : List ℕ). Inserted c.args.n c.args.row.now x y 1 store.new.rows store.new.leads) l.invariant.0
    l.invariant.1
    (inserting_store l.invariant.2 c.loop-p-test.true one free store.ensures)

pub loop-p-preserved : goal.loop-p-preserved
unfolding lead_at
loop-p-preserved c =
    let l = c.loop-p in
    let test = c.loop-p-test.true in
    let bit = c.bit in (
      l.invariant.0,
      l.invariant.1,
      elim c.if-bit-eq1.branch [
        | then-bit-eq1+else-leads-p-ne1 w ↦
            subst (λ (x : List ℕ). Inserting c.args.n c.args.row.now l.rows l.leads x (l.p + 1)) (sym w.row-is)
            (inserting_reduce l.invariant.2 test (sym bit.ensures ∙ w.if-bit-eq1.true)
            (eq-eqb (entry_of l.leads l.p) 1 w.if-leads-p-ne1.false) w.reduce.ensures)
        | else-bit-eq1 w ↦
            subst (λ (x : List ℕ). Inserting c.args.n c.args.row.now l.rows l.leads x (l.p + 1)) (sym w.row-is)
            (inserting_skip l.invariant.2 test (λ e. w.if-bit-eq1.false (bit.ensures ∙ e)))
      ],
    )

pub returns : goal.returns
returns c =
    let l = c.loop-p in
    subst₂ (λ (x y : List ℕ). Inserted c.args.n c.args.row.now x y 0 l.rows l.leads) l.invariant.0 l.invariant.1
    (inserting_end l.invariant.2 c.loop-p-test.false)
