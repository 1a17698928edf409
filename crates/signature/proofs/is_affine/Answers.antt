-- `is_affine` meets its contract. The loops' invariants: the rule holds at every pair passed, in the rows before i and in row i before j.
use mathlib.Core.Path.{refl, sym, ap, ◌∙◌}
use Prim.Native.Nat.{ℕ}
use native.Mathlib.Omega.{arith}
use Rattle.algebra.specs.All.{all}
use Rattle.algebra.specs.Scanning.{scanning_start, scanning_turn, scanning_end}
use Rattle.algebra.specs.Xor.{◌⊕◌}
use Rattle.signature.specs.Tests.{pair_kept, affine}
use Rattle.algebra.specs.Lists.{entry_of}
use Rattle.signature.proofs.Scan.{index_below, pair_kept_lem, pair_broken}
use Rattle.signature.proofs.is_affine.Goals as goal

pub scan-init : goal.scan-init
scan-init c =
    let f : ℕ → ℕ = entry_of c.args.inverses.now in
    (refl, scanning_start c.args.n (λ k. all c.args.n (pair_kept f k)))

pub loop-j-init : goal.loop-j-init
unfolding ◌⊕◌
loop-j-init c = (c.scan.invariant.0, refl, scanning_start c.args.n (pair_kept (entry_of c.args.inverses.now) c.scan.i))

pub bounds-inverses-i-in-loop-j : goal.bounds-inverses-i-in-loop-j
unfolding ◌⊕◌
bounds-inverses-i-in-loop-j c =
    let n = c.args.n in
    omega (
      arith,
      index_below n c.scan.i c.loop-j.j c.requires.0 c.scan-test.true
          c.loop-j-test.true,
    )

pub loop-j-preserved : goal.loop-j-preserved
unfolding ◌⊕◌
loop-j-preserved c =
    let l = c.loop-j in
    let f : ℕ → ℕ = entry_of c.args.inverses.now in (
      l.invariant.0,
      l.invariant.1,
      scanning_turn l.invariant.2 c.loop-j-test.true
          (pair_kept_lem f c.scan.i l.j (c.if-at-expected.false ∙ ap (λ (x : ℕ). f l.j ⊕ x) l.invariant.1)),
    )

pub scan-preserved : goal.scan-preserved
scan-preserved c =
    let l = c.loop-j in
    (l.invariant.0, scanning_turn c.scan.invariant.1 c.scan-test.true (sym (scanning_end l.invariant.2 (omega arith))))

pub returns-after-scan : goal.returns-after-scan
unfolding affine
returns-after-scan c = c.scan.invariant.0 ∙ scanning_end c.scan.invariant.1 (omega arith)

pub returns-then-at-expected : goal.returns-then-at-expected
unfolding ◌⊕◌
returns-then-at-expected c =
    let l = c.loop-j in
    let f : ℕ → ℕ = entry_of c.args.inverses.now in
    sym
    (pair_broken f c.args.n c.scan.i l.j c.scan-test.true
    c.loop-j-test.true (λ e. c.if-at-expected.true (e ∙ ap (λ (x : ℕ). f l.j ⊕ x) (sym l.invariant.1))))
