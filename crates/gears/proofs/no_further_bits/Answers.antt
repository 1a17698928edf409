-- `no_further_bits` meets its contract: the test of the bits after the row's is the test of all bits, of which the row's pass without a look.
use mathlib.Core.Path.{◌≡◌, refl, sym, ap}
use mathlib.Core.Bool.{Bool, false, ◌||◌}
use mathlib.Core.List.{List}
use Prim.Native.Nat.{ℕ, ◌+◌, ◌-◌, ◌<◌, ◌≤◌}
use native.Mathlib.Omega.{arith}
use borrow.Author.Rules.{rules}
use borrow.Author.Tests.{tests, le-ltb, lt-ltb}
use lib.Dec.{eqb, ltb}
use lib.ListN.{length, drop, get_or}
use Rattle.std.proofs.Common.{◌∙◌}
use Rattle.std.proofs.Math.Decide.{dec_lt}
use Rattle.std.proofs.lemmas.List.{length-drop, get_or-drop}
use Rattle.std.proofs.lemmas.Slice.{between_to_end}
use Rattle.std.specs.List.{list_all}
use Rattle.std.proofs.lemmas.Bool.{false≢true}
use Rattle.std.proofs.lemmas.List.Recursion.{and_is}
use Rattle.std.proofs.lemmas.Iterator.{YieldsList-from_slice}
use Rattle.std.proofs.lemmas.Iterator.Search.{all_from_yields_List}
use Rattle.algebra.specs.All.{all}
use Rattle.algebra.specs.AllLaws.{all_is, all_fails}
use Rattle.algebra.specs.Lists.{entry_of}
use Rattle.gears.specs.Rows.{row_bits, further_zero}
use Rattle.gears.proofs.no_further_bits.Goals as goal

module _ (w : List ℕ) (n : ℕ) where
  abbrev passes : ℕ → Bool
  passes j = ltb j n || eqb (entry_of w j) 0

  after : n ≤ length w → list_all (λ x. eqb x 0) (drop n w) ≡ all (length w) passes
  after le =
      sym (and_is (list_all (λ x. eqb x 0)) (λ x. eqb x 0) refl (λ _ _. refl) (drop n w) 0 (all (length w) passes)
      (λ e i l. ap (λ (x : ℕ). eqb x 0) (get_or-drop n w i 0)
      ∙ ap (λ (b : Bool). b || eqb (entry_of w (n + i)) 0) (sym (le-ltb (n + i) n (omega arith)))
      ∙ all_is (length w) passes e (n + i) (omega (arith, length-drop {A = ℕ})))
      (λ e. let (j, l, f) = all_fails (length w) passes e in far j l f (dec_lt j n)))
    where
      far : (j : ℕ) → j < length w → passes j ≡ false → Dec (j < n) → (i : ℕ) × (i < length (drop n w)) × (eqb (get_or (drop n w) i 0) 0 ≡ false)
      far j l f (yes s) = absurd (false≢true (sym f ∙ ap (λ (b : Bool). b || eqb (entry_of w j) 0) (lt-ltb j n s)))
      far j l f (no ns) = (
        j - n,
        omega (arith, length-drop {A = ℕ}),
        ap (λ (x : ℕ). eqb x 0) (get_or-drop n w (j - n) 0) ∙ ap (λ (k : ℕ). eqb (entry_of w k) 0) (omega arith)
            ∙ ap (λ (b : Bool). b || eqb (entry_of w j) 0) (sym (le-ltb j n (omega arith))) ∙ f,
      )

pub returns : goal.returns
unfolding further_zero
returns c =
    let w = c.args.message.now in
    all_from_yields_List (λ x. eqb x 0) _ _ c.all.result c.all.ensures.ran (YieldsList-from_slice (drop row_bits w) (c.iter.ensures.rest ∙ between_to_end w row_bits (length w) (omega arith))) (λ x b q k. search (rules, tests)) ∙ after w row_bits c.requires
