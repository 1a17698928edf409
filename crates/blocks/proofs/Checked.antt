-- How a test goes on after its sizes, and what is known once all its rules have held.
use mathlib.Core.Path.{◌≡◌, ◌∙◌}
use mathlib.Core.List.{List, ◌++◌}
use Prim.Native.Nat.{ℕ, ◌^◌, ◌<◌}
use lib.ListN.{length}
use borrow.Author.Tests.{eqb-true}
use Rattle.algebra.specs.Lists.{entry}
use Rattle.algebra.specs.SumLaws.{in_sum}
use Rattle.refusals.specs.Rules.{Rule, fault}
use Rattle.refusals.specs.RuleLaws.{fault_rest, hold}
use Rattle.refusals.specs.Outcome.{Done, tested}
use Rattle.refusals.specs.Testing.{tested_none}
use Rattle.field.specs.Gf.{Width, gf}
use Rattle.field.proofs.GfLaws.{gf_laws}
use Rattle.field.specs.RangeLaws.{width_is}
use Rattle.slices.specs.LengthLaws.{power_is, power_short}
use Rattle.slices.specs.Elements.{Elements}
use Rattle.slices.specs.ElementLaws.{elements_are}
use Rattle.dyadic.specs.Block.{total}
use Rattle.blocks.specs.Answers.{size_rules, size_fault, block_rules, block_fault, pair_rules, pair_fault}
use Rattle.dyadic.specs.Callers.{Factors}

-- where the sizes are passed the rules after them decide
pub size_passed : (m s n : ℕ) (more : List Rule) → Done ≡ tested (size_fault m s n) → {k : ℕ} → fault more ≡ k → fault (size_rules m s n ++ more) ≡ k
unfolding size_fault size_rules
size_passed m s n more is f = fault_rest (size_rules m s n) more tt (tested_none is) ∙ f

pub width_checked : (m s n : ℕ) → Done ≡ tested (size_fault m s n) → Width m
unfolding size_fault size_rules
width_checked m s n is = width_is m (hold (size_rules m s n) tt (tested_none is)).0

-- a block, and the length n of the buffer for a result
pub record Block (m : ℕ) (a : List ℕ) (n : ℕ) : Type 0 where
  pub width : Width m
  pub elements : Elements m a
  pub room : n ≡ length a

pub block_checked : (m : ℕ) (a : List ℕ) (n : ℕ) → Done ≡ tested (block_fault m a n) → Block m a n
unfolding block_fault block_rules size_rules
block_checked m a n is =
    let h = hold (block_rules m a n) tt (tested_none is) in
    record { width = width_is m h.0; elements = (elements_are m a).0 h.1.1.1.0; room = eqb-true n (length a) h.1.1.0 }

-- the sum of its elements is an element
pub total_checked : {m : ℕ} {a : List ℕ} {n : ℕ} → Block m a n → total (gf m) a < 2 ^ m
unfolding total
total_checked {m} {a} h = in_sum (gf m) (gf_laws m h.width) (length a) (entry (gf m) a) h.elements

pub pair_checked : (m : ℕ) (a b out : List ℕ) → Done ≡ tested (pair_fault m a b (length out)) → Factors m a b out
unfolding pair_fault pair_rules size_rules
pair_checked m a b out is =
    let h = hold (pair_rules m a b (length out)) tt (tested_none is) in
    let p = power_is (length a) h.1.0 in
    record {
      width = width_is m h.0;
      log = p.0;
      length_a = p.2;
      short = power_short (length a) p.0 p.1 p.2;
      length_b = eqb-true (length b) (length a) h.1.1.1.0 ∙ p.2;
      length_out = eqb-true (length out) (length a) h.1.1.0 ∙ p.2;
      elements_a = (elements_are m a).0 h.1.1.1.1.0;
      elements_b = (elements_are m b).0 h.1.1.1.1.1.0;
    }
