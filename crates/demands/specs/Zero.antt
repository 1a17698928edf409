-- "Card checking and block inverses must look for zero themselves and still answer 4 and 9 as before. Number 4 is thereby left to cards".
--
-- That the inverse of the element 0 is 0 stands in `Field`, that a block refused by 9 has no inverse in `Demand2`, the 9 of formulas in `Formula`.
use Rattle.std.specs.Prelude.{◌≡◌, refl, ◌≢◌, ◌↔◌, Bool, true, false, not, ◌&&◌, List, [], ◌∷◌, ◌++◌, ℕ, ◌<◌, T, eqb, length}
use Rattle.std.proofs.Common.{sym, ap, ◌∙◌, arith, eqb-true, eq-eqb}
use Rattle.std.proofs.lemmas.Bool.{not-false}
use Rattle.algebra.specs.AllLaws.{all-false, all_fails}
use Rattle.algebra.specs.Distinct.{distinct}
use Rattle.algebra.specs.Lists.{entry_of}
use Rattle.refusals.specs.Answered.{refused_due, done_apart, same_outcome}
use Rattle.refusals.specs.Outcome.{Outcome}
use Rattle.refusals.specs.Outcome.{Done, Refused}
use Rattle.refusals.specs.RuleLaws.{refuse}
use Rattle.refusals.specs.Rules.{Rule, ◌unless◌, Hold, fault, numbered, unless_refused}
use Rattle.field.specs.Found.{Refused as NoElement}
use Rattle.field.specs.Answers.{element_rules, sum_answer, product_answer, inverse_answer}
use Rattle.field.specs.Gf.{gf}
use Rattle.dyadic.specs.Block.{total}
use Rattle.dyadic.specs.Invertible.{is_invertible}
use Rattle.blocks.specs.Answers.{size_rules, block_rules, pair_rules, inverse_rules, inverse_fault as blockInverseFault}
use Rattle.blocks.specs.Answers.{sum_answer as blockSumAnswer, product_answer as blockProductAnswer, inverse_answer as blockInverseAnswer}
use Rattle.formula.specs.Letters.{Lent}
use Rattle.formula.specs.Answers.{Answered, lent_rules, reading_rules, formula_rules, formula_fault, formula_answer}
use Rattle.signature.specs.Tests.{signature_rules, nonzero, no_zero, linear}
use Rattle.params.specs.declared.Parameters.{Parameters}
use Rattle.params.specs.Code.{shape_rules, is_root_count, code_rules}
use Rattle.essence.specs.Answers.{shape_rules as essenceShapeRules, essence_rules, essence_fault, essence_answer, value_rules, signature_answer}
use Rattle.columns.specs.Choice.{Choice.whole_code, all_columns, choice_rules}
use Rattle.shortened.specs.Marks.{mark_rules}
use Rattle.shortened.specs.Setting.{setting_rules}
use Rattle.codes.specs.Answers.{check_fault, check_answer}
use Rattle.demands.specs.Demand1.{field_sum_refuses, field_product_refuses, field_inverse_refuses}
use Rattle.demands.specs.Demand1.{block_sum_refuses, block_product_refuses, block_inverse_refuses, signature_refuses}
use Rattle.demands.specs.Lowest.{lacks, fault-lacks, fault_exactly, not_lowest}

-- a refusal by a number that a single rule of the call has: exactly where the rules before that one hold and it does not
pub refused_exactly : (rules : List Rule) (k : ℕ) (t : Bool) (more : List Rule) → T (numbered rules) → k ≢ 0
    → lacks k rules ≡ true → lacks k more ≡ true
    → (unless_refused (fault (rules ++ (k unless t) ∷ more)) Refused Done ≡ Refused k) ↔ (Hold rules × (t ≡ false))
refused_exactly rules k t more are ne before after =
    let exactly = fault_exactly rules k t more are ne before after in (
      λ e. exactly.0 (refused_due Refused Done done_apart same_outcome _ e).1,
      λ h. sym (refuse Refused Done (sym (exactly.1 h)) ne),
    )

-- ---- codes

-- the test of 4 fails exactly if an entry is zero
zero_entry : (h : List ℕ) → (no_zero h ≡ false) ↔ ((i : ℕ) × (i < length h) × (entry_of h i ≡ 0))
unfolding no_zero nonzero
zero_entry h = (
  λ f.
      let (i, l, zero) = all_fails (length h) (nonzero h) f in (i, l, eqb-true (entry_of h i) 0 (not-false (eqb (entry_of h i) 0) zero)),
  λ z.
      let (i, l, zero) = z in all-false (length h) (nonzero h) i l (ap not (eq-eqb (entry_of h i) 0 zero)),
)

-- a code is refused by 4 exactly if nothing from 1 to 3 is wrong with it, with the length of its marks and with the lent buffers, and an entry of its
-- signature is zero; whatever the marks hold
pub check_4_exactly : (c : Parameters) (h hidden roots support : List ℕ)
    → (check_answer c h hidden roots support ≡ Refused 4)
    ↔ (Hold (shape_rules (eqb (length roots) c.n && eqb (length support) c.n && eqb (length hidden) c.n) c h)
    × ((i : ℕ) × (i < length h) × (entry_of h i ≡ 0)))
unfolding check_answer check_fault setting_rules choice_rules code_rules shape_rules signature_rules mark_rules
check_4_exactly c h hidden roots support =
    (λ e. ((exactly.0 e).0, (zero_entry h).0 (exactly.0 e).1), λ z. exactly.1 (z.0, (zero_entry h).1 z.1))
  where
    lengths : Bool
    lengths = eqb (length roots) c.n && eqb (length support) c.n && eqb (length hidden) c.n

    exactly : (check_answer c h hidden roots support ≡ Refused 4) ↔ (Hold (shape_rules lengths c h) × (no_zero h ≡ false))
    exactly =
        let marks = mark_rules c h (all_columns c whole_code) hidden true in
        refused_exactly (shape_rules lengths c h) 4 (no_zero h)
        ((5 unless linear c.m h) ∷ (6 unless distinct h) ∷ (7 unless is_root_count c.n c.t) ∷ marks) tt (λ z. omega arith) refl refl

-- ---- signatures

-- the essence of a signature is refused by 4 exactly if nothing from 1 to 3 is wrong with it and with the lent buffer, and an entry of it is zero
pub essence_4_exactly : (m : ℕ) (h out : List ℕ)
    → (essence_answer m h out ≡ Refused 4)
    ↔ (Hold (essenceShapeRules m h (length h) (length out)) × ((i : ℕ) × (i < length h) × (entry_of h i ≡ 0)))
unfolding essence_answer essence_fault essence_rules essenceShapeRules signature_rules
essence_4_exactly m h out =
    let exactly =
    refused_exactly (essenceShapeRules m h (length h) (length out)) 4 (no_zero h) ((5 unless linear m h) ∷ (6 unless distinct h) ∷ []) tt
    (λ z. omega arith) refl refl in
    (λ e. ((exactly.0 e).0, (zero_entry h).0 (exactly.0 e).1), λ z. exactly.1 (z.0, (zero_entry h).1 z.1))

-- ---- blocks

-- the inverse of a block is refused by 9 exactly if nothing from 1 to 3 is wrong with it and with the lent buffer, and its elements sum to zero
pub block_inverse_9_exactly : (m : ℕ) (a out : List ℕ)
    → (blockInverseAnswer m a out ≡ Refused 9) ↔ (Hold (block_rules m a (length out)) × (total (gf m) a ≡ 0))
unfolding blockInverseAnswer blockInverseFault inverse_rules block_rules size_rules is_invertible
block_inverse_9_exactly m a out =
    let exactly = refused_exactly (block_rules m a (length out)) 9 (is_invertible m a) [] tt (λ z. omega arith) refl refl in (
      λ e.
          let (held, dead) = exactly.0 e in (held, eqb-true (total (gf m) a) 0 (not-false (eqb (total (gf m) a) 0) dead)),
      λ z. exactly.1 (z.0, ap not (eq-eqb (total (gf m) a) 0 z.1)),
    )

-- ---- "Number 4 is thereby left to cards": no call without a signature gives it

pub field_sum_never_4 : (m a b : ℕ) → sum_answer m a b ≢ NoElement 4
unfolding element_rules
field_sum_never_4 m a b e = not_lowest ((field_sum_refuses m a b).2 4 e) refl

pub field_product_never_4 : (m a b : ℕ) → product_answer m a b ≢ NoElement 4
unfolding element_rules
field_product_never_4 m a b e = not_lowest ((field_product_refuses m a b).2 4 e) refl

pub field_inverse_never_4 : (m a : ℕ) → inverse_answer m a ≢ NoElement 4
unfolding element_rules
field_inverse_never_4 m a e = not_lowest ((field_inverse_refuses m a).2 4 e) refl

pub block_sum_never_4 : (m : ℕ) (a b out : List ℕ) → blockSumAnswer m a b out ≢ Refused 4
unfolding pair_rules size_rules
block_sum_never_4 m a b out e = not_lowest ((block_sum_refuses m a b out).2 4 e) refl

pub block_product_never_4 : (m : ℕ) (a b out : List ℕ) → blockProductAnswer m a b out ≢ Refused 4
unfolding pair_rules size_rules
block_product_never_4 m a b out e = not_lowest ((block_product_refuses m a b out).2 4 e) refl

pub block_inverse_never_4 : (m : ℕ) (a out : List ℕ) → blockInverseAnswer m a out ≢ Refused 4
unfolding inverse_rules block_rules size_rules
block_inverse_never_4 m a out e = not_lowest ((block_inverse_refuses m a out).2 4 e) refl

pub signature_never_4 : (m : ℕ) (v out : List ℕ) → signature_answer m v out ≢ Refused 4
unfolding value_rules essenceShapeRules
signature_never_4 m v out e = not_lowest ((signature_refuses m v out).2 4 e) refl

pub formula_never_4 : {m : ℕ} {text : List ℕ} {β : Lent} {out new : List ℕ} {r : Outcome} → Answered m text β out r new → r ≢ Refused 4
unfolding formula_answer formula_fault formula_rules lent_rules reading_rules
formula_never_4 {m} {text} {β} {out} C e =
    fault-lacks 4 (formula_rules m β C.reading (length out)) (λ z. omega arith) refl
    (refused_due Refused Done done_apart same_outcome _ (sym C.answer ∙ e)).1
