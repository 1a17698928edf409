-- How the call ends: what a text reads as after the evaluators went through it, and this put together with the tests of the blocks.
use mathlib.Core.Path.{◌≡◌, refl, sym, ap, subst, ◌∙◌}
use mathlib.Core.Logic.{◌≢◌}
use mathlib.Core.Bool.{Bool, true, false, true≢false}
use mathlib.Core.List.{List, [], ◌∷◌, ◌++◌, append-nil}
use Prim.Native.Nat.{ℕ, ◌<◌, ◌≤◌}
use native.Mathlib.Nat.{le_of_eq}
use native.Mathlib.Omega.{arith}
use lib.Dec.{eqb}
use lib.ListN.{length, drop_of_length-le}
use borrow.Author.Tests.{eqb-true, eq-eqb}
use Rattle.std.specs.Result.{IsErrAnd}
use Rattle.refusals.specs.Outcome.{Outcome, Done, Refused, tested}
use Rattle.refusals.specs.Testing.{refuses, tested_none, tested_due, handed_on, first_passed_on}
use Rattle.refusals.specs.Rules.{◌unless◌, fault, unless_refused}
use Rattle.refusals.specs.RuleLaws.{fault_here, refuse, given}
use Rattle.refusals.specs.Ending.{first_refuses, second_decides}
use Rattle.formula.specs.declared.evaluators.Cursor.{Cursor}
use Rattle.formula.specs.Letters.{Lent}
use Rattle.formula.specs.Grammar.{sum_text}
use Rattle.formula.specs.Reading.{longest_text, deepest, Reads, formula, none, IsReading}
use Rattle.formula.specs.Answers.{lent_rules, lent_fault, reading_rules, reading_block, formula_rules, formula_fault}
use Rattle.formula.specs.Answers.{formula_answer, formula_after, Answered}
use Rattle.formula.proofs.Deciding.{no_reading, decided}
use Rattle.std.specs.Prelude.{Some, None}
use Rattle.formula.specs.Evaluated.{Found, sums, Held, Finds, Worked}
use Rattle.formula.proofs.Refusing.{no_more}
use Rattle.formula.proofs.Found.{found_read, found_none}

-- ---- the text

module _ {m : ℕ} {β : Lent} {text : List ℕ} where
  no_formula : {value : List ℕ} → IsReading β text none → Worked m text β (Refused 16) value
  unfolding reading_rules
  no_formula right = record { reading = none; right = right; due = refuses (sym (fault_here 16 _ refl)); worth = λ z. cc }

  pub too_long : {value : List ℕ} → longest_text < length text → Worked m text β (Refused 16) value
  too_long l =
      no_formula (λ x reads. absurd (omega (arith, reads.short)))

  module _ {new : List ℕ} {r : Found} (f : Finds sums sums m β deepest text (record { at = 0; exists = true }) new r) where
    pub nothing_read : {value : List ℕ} → r ≡ None → Worked m text β (Refused 16) value
    nothing_read z = no_formula (no_reading β text (found_none f z []))

    -- a formula was read up to `to`: the number that is then due is the one of the reading
    module _ {to : Cursor} (z : r ≡ Some to) (short : length text ≤ longest_text) where
      abbrev held : Held sums m β deepest text (record { at = 0; exists = true }) to new
      held = (found_read f z).0

      reads : to.at ≡ length text → Reads β text held.tree
      reads all =
          record {
            written =
                sym (held.spans ∙ ap (λ (l : List ℕ). sum_text held.tree ++ l) (drop_of_length-le text (le_of_eq (sym all)))
                ∙ append-nil (sum_text held.tree));
            short = short;
            within = held.within;
          }

      pub worked : {o : Outcome} → o ≡ tested (fault ((16 unless eqb to.at (length text)) ∷ (9 unless to.exists) ∷ [])) → Worked m text β o new
      unfolding reading_rules reading_block
      worked {o} e = by (eqb to.at (length text)) refl e
        where
          less : to.at ≢ length text → to.at < length text
          less ne = omega (arith, held.inside)

          by : (b : Bool) → eqb to.at (length text) ≡ b → o ≡ tested (fault ((16 unless b) ∷ (9 unless to.exists) ∷ [])) → Worked m text β o new
          by true all e =
              record {
                reading = formula held.tree;
                right = reads (eqb-true to.at (length text) all);
                due = e ∙ ap (λ (x : Bool). tested (fault ((16 unless true) ∷ (9 unless x) ∷ []))) held.living;
                worth = λ q. held.worth;
              }
          by false more e =
              subst (λ (o : Outcome). Worked m text β o new) (refuses (sym (fault_here 16 _ refl)) ∙ sym e)
              (no_formula
              (no_reading β text
              (no_more m β text deepest held (found_read f z).1 (less (λ q. true≢false (sym (eq-eqb to.at (length text) q) ∙ more))))))

-- ---- the call

module _ (m : ℕ) (text : List ℕ) (β : Lent) (out : List ℕ) where
  -- the blocks refuse
  pub lent_refuses : {i : ℕ} (r : Outcome) → Refused i ≡ tested (lent_fault m β (length out)) → IsErrAnd r (λ y. y ≡ i) → Answered m text β out r out
  unfolding formula_answer formula_after formula_fault formula_rules lent_fault
  lent_refuses r is e =
      let (reading, right) = decided β text in
      let rules = lent_rules m β (length out) in
      let more = reading_rules m β reading in
      let (ne, due) = tested_due is in
      record {
        reading = reading;
        right = right;
        answer = first_passed_on rules more r Done is e;
        buffer = first_refuses rules more (λ k. out) (reading_block m β reading) due ne;
      }

  -- they do not, and the text is looked at
  module _ (passed : Done ≡ tested (lent_fault m β (length out))) {o : Outcome} {value : List ℕ} (w : Worked m text β o value) where
    text_decides : {r : Outcome} {new : List ℕ} → r ≡ tested (fault (reading_rules m β w.reading))
        → new ≡ unless_refused (fault (reading_rules m β w.reading)) (λ k. out) (reading_block m β w.reading) → Answered m text β out r new
    unfolding formula_answer formula_after formula_fault formula_rules lent_fault lent_rules
    text_decides e e' =
        let rules = lent_rules m β (length out) in
        let more = reading_rules m β w.reading in
        let none = tested_none passed in
        record {
          reading = w.reading;
          right = w.right;
          answer = second_decides rules more Refused Done tt none e;
          buffer = second_decides rules more (λ k. out) (reading_block m β w.reading) tt none e';
        }

    pub text_refuses : {i : ℕ} (r : Outcome) → o ≡ Refused i → IsErrAnd r (λ y. y ≡ i) → Answered m text β out r out
    text_refuses r z e =
        let (ne, due) = tested_due (sym z ∙ w.due) in
        text_decides (handed_on r e ∙ sym z ∙ w.due) (refuse (λ k. out) (reading_block m β w.reading) due ne)

    pub text_done : o ≡ Done → {new : List ℕ} → new ≡ value → Answered m text β out Done new
    text_done z copied =
        let due = sym z ∙ w.due in
        text_decides due (copied ∙ w.worth z ∙ sym (given (λ k. out) (reading_block m β w.reading) (tested_none due)))
