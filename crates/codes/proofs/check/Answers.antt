-- `check` meets its contract: it refuses by the code's number, or stores the roots and the support.
use mathlib.Core.Path.{sym, ap, ◌∙◌}
use Prim.Native.Nat.{ℕ}
use native.Mathlib.Nat.{le_of_eq}
use lib.ListN.{length}
use Rattle.algebra.specs.Lists.{entry_of}
use Rattle.algebra.specs.Tabulate.{tabulate}
use Rattle.refusals.specs.RuleLaws.{refuse, given}
use Rattle.refusals.specs.Outcome.{Refused}
use Rattle.field.specs.Gf.{gf}
use Rattle.signature.specs.Signature.{root_at, support_at}
use Rattle.shortened.proofs.BegunLaws.{begun_due, begun_none, of_begun}
use Rattle.codes.specs.Answers.{check_fault, check_answer, roots_after, support_after}
use Rattle.codes.proofs.Checked.{at_code, checked}
use Rattle.codes.proofs.check.Goals as goal

pub returns-in-Err : goal.returns-in-Err
unfolding check_fault check_answer roots_after support_after
returns-in-Err c =
    let a = c.args in
    let begun = at_code c.whole_code-s.ensures c.begin.ensures in
    let (number, due) = begun_due begun c.in-Err.is in
    record {
      value = refuse Refused _ number due;
      roots_after = refuse (λ k. a.roots.now) _ number due;
      support_after = refuse (λ k. a.support.now) _ number due;
    }

pub roots-requires : goal.roots-requires
unfolding check_fault
roots-requires c =
    let a = c.args in
    let begun = at_code c.whole_code-s.ensures c.begin.ensures in
    let (r, s, A) = checked a.c a.h.now a.hidden.now a.roots.now a.support.now (begun_none begun c.in-Ok.is) in
    le_of_eq (r ∙ sym (of_begun begun c.in-Ok.is (λ c h cols. c.n)))

pub support-requires : goal.support-requires
unfolding check_fault
support-requires c =
    let a = c.args in
    let begun = at_code c.whole_code-s.ensures c.begin.ensures in
    let (r, s, A) = checked a.c a.h.now a.hidden.now a.roots.now a.support.now (begun_none begun c.in-Ok.is) in
    le_of_eq (s ∙ sym (of_begun begun c.in-Ok.is (λ c h cols. c.n)))

pub returns-in-Ok : goal.returns-in-Ok
unfolding check_fault check_answer roots_after support_after
returns-in-Ok c =
    let a = c.args in
    let begun = at_code c.whole_code-s.ensures c.begin.ensures in
    let none = begun_none begun c.in-Ok.is in
    let (r, s, A) = checked a.c a.h.now a.hidden.now a.roots.now a.support.now none in
    record {
      value = sym (given Refused _ none);
      roots_after = c.roots.ensures
          ∙ of_begun begun c.in-Ok.is (λ c h cols. tabulate (length a.roots.now) (root_at (gf c.m) c.omega (entry_of h)))
          ∙ ap (λ (k : ℕ). tabulate k (root_at (gf a.c.m) a.c.omega (entry_of a.h.now))) r
          ∙ sym (given (λ k. a.roots.now) _ none);
      support_after = c.support.ensures
          ∙ of_begun begun c.in-Ok.is (λ c h cols. tabulate (length a.support.now) (support_at (gf c.m) c.omega (entry_of h)))
          ∙ ap (λ (k : ℕ). tabulate k (support_at (gf a.c.m) a.c.omega (entry_of a.h.now))) s
          ∙ sym (given (λ k. a.support.now) _ none);
    }
