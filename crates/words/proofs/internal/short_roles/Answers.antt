-- `internal::short_roles` meets its contract: what refuses the marks, or the roles; k of all columns is more by the hidden places.
use mathlib.Core.Path.{◌≡◌, sym, ap, ◌∙◌}
use mathlib.Core.Bool.{true}
use mathlib.Core.List.{List}
use Prim.Native.Nat.{ℕ, ◌+◌, ◌-◌, ◌≤◌}
use native.Mathlib.Omega.{arith}
use lib.ListN.{length}
use Rattle.refusals.specs.Counted.{Count}
use Rattle.refusals.specs.Rules.{fault}
use Rattle.refusals.specs.RuleLaws.{refuse, given}
use Rattle.refusals.specs.Testing.{tested_none, tested_due, passed_on, went_on}
use Rattle.slices.specs.Lengths.{longest}
use Rattle.params.specs.declared.Parameters.{Parameters}
use Rattle.parity.specs.Columns.{dimension}
use Rattle.parity.specs.Selected.{OnColumns, columns_short}
use Rattle.shortened.specs.Marks.{sent_count, sent_dimension, mark_rules}
use Rattle.shortened.specs.MarkLaws.{sent_le}
use Rattle.shortened.proofs.SettingLaws.{marked}
use Rattle.shortened.specs.ShortCode.{dimension-hidden}
use Rattle.words.proofs.internal.short_roles.Goals as goal

module _ (hidden : List ℕ) {c : Parameters} {h cols : List ℕ} (O : OnColumns c h cols) (long : length hidden ≡ length cols) where
  few : length hidden ≤ longest
  few = omega (arith, columns_short O, long)

  module _ {k sent : ℕ} (none : fault (mark_rules c h cols hidden true) ≡ 0) (all : k ≡ dimension c h cols)
      (counted : sent ≡ sent_count hidden) where
    more : k ≡ sent_dimension c h cols hidden + (length hidden - sent)
    more =
        all ∙ dimension-hidden c h cols hidden O.accepted.limits.width (marked c h cols hidden true none long).1
        ∙ ap (λ (x : ℕ). sent_dimension c h cols hidden + (length hidden - x)) (sym counted)

    left : k - (length hidden - sent) ≡ sent_dimension c h cols hidden
    left = omega (arith, more)

pub returns-in_err-check_marks : goal.returns-in_err-check_marks
returns-in_err-check_marks c =
    let tested = c.in_err-check_marks.ensures in
    let (ne, due) = tested_due tested in
    record {
      value = passed_on _ _ _ tested c.from_residual.ensures.1;
      out_after = refuse (λ k. c.args.out.now) _ due ne;
    }

pub overflow_sub-not_sent : goal.overflow_sub-not_sent
overflow_sub-not_sent c =
    let a = c.args in
    omega (arith, c.sent_places.ensures, sent_le a.hidden.now)

pub overflow_cast-result : goal.overflow_cast-result
overflow_cast-result c =
    record { fits = omega (arith, few c.args.hidden.now c.requires.0 c.requires.1) }

pub overflow_sub-result : goal.overflow_sub-result
overflow_sub-result c =
    omega (
      arith,
      more c.args.hidden.now c.requires.0 c.requires.1 (tested_none c.in_ok-check_marks.ensures)
          c.roles.ensures.value c.sent_places.ensures,
    )

pub returns : goal.returns
returns c =
    let tested = c.in_ok-check_marks.ensures in
    let none = tested_none tested in
    let record { value = k; out_after = roles } = c.roles.ensures in
    record {
      value = ap Count (left c.args.hidden.now c.requires.0 c.requires.1 none k c.sent_places.ensures) ∙ went_on _ _ tested;
      out_after = roles ∙ sym (given (λ k. c.args.out.now) _ none);
    }
