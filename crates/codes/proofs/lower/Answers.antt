-- `lower` meets its contract: a test that found nothing leaves the answer to the other.
use mathlib.Core.Path.{◌≡◌, sym, ap, ◌∙◌}
use native.Mathlib.Omega.{arith}
use mathlib.Core.Bool.{true, false}
use borrow.Author.Tests.{ltb-true, ltb-false}
use Rattle.std.specs.Bool.{nat_lt}
use Rattle.refusals.specs.Numbers.{number}
use Rattle.refusals.proofs.Order.{rules_ordered}
use Rattle.refusals.specs.Outcome.{tested}
use Rattle.refusals.specs.Testing.{tested_none, tested_due}
use Rattle.codes.specs.Answers.{lowest}
use Rattle.codes.specs.Lowest.{lowest_left, lowest_right, lowest-min}
use Rattle.codes.proofs.lower.Goals as goal

pub returns-in_default : goal.returns-in_default
returns-in_default c = λ j k p q. q ∙ ap tested (sym (lowest_left j k (tested_none (sym c.in_default.is ∙ p))))

pub returns-in_default-b : goal.returns-in_default-b
returns-in_default-b c = λ j k p q. sym c.in-Err.is ∙ p ∙ ap tested (sym (lowest_right j k (tested_none (sym c.in_default-b.is ∙ q))))

pub returns-then-lt : goal.returns-then-lt
returns-then-lt c =
    λ j k p q.
    let (j-due, j-is) = tested_due (sym c.in-Err.is ∙ p) in
    let (k-due, k-is) = tested_due (sym c.in-Err-b.is ∙ q) in
    let less : nat_lt (number c.second.inside.0) (number c.first.inside.0) ≡ true = sym (rules_ordered c.second.inside.0 c.first.inside.0) ∙ sym c.lt.ensures ∙ c.if-lt.true in
    let low : k ≡ lowest j k = omega (arith, ltb-true, lowest-min j k (λ z. j-due (j-is ∙ z)) (λ z. k-due (k-is ∙ z))) in
    sym c.in-Err-b.is ∙ q ∙ ap tested low

pub returns : goal.returns
returns c =
    λ j k p q.
    let (j-due, j-is) = tested_due (sym c.in-Err.is ∙ p) in
    let (k-due, k-is) = tested_due (sym c.in-Err-b.is ∙ q) in
    let least : nat_lt (number c.second.inside.0) (number c.first.inside.0) ≡ false = sym (rules_ordered c.second.inside.0 c.first.inside.0) ∙ sym c.lt.ensures ∙ c.if-lt.false in
    let low : j ≡ lowest j k = omega (arith, ltb-false, lowest-min j k (λ z. j-due (j-is ∙ z)) (λ z. k-due (k-is ∙ z))) in
    sym c.in-Err.is ∙ p ∙ ap tested low
