-- Laws of tests, which find a number: nothing is due where a test is passed, and a refusal tells the number that is, which a `?` hands on.
use Rattle.std.specs.Prelude.{◌≡◌, ◌≢◌, List, ◌++◌, ℕ, suc, Result, Err}
use Rattle.std.specs.Result.{IsErrAnd}
use Rattle.std.proofs.Common.{sym, ap, ◌∙◌, arith}
use Rattle.std.proofs.lemmas.Result.{err_from_is_err_and}
use Rattle.refusals.specs.Rules.{Rule, fault, unless_refused}
use Rattle.refusals.specs.RuleLaws.{refuse, given}
use Rattle.refusals.specs.Outcome.{Done, Refused, tested}
use Rattle.refusals.specs.Ending.{first_refuses}
use Rattle.refusals.specs.Answered.{done_none, done_apart, same_outcome, refused_due}

-- a test that found a number answers it, and one that found none is passed
pub refuses : {k n : ℕ} → suc k ≡ n → Refused (suc k) ≡ tested n
refuses e = refuse Refused Done e (λ z. omega (arith, z))

pub passes : {n : ℕ} → n ≡ 0 → Done ≡ tested n
passes z = sym (given Refused Done z)

-- what an answer tells of the number
pub tested_none : {k : ℕ} → Done ≡ tested k → k ≡ 0
tested_none {k} is = done_none k (sym is)

pub tested_due : {k i : ℕ} → Refused i ≡ tested k → (i ≢ 0) × (i ≡ k)
tested_due {k} is =
    let (ne, same) = refused_due Refused Done done_apart same_outcome k (sym is) in (λ z. ne (same ∙ z), sym same)

-- the refusal that a `?` hands on is the one that it was given
pub handed_on : {A : Type 0} {i : ℕ} (r : Result A ℕ) → IsErrAnd r (λ y. y ≡ i) → r ≡ Err i
handed_on r e = let p = err_from_is_err_and r e in p.1 ∙ ap Err p.2

-- so a call that asks a test first answers by the number that it found
pub passed_on : {A : Type 0} (k : ℕ) {i : ℕ} (r value : Result A ℕ) → Refused i ≡ tested k → IsErrAnd r (λ y. y ≡ i) → r ≡ unless_refused k Err value
passed_on k r value is e = let (ne, due) = tested_due is in handed_on r e ∙ refuse Err value due ne

-- the same where more rules follow those of the test
pub first_passed_on : {A : Type 0} (rules more : List Rule) {i : ℕ} (r value : Result A ℕ) → Refused i ≡ tested (fault rules)
    → IsErrAnd r (λ y. y ≡ i) → r ≡ unless_refused (fault (rules ++ more)) Err value
first_passed_on rules more r value is e =
    let (ne, due) = tested_due is in handed_on r e ∙ first_refuses rules more Err value due ne

pub went_on : {A : Type 0} (k : ℕ) (value : Result A ℕ) → Done ≡ tested k → value ≡ unless_refused k Err value
went_on k value is = sym (given Err value (tested_none is))
