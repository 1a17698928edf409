-- The answers of the calls: values are no refusals, and refusals tell their numbers. Those of `refusals` and of `rows` stand there.
use Rattle.std.specs.Prelude.{◌≡◌, ◌≢◌, Bool, true, false, ℕ}
use Rattle.std.proofs.Common.{arith}
use Rattle.field.specs.Found.{Element, Refused as NoElement}
use Rattle.codes.specs.Sameness.{Refused as NotCompared}
use Rattle.codes.specs.Answers.{compared}
use Rattle.repair.specs.declared.Recovery.TheVariants.{Repaired, Refused as NotRepaired}

pub element_apart : (a k : ℕ) → NoElement k ≢ Element a
element_apart a k e =
    let z : ◌≡◌ {A = ℕ} 0 1 = cc in absurd (omega arith)

pub same_element : (i j : ℕ) → NoElement i ≡ NoElement j → i ≡ j
same_element i j e = cc

pub repaired_apart : (n k : ℕ) → NotRepaired k ≢ Repaired n
repaired_apart n k e =
    let z : ◌≡◌ {A = ℕ} 0 1 = cc in absurd (omega arith)

pub same_recovery : (i j : ℕ) → NotRepaired i ≡ NotRepaired j → i ≡ j
same_recovery i j e = cc

pub compared_apart : (b : Bool) (k : ℕ) → NotCompared k ≢ compared b
unfolding compared
compared_apart true k e =
    let z : ◌≡◌ {A = ℕ} 0 1 = cc in absurd (omega arith)
compared_apart false k e =
    let z : ◌≡◌ {A = ℕ} 0 1 = cc in absurd (omega arith)

pub same_sameness : (i j : ℕ) → NotCompared i ≡ NotCompared j → i ≡ j
same_sameness i j e = cc
