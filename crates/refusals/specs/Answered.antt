-- What an answer says of the number that was due: a refusal tells it and leaves the buffers alone, and a value says that there was none.
use Rattle.std.specs.Prelude.{◌≡◌, ◌≢◌, ◌⊎◌, List}
use Rattle.std.proofs.Math.Path.{refl}
use Rattle.std.proofs.Common.{sym, inl, inr}
use Prim.Native.Nat.{ℕ, zero, suc}
use native.Mathlib.Omega.{arith}
use Rattle.refusals.specs.Counted.{Count, Refused as NotCounted}
use Rattle.refusals.specs.Outcome.{Done, Refused}
use Rattle.refusals.specs.Rules.{Rule, Hold, fault, unless_refused}
use Rattle.refusals.specs.RuleLaws.{fault_none, given}

-- there is no third way to end
pub value_or-refused : {A : Type 0} (refused : ℕ → A) (value : A) (k : ℕ)
    → (unless_refused k refused value ≡ value) ⊎ ((j : ℕ) × (unless_refused k refused value ≡ refused j))
unfolding unless_refused
value_or-refused refused value zero = inl refl
value_or-refused refused value (suc k) = inr (suc k, refl)

-- for any kind of answer whose value is no refusal
module _ {A : Type 0} (refused : ℕ → A) (value : A) (apart : (k : ℕ) → refused k ≢ value) where
  pub value_none : (k : ℕ) → unless_refused k refused value ≡ value → k ≡ 0
  unfolding unless_refused
  value_none zero e = refl
  value_none (suc k) e = absurd (apart (suc k) e)

  pub refused_leaves : {B : Type 0} (k : ℕ) (old new : B) {j : ℕ} → unless_refused k refused value ≡ refused j
      → unless_refused k (λ i. old) new ≡ old
  unfolding unless_refused
  refused_leaves zero old new {j} e = absurd (apart j (sym e))
  refused_leaves (suc k) old new e = refl

  -- and its number is the one that was due
  pub refused_due : ((i j : ℕ) → refused i ≡ refused j → i ≡ j) → (k : ℕ) {j : ℕ} → unless_refused k refused value ≡ refused j
      → (k ≢ 0) × (k ≡ j)
  unfolding unless_refused
  refused_due same zero {j} e = absurd (apart j (sym e))
  refused_due same (suc k) {j} e = (λ z. omega arith, same (suc k) j e)

-- rules that hold refuse nothing
pub holds_given : {A : Type 0} (rules : List Rule) (refused : ℕ → A) (value : A) → Hold rules → unless_refused (fault rules) refused value ≡ value
holds_given rules refused value holds = given refused value (fault_none rules holds)

-- ---- the answers of this crate: values are no refusals, and refusals tell their numbers

pub done_apart : (k : ℕ) → Refused k ≢ Done
done_apart k e =
    let z : ◌≡◌ {A = ℕ} 0 1 = cc in absurd (omega arith)

pub done_none : (k : ℕ) → unless_refused k Refused Done ≡ Done → k ≡ 0
done_none = value_none Refused Done done_apart

pub same_outcome : (i j : ℕ) → Refused i ≡ Refused j → i ≡ j
same_outcome i j e = cc

pub counted_apart : (n k : ℕ) → NotCounted k ≢ Count n
counted_apart n k e =
    let z : ◌≡◌ {A = ℕ} 0 1 = cc in absurd (omega arith)

pub same_counted : (i j : ℕ) → NotCounted i ≡ NotCounted j → i ≡ j
same_counted i j e = cc
