-- What the calls between signatures and essences answer, and what they leave in the lent buffer, for every input.
use Rattle.std.specs.Prelude.{Bool, not, ◌&&◌, List, [], ◌∷◌, ◌++◌, ℕ, suc, ◌-◌, ◌^◌, leb, eqb, length}
use Rattle.refusals.specs.Rules.{Rule, ◌unless◌, fault, unless_refused}
use Rattle.refusals.specs.Outcome.{Outcome}
use Rattle.refusals.specs.Outcome.{Done, Refused}
use Rattle.field.specs.Range.{is_width}
use Rattle.slices.specs.Lengths.{longest_log}
use Rattle.slices.specs.Elements.{all_elements}
use Rattle.signature.specs.Tests.{signature_rules}
use Rattle.essence.specs.Choices.{dependent}
use Rattle.essence.specs.Essence.{essence_of, signature_of}

-- "2 to 10 values": one more than the exponent of a code's length
unfoldable pub is_value_count : ℕ → Bool
is_value_count k = leb 2 k && leb k (suc longest_log)

-- 1 to 3, for a signature of n entries and an essence of k values, of which a is given and the other is lent. So n is a power of two from 2 to the
-- longest, 2^e, and k is e + 1
unfoldable pub shape_rules : ℕ → List ℕ → ℕ → ℕ → List Rule
shape_rules m a n k = (1 unless is_width m) ∷ (2 unless is_value_count k) ∷ (2 unless eqb n (2 ^ (k - 1))) ∷ (3 unless all_elements m a) ∷ []

-- ---- from a signature h to its essence

unfoldable pub essence_rules : ℕ → List ℕ → ℕ → List Rule
essence_rules m h k = shape_rules m h (length h) k ++ signature_rules m h

unfoldable pub essence_fault : ℕ → List ℕ → ℕ → ℕ
essence_fault m h k = fault (essence_rules m h k)

unfoldable pub essence_answer : ℕ → List ℕ → List ℕ → Outcome
essence_answer m h out = unless_refused (essence_fault m h (length out)) Refused Done

unfoldable pub essence_after : ℕ → List ℕ → List ℕ → List ℕ
essence_after m h out = unless_refused (essence_fault m h (length out)) (λ k. out) (essence_of m (length out - 1) h)

-- ---- from an essence v to its signature: 17 "stands where 4, 5 and 6 stand for signatures"

unfoldable pub value_rules : ℕ → List ℕ → ℕ → List Rule
value_rules m v n = shape_rules m v n (length v) ++ (17 unless not (dependent m v)) ∷ []

unfoldable pub signature_fault : ℕ → List ℕ → ℕ → ℕ
signature_fault m v n = fault (value_rules m v n)

unfoldable pub signature_answer : ℕ → List ℕ → List ℕ → Outcome
signature_answer m v out = unless_refused (signature_fault m v (length out)) Refused Done

unfoldable pub signature_after : ℕ → List ℕ → List ℕ → List ℕ
signature_after m v out = unless_refused (signature_fault m v (length out)) (λ k. out) (signature_of m (length v - 1) v)
