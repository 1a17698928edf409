-- What the test of distinct entries says.
use Rattle.std.specs.Prelude.{◌≡◌, ◌↔◌, Bool, true, false, not, List, ℕ, ◌<◌, eqb, length}
use Rattle.std.proofs.Common.{ap, eqb-true, ne_eqb}
use Rattle.std.proofs.lemmas.Bool.{eqb-false, not-true, not-false}
use Rattle.algebra.specs.All.{all}
use Rattle.algebra.specs.AllLaws.{all_is, all_true, all_fails}
use Rattle.algebra.specs.Distinct.{Distinct, distinct}
use Rattle.algebra.specs.Lists.{entry_of}

pub distinct_is : (a : List ℕ) → (distinct a ≡ true) ↔ Distinct (length a) (entry_of a)
unfolding distinct
distinct_is a = (
  λ t i j l lj. eqb-false (entry_of a i) (entry_of a j)
      (not-true (eqb (entry_of a i) (entry_of a j)) (all_is j (apart j) (all_is (length a) (λ j. all j (apart j)) t j lj) i l)),
  λ d. all_true (length a) (λ j. all j (apart j)) (λ j lj. all_true j (apart j) (λ i l. ap not (ne_eqb (entry_of a i) (entry_of a j) (d i j l lj)))),
)
  where
    apart : ℕ → ℕ → Bool
    apart j i = not (eqb (entry_of a i) (entry_of a j))

-- where the test fails, an entry is repeated
pub repeated : (a : List ℕ) → distinct a ≡ false → (i : ℕ) × (j : ℕ) × (i < j) × (j < length a) × (entry_of a i ≡ entry_of a j)
unfolding distinct
repeated a f =
    let (j, lj, fj) = all_fails (length a) (λ j. all j (λ i. not (eqb (entry_of a i) (entry_of a j)))) f in
    let (i, l, e) = all_fails j (λ i. not (eqb (entry_of a i) (entry_of a j))) fj in
    (i, j, l, lj, eqb-true (entry_of a i) (entry_of a j) (not-false (eqb (entry_of a i) (entry_of a j)) e))
