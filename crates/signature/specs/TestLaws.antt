-- Each of 01's first two conditions holds in the field of width m exactly if its test is true; the third is `distinct_is` of the crate algebra. All
-- three hold exactly if 4, 5 and 6 refuse nothing.
use Rattle.std.specs.Prelude.{◌≡◌, ◌↔◌, true, not, List, ℕ, ◌<◌, eqb, length}
use Rattle.std.proofs.Common.{ap, eqb-true, eq-eqb, ne_eqb}
use Rattle.std.proofs.lemmas.Bool.{eqb-false, not-true}
use Rattle.algebra.specs.All.{all}
use Rattle.algebra.specs.AllLaws.{all_is, all_true}
use Rattle.algebra.specs.DistinctLaws.{distinct_is}
use Rattle.algebra.specs.Lists.{entry_of}
use Rattle.algebra.specs.Xor.{◌⊕◌}
use Rattle.refusals.specs.Rules.{Hold}
use Rattle.field.specs.Gf.{gf}
use Rattle.signature.specs.Signature.{NoZero, Linear, Conditions}
use Rattle.signature.specs.Tests.{inverse_at, nonzero, no_zero, pair_kept, affine, linear, signature_rules}

-- two equal entries put another beside the first: where this holds, 6 need only be asked of the first entry and the others
abbrev pub EqualToFirst : List ℕ → Type 0
EqualToFirst h =
    (i j : ℕ) → i < j → j < length h → entry_of h i ≡ entry_of h j → (k : ℕ) × (0 < k) × (k < length h) × (entry_of h 0 ≡ entry_of h k)

-- f keeps 01's rule for 1/h below n
abbrev pub Affine : ℕ → (ℕ → ℕ) → Type 0
Affine n f = (i j : ℕ) → i < n → j < n → f (i ⊕ j) ≡ f i ⊕ f j ⊕ f 0

pub no_zero_is : (m : ℕ) (h : List ℕ) → (no_zero h ≡ true) ↔ NoZero (gf m) (length h) (entry_of h)
unfolding no_zero nonzero
no_zero_is m h = (
  λ t i l. eqb-false (entry_of h i) 0 (not-true (eqb (entry_of h i) 0) (all_is (length h) (nonzero h) t i l)),
  λ z. all_true (length h) (nonzero h) (λ i l. ap not (ne_eqb (entry_of h i) 0 (z i l))),
)

pub affine_is : (n : ℕ) (f : ℕ → ℕ) → (affine n f ≡ true) ↔ Affine n f
unfolding affine pair_kept
affine_is n f = (
  λ t i j li lj. eqb-true (f (i ⊕ j)) (f i ⊕ f j ⊕ f 0) (all_is n (pair_kept f i) (all_is n (λ i. all n (pair_kept f i)) t i li) j lj),
  λ r. all_true n (λ i. all n (pair_kept f i))
      (λ i li. all_true n (pair_kept f i) (λ j lj. eq-eqb (f (i ⊕ j)) (f i ⊕ f j ⊕ f 0) (r i j li lj))),
)

pub linear_is : (m : ℕ) (h : List ℕ) → (linear m h ≡ true) ↔ Linear (gf m) (length h) (entry_of h)
unfolding linear inverse_at
linear_is m h = affine_is (length h) (inverse_at m h)

pub conditions_are : (m : ℕ) (h : List ℕ) → Hold (signature_rules m h) ↔ Conditions (gf m) (length h) (entry_of h)
unfolding signature_rules
conditions_are m h = (
  λ held.
      let (z, (r, (d, none))) = held in
      record { no_zero = (no_zero_is m h).0 z; linear = (linear_is m h).0 r; distinct = (distinct_is h).0 d },
  λ C. ((no_zero_is m h).1 C.no_zero, ((linear_is m h).1 C.linear, ((distinct_is h).1 C.distinct, tt))),
)
