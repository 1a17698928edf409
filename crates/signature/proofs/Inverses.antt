-- The test of the rule works on stored inverses, and the test for equal entries on the first entry alone: why both are right.
use mathlib.Core.Path.{◌≡◌, sym, ap, ap₂, ◌∙◌}
use mathlib.Core.Logic.{◌≢◌, ◌↔◌}
use mathlib.Core.Bool.{Bool, true}
use mathlib.Core.List.{List}
use Prim.Native.Nat.{ℕ, ◌<◌}
use native.Mathlib.Omega.{arith}
use lib.Dec.{eqb}
use lib.ListN.{length}
use Rattle.algebra.specs.AllLaws.{all_cong}
use Rattle.algebra.specs.Xor.{◌⊕◌}
use Rattle.algebra.specs.XorLaws.{xor, ⊕_eq}
use Rattle.field.specs.Gf.{gf}
use Rattle.field.proofs.GfLaws.{gf_laws}
use Rattle.slices.specs.Lengths.{is_power}
use Rattle.signature.specs.Existence.{inv_injective}
use Rattle.signature.specs.Inverses.{Entries, Inverted}
use Rattle.signature.specs.Tests.{inverse_at, no_zero, pair_kept, affine, linear}
use Rattle.signature.specs.TestLaws.{Affine, no_zero_is, affine_is, EqualToFirst}
use Rattle.algebra.specs.Lists.{entry_of}
use Rattle.signature.proofs.Scan.{index_below}

-- the rule asks for f below n alone
affine_cong : (n : ℕ) (f g : ℕ → ℕ) → is_power n ≡ true → ((i : ℕ) → i < n → f i ≡ g i) → affine n f ≡ affine n g
unfolding affine pair_kept
affine_cong n f g t e =
    all_cong n
    (λ i li. all_cong n
    (λ j lj. ap₂ eqb (e (i ⊕ j) (index_below n i j t li lj)) (ap₂ ◌⊕◌ (ap₂ ◌⊕◌ (e i li) (e j lj)) (e 0 (omega arith)))))

-- a list whose entries are equal exactly where a function is that keeps the rule: if f i = f j then f (i ⊕ j) = f 0
pub affine_first : (a : List ℕ) (f : ℕ → ℕ) → is_power (length a) ≡ true → Affine (length a) f
    → ((i j : ℕ) → i < length a → j < length a → (entry_of a i ≡ entry_of a j) ↔ (f i ≡ f j)) → EqualToFirst a
affine_first a f p rule equally i j l lj e =
    let li : i < length a = omega arith in
    let lk : i ⊕ j < length a = index_below (length a) i j p li lj in (
      i ⊕ j,
      positive (i ⊕ j) (λ q. apart (⊕_eq i j q)),
      lk,
      sym
          ((equally (i ⊕ j) 0 lk (omega arith)).1
          (rule i j li lj ∙ ap (λ (x : ℕ). x ⊕ f j ⊕ f 0) ((equally i j li lj).0 e) ∙ cancelled (f j) (f 0))),
    )
  where
    apart : i ≢ j
    apart q = omega arith

    positive : (k : ℕ) → k ≢ 0 → 0 < k
    positive k ne = omega arith

    cancelled : (x y : ℕ) → x ⊕ x ⊕ y ≡ y
    cancelled x y = simp xor

module _ {m : ℕ} {h room : List ℕ} (E : Entries m h room) where
  pub rule_tested : {r : Bool} {l : List ℕ} → Inverted m h l → r ≡ affine (length h) (entry_of l) → r ≡ linear m h
  unfolding linear
  rule_tested {r} {l} I q = q ∙ affine_cong (length h) (entry_of l) (inverse_at m h) E.power I.are

  -- if h_i = h_j then 1/h_(i⊕j) = 1/h_0
  pub equal_to_first : no_zero h ≡ true → linear m h ≡ true → EqualToFirst h
  unfolding linear inverse_at
  equal_to_first z r =
      affine_first h (inverse_at m h) E.power ((affine_is (length h) (inverse_at m h)).0 r)
      (λ i j li lj. (
        ap (gf m).inv,
        inv_injective (gf m) (gf_laws m E.width) (entry_of h i) (entry_of h j) (E.elements i li) (E.elements j lj) ((no_zero_is m h).0 z i li)
            ((no_zero_is m h).0 z j lj),
      ))
