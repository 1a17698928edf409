-- A test of every entry of a slice, or of every number below a bound, as `all` of an iterator makes it.
use Rattle.std.specs.Prelude.{◌≡◌, refl, Bool, true, false, List, ℕ, ◌<◌, ◌≤◌, length}
use Rattle.std.specs.Bool.{MatchBool}
use Rattle.std.specs.List.{AllWithin, HoldsAt, list_all, range_with_len, zip}
use Rattle.std.proofs.Common.{sym, ap, ◌∙◌, zero-add, arith}
use Rattle.std.proofs.lemmas.List.Recursion.{and_is}
use Rattle.std.proofs.lemmas.List.FromFn.{length-range_with_len, get_or-range_with_len}
use Rattle.std.proofs.lemmas.Slice.Zip.{length-zip, get_or-zip}
use Rattle.algebra.specs.All.{all}
use Rattle.algebra.specs.AllLaws.{all_true, all-false, all_is, all_fails}
use Rattle.algebra.specs.Lists.{entry_of}

pub tests_entries : (a : List ℕ) (p : ℕ → Bool) (r : Bool)
    → MatchBool r (AllWithin (λ x. p x ≡ true) a 0 (length a)) ((k : ℕ) × (k < length a) × HoldsAt (λ x. p x ≡ false) a k)
    → r ≡ all (length a) (λ k. p (entry_of a k))
tests_entries a p true each = sym (all_true (length a) (λ k. p (entry_of a k)) (λ k l. each k 0 (omega arith) l))
tests_entries a p false (k, l, fails) = sym (all-false (length a) (λ k. p (entry_of a k)) k l (fails 0))

-- of two slices at once, as far as the first reaches
pub tests_pairs : (a b : List ℕ) (p : ℕ → ℕ → Bool) (r : Bool) → length a ≤ length b
    → MatchBool r (AllWithin (λ x. p x.0 x.1 ≡ true) (zip a b) 0 (length (zip a b)))
    ((k : ℕ) × (k < length (zip a b)) × HoldsAt (λ x. p x.0 x.1 ≡ false) (zip a b) k)
    → r ≡ all (length a) (λ k. p (entry_of a k) (entry_of b k))
tests_pairs a b p true l each =
    sym (all_true (length a) (λ k. p (entry_of a k) (entry_of b k))
    (λ k h. ap (λ (x : ℕ × ℕ). p x.0 x.1) (sym (get_or-zip a b k (0, 0) h (omega arith))) ∙ each k (0, 0) (omega arith) (omega (arith, length-zip a b))))
tests_pairs a b p false l (k, h, fails) =
    let within : k < length a = omega (arith, length-zip a b) in
    sym (all-false (length a) (λ k. p (entry_of a k) (entry_of b k)) k within
    (ap (λ (x : ℕ × ℕ). p x.0 x.1) (sym (get_or-zip a b k (0, 0) within (omega arith))) ∙ fails (0, 0)))

pub tests_below : (n : ℕ) (test : ℕ → Bool) → list_all test (range_with_len 0 n) ≡ all n test
tests_below n test =
    let xs = range_with_len 0 n in
    sym (and_is (list_all test) test refl (λ _ _. refl) xs 0 (all n test)
    (λ e i l. ap test (get_or-range_with_len 0 n i 0 (omega (arith, length-range_with_len 0 n)) ∙ zero-add i) ∙ all_is n test e i (omega (arith, length-range_with_len 0 n)))
    (λ e. let (i, l, f) = all_fails n test e in (i, omega (arith, length-range_with_len 0 n), ap test (get_or-range_with_len 0 n i 0 l ∙ zero-add i) ∙ f)))
