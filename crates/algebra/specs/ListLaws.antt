-- Laws of lists: that the test of equal lists is equality, the length of a list with a first part, and what stands at a place.
use Rattle.std.specs.Prelude.{◌≡◌, ◌↔◌, true, List, ◌∷◌, ◌++◌, ℕ, ◌+◌, ◌<◌, ◌≤◌, eqb, length, get_or, take, drop}
use Rattle.std.proofs.Common.{sym, ap, ◌∙◌, add-one, arith, length-append, drop-cons, ext_get_or, take_at, eqb-true, eq-eqb}
use Rattle.std.proofs.Math.Decide.{dec_lt}
use Rattle.std.proofs.Math.ListN.{get_or-eq_default}
use Rattle.algebra.specs.All.{all}
use Rattle.algebra.specs.AllLaws.{all_is, all_true}
use Rattle.algebra.specs.Flags.{both_true, both_hold}
use Rattle.algebra.specs.Lists.{entry_of, same_entry, same_list}

pub same_list_is : (a b : List ℕ) → (same_list a b ≡ true) ↔ (a ≡ b)
unfolding same_list same_entry
same_list_is a b = (
  λ t.
      let (long, each) = both_true (eqb (length a) (length b)) (all (length a) (same_entry a b)) t in
      ext_get_or 0 a b (eqb-true (length a) (length b) long)
      (λ i l. eqb-true (entry_of a i) (entry_of b i) (all_is (length a) (same_entry a b) each i l)),
  λ e.
      both_hold (eq-eqb (length a) (length b) (ap length e))
      (all_true (length a) (same_entry a b) (λ i l. eq-eqb (entry_of a i) (entry_of b i) (ap (λ (x : List ℕ). entry_of x i) e))),
)

-- a list is as long as its first part at least
pub front_long : {n : ℕ} (l rest : List ℕ) → length l ≡ n → n ≤ length (l ++ rest)
front_long l rest e = omega (arith, length-append l rest)

-- and that part is as long as it is
pub length_front : {n : ℕ} (l rest : List ℕ) → length l ≡ n → length (take n (l ++ rest)) ≡ n
length_front {n} l rest e = ap length (take_at l rest n e) ∙ e

-- ---- a list from a place on

module _ (l : List ℕ) (i : ℕ) where
  pub here : i < length l → drop i l ≡ get_or l i 0 ∷ drop (i + 1) l
  here less = drop-cons l i 0 less ∙ ap (λ (j : ℕ). get_or l i 0 ∷ drop j l) (sym (add-one i))

  -- an entry that is not 0 is one of the list's
  pub inside : {n : ℕ} → get_or l i 0 ≡ n → 0 < n → i < length l
  inside {n} e pos = decided (dec_lt i (length l))
    where
      decided : Dec (i < length l) → i < length l
      decided (yes less) = less
      decided (no nl) =
          let past : get_or l i 0 ≡ 0 = get_or-eq_default l 0 (omega arith) in absurd (omega arith)

  pub here_is : {n : ℕ} → get_or l i 0 ≡ n → 0 < n → drop i l ≡ n ∷ drop (i + 1) l
  here_is e pos = here (inside e pos) ∙ ap (λ (n : ℕ). n ∷ drop (i + 1) l) e
