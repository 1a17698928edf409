-- A list with a part of it replaced by one of the same length: what a call that is lent `&mut x[a..a + k]` makes of the whole of x.
use Rattle.std.specs.Prelude.{◌≡◌, List, ◌++◌, ℕ, ◌+◌, ◌-◌, ◌<◌, ◌≤◌, length, get_or, take, drop}
use Rattle.std.proofs.Common.{sym, ap, ap₂, ◌∙◌, subst, arith, length-append, length-drop, length-take-le, get_or-take, get_or-drop, get_or-append-add}
use Rattle.std.proofs.Math.ListN.{get_or-append}

module _ {A : Type 0} (x l : List A) (a k : ℕ) (long : length l ≡ k) (fits : a + k ≤ length x) where
  abbrev pub spliced : List A
  spliced = take a x ++ (l ++ drop k (drop a x))

  front : length (take a x) ≡ a
  front = length-take-le a x (omega arith)

  pub length-spliced : length spliced ≡ length x
  length-spliced =
      length-append (take a x) (l ++ drop k (drop a x))
      ∙ ap₂ (λ (i j : ℕ). i + j) front (length-append l (drop k (drop a x)) ∙ ap₂ (λ (i j : ℕ). i + j) long
      (length-drop k (drop a x) ∙ ap (λ (j : ℕ). j - k) (length-drop a x)))
      ∙ omega arith

  -- from a on
  past : (i : ℕ) (d : A) → get_or spliced (a + i) d ≡ get_or (l ++ drop k (drop a x)) i d
  past i d = ap (λ (n : ℕ). get_or spliced (n + i) d) (sym front) ∙ get_or-append-add (take a x) (l ++ drop k (drop a x)) i d

  pub spliced_inside : (i : ℕ) (d : A) → i < k → get_or spliced (a + i) d ≡ get_or l i d
  spliced_inside i d h = past i d ∙ get_or-append l (drop k (drop a x)) d i (subst (λ (n : ℕ). i < n) (sym long) h)

  pub spliced_before : (j : ℕ) (d : A) → j < a → get_or spliced j d ≡ get_or x j d
  spliced_before j d h =
      get_or-append (take a x) (l ++ drop k (drop a x)) d j (subst (λ (n : ℕ). j < n) (sym front) h) ∙ get_or-take a x j d h

  pub spliced_after : (j : ℕ) (d : A) → a + k ≤ j → get_or spliced j d ≡ get_or x j d
  spliced_after j d h =
      ap (λ (n : ℕ). get_or spliced n d) (sym split) ∙ past (k + (j - (a + k))) d
      ∙ ap (λ (n : ℕ). get_or (l ++ drop k (drop a x)) (n + (j - (a + k))) d) (sym long)
      ∙ get_or-append-add l (drop k (drop a x)) (j - (a + k)) d ∙ get_or-drop k (drop a x) (j - (a + k)) d ∙ get_or-drop a x (k + (j - (a + k))) d
      ∙ ap (λ (n : ℕ). get_or x n d) split
    where
      split : a + (k + (j - (a + k))) ≡ j
      split = omega arith
