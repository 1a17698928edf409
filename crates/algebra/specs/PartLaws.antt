-- Parts of lists: their entries, a list with one part replaced, and parts that are joined, also as a loop that replaces one part after the other.
use Rattle.std.specs.Prelude.{◌≡◌, refl, ◌≢◌, take}
use Rattle.std.proofs.Math.Path.{sym, ap, ap₂, subst}
use Rattle.std.proofs.Common.{◌∙◌, not-suc-le-zero, le_of_eq, mul-le-mul_right, suc-mul, zero-mul, add-one, drop_of_length-le, get_or-take, get_or-drop, get_or-append-add, drop_at, drop-drop}
use mathlib.Core.List.{List, ◌++◌, append_assoc, append-nil}
use Prim.Native.Nat.{ℕ, zero, suc, ◌+◌, ◌-◌, ◌*◌, ◌<◌, ◌≤◌}
use Rattle.std.proofs.Math.Decide.{dec_lt}
use native.Mathlib.Omega.{arith}
use Rattle.std.proofs.Math.ListN.{length, drop, length-append, length-drop, get_or-append}
use Rattle.std.proofs.Math.Seq.{length-take-le, take_at, ext_get_or}
use Rattle.algebra.specs.Lists.{entry_of}
use Rattle.algebra.specs.Parts.{part, with_part, joined}
use Rattle.algebra.specs.Splice.{length-spliced, spliced_before, spliced_after}

-- of k parts, the one at p < k lies inside
pub part_room : (n : ℕ) {p k : ℕ} → p < k → p * n + n ≤ k * n
part_room n {p} {k} l = subst (λ (x : ℕ). x ≤ k * n) (suc-mul p n) (mul-le-mul_right n l)

-- its length as the code computes it, end minus start
pub part_wide : (n p : ℕ) → p * n + n - p * n ≡ n
part_wide n p = omega arith

-- the part as it is lent, by its start and its end
pub part_lent : (n : ℕ) (l : List ℕ) (p : ℕ) → take (p * n + n - p * n) (drop (p * n) l) ≡ part n l p
unfolding part
part_lent n l p = ap (λ (k : ℕ). take k (drop (p * n) l)) (part_wide n p)

-- the whole as it is when the part comes back
pub part_returned : (n : ℕ) (l : List ℕ) (p : ℕ) {x y : List ℕ} → x ≡ y
    → take (p * n) l ++ (x ++ drop (p * n + n - p * n) (drop (p * n) l)) ≡ with_part n l p y
unfolding with_part
part_returned n l p e = ap₂ (λ (k : ℕ) (z : List ℕ). take (p * n) l ++ (z ++ drop k (drop (p * n) l))) (part_wide n p) e

module _ (n : ℕ) (l : List ℕ) (p : ℕ) (fits : p * n + n ≤ length l) where
  pub length_part : length (part n l p) ≡ n
  unfolding part
  length_part = length-take-le n (drop (p * n) l) (simp length-drop (omega arith))

  pub length_lent : length (take (p * n + n - p * n) (drop (p * n) l)) ≡ n
  length_lent = ap length (part_lent n l p) ∙ length_part

pub part_entry : (n : ℕ) (l : List ℕ) (p i : ℕ) → i < n → entry_of (part n l p) i ≡ entry_of l (p * n + i)
unfolding part
part_entry n l p i h = get_or-take n (drop (p * n) l) i 0 h ∙ get_or-drop (p * n) l i 0

-- ---- one part replaced

module _ (n : ℕ) (l : List ℕ) (p : ℕ) (x : List ℕ) (long : length x ≡ n) (fits : p * n + n ≤ length l) where
  pub length_replaced : length (with_part n l p x) ≡ length l
  unfolding with_part
  length_replaced = length-spliced l x (p * n) n long fits

  pub part_replaced : part n (with_part n l p x) p ≡ x
  unfolding part with_part
  part_replaced =
      ap (take n) (drop_at (take (p * n) l) (x ++ drop n (drop (p * n) l)) (p * n) (length-take-le (p * n) l (omega arith)))
      ∙ take_at x (drop n (drop (p * n) l)) n long

  -- another part stays
  pub part_kept : (q : ℕ) → q ≢ p → q * n + n ≤ length l → part n (with_part n l p x) q ≡ part n l q
  unfolding with_part
  part_kept q ne inside =
      let first : length (part n (with_part n l p x) q) ≡ n =
      length_part n (with_part n l p x) q (subst (λ (k : ℕ). q * n + n ≤ k) (sym length_replaced) inside) in
      let second : length (part n l q) ≡ n = length_part n l q inside in
      ext_get_or 0 (part n (with_part n l p x) q) (part n l q) (first ∙ sym second)
      (λ i h.
      let inner : i < n = subst (λ (k : ℕ). i < k) first h in
      part_entry n (with_part n l p x) q i inner ∙ kept i inner (dec_lt q p) ∙ sym (part_entry n l q i inner))
    where
      kept : (i : ℕ) → i < n → Dec (q < p) → entry_of (with_part n l p x) (q * n + i) ≡ entry_of l (q * n + i)
      kept i h (yes less) =
          spliced_before l x (p * n) n long fits (q * n + i) 0 (omega (arith, part_room n less))
      kept i h (no more) =
          let after : p < q = omega arith in
          spliced_after l x (p * n) n long fits (q * n + i) 0 (omega (arith, part_room n after))

-- ---- parts that are joined

pub joined_cong : (k : ℕ) {f g : ℕ → List ℕ} → ((i : ℕ) → i < k → f i ≡ g i) → joined k f ≡ joined k g
unfolding joined
joined_cong zero same = refl
joined_cong (suc k) same = ap₂ (λ (x y : List ℕ). x ++ y) (joined_cong k (λ i l. same i (omega arith))) (same k (omega arith))

module _ (n : ℕ) (f : ℕ → List ℕ) where
  -- the first k are all as long
  abbrev pub Wide : ℕ → Type 0
  Wide k = (i : ℕ) → i < k → length (f i) ≡ n

  pub length-joined : (k : ℕ) → Wide k → length (joined k f) ≡ k * n
  unfolding joined
  length-joined zero wide = sym (zero-mul n)
  length-joined (suc k) wide =
      length-append (joined k f) (f k)
      ∙ ap₂ (λ (x y : ℕ). x + y) (length-joined k (λ i l. wide i (omega arith))) (wide k (omega arith)) ∙ sym (suc-mul k n)

  pub joined_at : (k : ℕ) → Wide k → (i c : ℕ) → i < k → c < n → entry_of (joined k f) (i * n + c) ≡ entry_of (f i) c
  unfolding joined
  joined_at zero wide i c l lc = absurd (not-suc-le-zero l)
  joined_at (suc k) wide i c l lc = decided (dec_lt i k) (λ li. joined_at k (λ j lj. wide j (omega arith)) i c li lc)
    where
      before : length (joined k f) ≡ k * n
      before = length-joined k (λ j lj. wide j (omega arith))

      decided : Dec (i < k) → (i < k → entry_of (joined k f) (i * n + c) ≡ entry_of (f i) c)
          → entry_of (joined k f ++ f k) (i * n + c) ≡ entry_of (f i) c
      decided (yes li) ih =
          get_or-append (joined k f) (f k) 0 (i * n + c)
          (subst (λ (x : ℕ). i * n + c < x) (sym before) (omega (arith, part_room n li))) ∙ ih li
      decided (no nl) ih =
          let last : k ≡ i = omega arith in
          ap₂ (λ (x y : ℕ). entry_of (joined k f ++ f y) (x + c)) (ap (λ (j : ℕ). j * n) (sym last) ∙ sym before) last
          ∙ get_or-append-add (joined k f) (f i) c 0

  pub part-joined : (k : ℕ) → Wide k → (p : ℕ) → p < k → part n (joined k f) p ≡ f p
  part-joined k wide p l =
      let inside : p * n + n ≤ length (joined k f) = subst (λ (x : ℕ). p * n + n ≤ x) (sym (length-joined k wide)) (part_room n l) in
      let long = length_part n (joined k f) p inside in
      ext_get_or 0 (part n (joined k f) p) (f p) (long ∙ sym (wide p l))
      (λ i h.
      let inner : i < n = subst (λ (x : ℕ). i < x) long h in
      part_entry n (joined k f) p i inner ∙ joined_at k wide p i l inner)

-- ---- a loop that replaces one part after the other: `now` is what it has made of `old`, of k parts, when i are replaced

pub record Replacing (n : ℕ) (f : ℕ → List ℕ) (k : ℕ) (old now : List ℕ) (i : ℕ) : Type 0 where
  pub bound : i ≤ k
  pub long : length old ≡ k * n
  pub so_far : now ≡ joined i f ++ drop (i * n) old

pub replacing_start : (n : ℕ) (f : ℕ → List ℕ) (k : ℕ) (old : List ℕ) → length old ≡ k * n → Replacing n f k old old 0
unfolding joined
replacing_start n f k old long =
    record { bound = omega arith; long = long; so_far = ap (λ (i : ℕ). drop i old) (sym (zero-mul n)) }

module _ {n : ℕ} {f : ℕ → List ℕ} {k : ℕ} {old now : List ℕ} {i : ℕ} (J : Replacing n f k old now i) (wide : Wide n f k) where
  before : length (joined i f) ≡ i * n
  before = length-joined n f i (λ j l. wide j (omega (arith, J.bound)))

  pub replacing_length : length now ≡ length old
  replacing_length =
      ap length J.so_far ∙ length-append (joined i f) (drop (i * n) old) ∙ ap₂ (λ (x y : ℕ). x + y) before (length-drop (i * n) old)
      ∙ together
    where
      inside : i * n ≤ k * n
      inside = mul-le-mul_right n J.bound

      together : i * n + (length old - i * n) ≡ length old
      together = omega (arith, inside, J.long)

  rest : drop (i * n) now ≡ drop (i * n) old
  rest = ap (drop (i * n)) J.so_far ∙ drop_at (joined i f) (drop (i * n) old) (i * n) before

  -- what is not yet replaced is still there
  pub replacing_old : part n now i ≡ part n old i
  unfolding part
  replacing_old = ap (take n) rest

  pub replacing_inside : i < k → i * n + n ≤ length now
  replacing_inside l = subst (λ (x : ℕ). i * n + n ≤ x) (sym (replacing_length ∙ J.long)) (part_room n l)

  pub replacing_turn : {x : List ℕ} → i < k → x ≡ f i → Replacing n f k old (with_part n now i x) (i + 1)
  unfolding with_part joined
  replacing_turn {x} l e =
      record {
        bound = omega arith;
        long = J.long;
        so_far =
            ap₂ (λ (a b : List ℕ). a ++ (b ++ drop n (drop (i * n) now)))
            (ap (take (i * n)) J.so_far ∙ take_at (joined i f) (drop (i * n) old) (i * n) before) e
            ∙ ap (λ (r : List ℕ). joined i f ++ (f i ++ drop n r)) rest
            ∙ ap (λ (r : List ℕ). joined i f ++ (f i ++ r)) (drop-drop n (i * n) old ∙ ap (λ (j : ℕ). drop j old) past)
            ∙ sym (append_assoc (joined i f) (f i) (drop ((i + 1) * n) old))
            ∙ ap (λ (j : ℕ). joined j f ++ drop ((i + 1) * n) old) (sym (add-one i));
      }
    where
      past : i * n + n ≡ (i + 1) * n
      past = sym (suc-mul i n) ∙ ap (λ (j : ℕ). j * n) (sym (add-one i))

  -- the same where the part was lent, by its start and its end, and came back as x
  pub replacing_lent : {x : List ℕ} → i < k → x ≡ f i
      → Replacing n f k old (take (i * n) now ++ (x ++ drop (i * n + n - i * n) (drop (i * n) now))) (i + 1)
  replacing_lent l e =
      subst (λ (r : List ℕ). Replacing n f k old r (i + 1)) (sym (part_returned n now i e)) (replacing_turn l refl)

  pub replacing_end : k ≤ i → now ≡ joined k f
  replacing_end h =
      let whole : i ≡ k = omega (arith, J.bound) in
      J.so_far ∙ ap (λ (j : ℕ). joined j f ++ drop (j * n) old) whole
      ∙ ap (λ (r : List ℕ). joined k f ++ r) (drop_of_length-le old (le_of_eq J.long)) ∙ append-nil (joined k f)
