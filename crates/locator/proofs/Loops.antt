-- The loops of this crate, each over the coefficients of a half, on plain numbers and lists: how each begins, what one turn makes of it, and what it
-- ends with.
use mathlib.Core.Path.{◌≡◌, refl, sym, ap, ap₂, ◌∙◌, subst, subst₂}
use mathlib.Core.List.{List, [], ◌∷◌, ◌++◌}
use Prim.Native.Nat.{ℕ, zero, suc, ◌+◌, ◌-◌, ◌/◌, ◌<◌, ◌≤◌, ◌^◌}
use native.Mathlib.Nat.{not-suc-le-zero}
use native.Mathlib.Decide.{dec_lt}
use native.Mathlib.Numerals.{add-one}
use native.Mathlib.Omega.{arith}
use lib.ListN.{length, take, drop, set, replicate, length-set, get_or-append, get_or-eq_default}
use Rattle.std.specs.List.{IsLastAndRest}
use Rattle.std.proofs.lemmas.List.{length-append, length-take-le, length-replicate, get_or-take, get_or-replicate, get_or_at, take_at, take-take}
use lib.Seq.{get_or-set_same, get_or-set_other}
use Rattle.algebra.specs.Field.{Laws}
use Rattle.algebra.specs.FieldLaws.{mul-nought, add-nought}
use Rattle.algebra.specs.Tabulate.{tabulate}
use Rattle.algebra.specs.TabulateLaws.{length-tabulate, get_d_tabulate}
use Rattle.algebra.specs.Filling.{filled, Filling, filling_start, filling_turn, filling_length, filling_old, filling_end}
use Rattle.algebra.specs.Xor.{◌⊕◌}
use Rattle.field.specs.Gf.{Width, gf}
use Rattle.field.proofs.GfLaws.{gf_laws}
use Rattle.field.specs.Product.{product}
use Rattle.field.specs.Words.{word}
use Rattle.slices.specs.Lengths.{longest}
use Rattle.algebra.specs.Lists.{entry_of}
use Rattle.locator.specs.Halves.{half, horner, evaluate, Half, Combined, Lifted, Constant}
use Rattle.locator.proofs.Horner.{shifted, horner_cong, horner-nought, horner_constant, horner_combine, horner_raise}

-- the field's product, as the code computes it
abbrev times : ℕ → ℕ → ℕ → ℕ
times m = product m (word m)

module _ (m : ℕ) (W : Width m) where
  F : Laws (gf m)
  F = gf_laws m W

  -- a value by the entries of a list of the full length
  evaluate-half : (l : List ℕ) (c : ℕ → ℕ) → length l ≡ half → ((k : ℕ) → entry_of l k ≡ c k) → (y : ℕ)
      → evaluate (gf m) l y ≡ horner (gf m) half c y
  unfolding evaluate
  evaluate-half l c long e y = ap (λ (n : ℕ). horner (gf m) n (entry_of l) y) long ∙ horner_cong (gf m) F half e y

-- ---- `evaluate`: `value` is that of the coefficients from k on, which are nought from n on

pub record Evaluating (m n : ℕ) (l : List ℕ) (y value k : ℕ) : Type 0 where
  pub bound : k ≤ n
  pub so_far : value ≡ horner (gf m) (length l - k) (λ j. entry_of l (k + j)) y
  pub element : value < 2 ^ m

module _ {m n : ℕ} (W : Width m) {l : List ℕ} (H : Half m n l) (y : ℕ) where
  evaluate_none : Evaluating m n l y 0 n
  evaluate_none =
      record {
        bound = omega arith;
        so_far = sym (horner-nought (gf m) (gf_laws m W) (length l - n) (λ j. H.ends (n + j) (omega arith)) y);
        element = (gf_laws m W).in_nought;
      }

  pub evaluate_turn : {value k v : ℕ} → n ≤ half → Evaluating m n l y value k → 0 < k → v ≡ times m y value
      → Evaluating m n l y (entry_of l (k - 1) ⊕ v) (k - 1)
  unfolding horner
  evaluate_turn {value} {k} {v} short E positive e =
      record {
        bound = omega (arith, E.bound);
        so_far =
            ap (λ (x : ℕ). entry_of l (k - 1) ⊕ x) e
            ∙ ap₂ (λ (a x : ℕ). a ⊕ times m y x) (ap (entry_of l) lowest)
            (E.so_far ∙ horner_cong (gf m) (gf_laws m W) (length l - k) (λ j. ap (entry_of l) (next j)) y)
            ∙ ap (λ (d : ℕ). horner (gf m) d (λ j. entry_of l (k - 1 + j)) y) (sym one_more);
        element =
            (gf_laws m W).in_add (entry_of l (k - 1)) v (H.inside (k - 1)) (subst (λ (x : ℕ). x < 2 ^ m) (sym e) ((gf_laws m W).in_mul y value));
      }
    where
      lowest : k - 1 ≡ k - 1 + 0
      lowest = omega arith

      next : (j : ℕ) → k + j ≡ k - 1 + suc j
      next j = omega arith

      one_more : length l - (k - 1) ≡ suc (length l - k)
      one_more = omega (arith, E.bound, H.long)

  -- the highest coefficient that can be other than nought
  pub evaluate_start : n ≤ half → 0 < n → Evaluating m n l y (entry_of l (n - 1)) (n - 1)
  evaluate_start short positive =
      subst (λ (v : ℕ). Evaluating m n l y v (n - 1)) (add-nought (gf m) (gf_laws m W) (entry_of l (n - 1)))
      (evaluate_turn short evaluate_none positive (sym (mul-nought (gf m) (gf_laws m W) y)))

  pub evaluate_end : {value k : ℕ} → Evaluating m n l y value k → k ≤ 0 → (value ≡ evaluate (gf m) l y) × (value < 2 ^ m)
  unfolding evaluate
  evaluate_end {value} {k} E h =
      let none : k ≡ 0 = omega arith in (
        E.so_far ∙ ap (λ (i : ℕ). horner (gf m) (length l - i) (λ j. entry_of l (i + j)) y) none
            ∙ ap (λ (d : ℕ). horner (gf m) d (λ j. entry_of l (0 + j)) y) whole
            ∙ horner_cong (gf m) (gf_laws m W) (length l) (λ j. ap (entry_of l) (same j)) y,
        E.element,
      )
    where
      whole : length l - 0 ≡ length l
      whole = omega arith

      same : (j : ℕ) → 0 + j ≡ j
      same j = omega arith

  pub evaluate_empty : n ≡ 0 → (0 ≡ evaluate (gf m) l y) × (0 < 2 ^ m)
  evaluate_empty h = evaluate_end evaluate_none (omega arith)

-- ---- the same with what is left of the list, of which the last is taken

less : (l rest : List ℕ) (x : ℕ) {left : List ℕ} → left ≡ take (length left) l → left ≡ rest ++ x ∷ []
    → (rest ≡ take (length rest) l) × (x ≡ entry_of l (length rest)) × (length left ≡ length rest + 1)
less l rest x {left} front e =
    let k = length rest in
    let long : length left ≡ k + 1 = ap length e ∙ length-append rest (x ∷ []) in (
      sym (take_at rest (x ∷ []) k refl) ∙ ap (take k) (sym e ∙ front) ∙ take-take k (length left) l (omega arith),
      sym (get_or_at rest x [] 0 k refl) ∙ ap (entry_of_at k) (sym e ∙ front) ∙ get_or-take (length left) l k 0 (omega arith),
      long,
    )
  where
    entry_of_at : ℕ → List ℕ → ℕ
    entry_of_at k l = entry_of l k

pub record Walking (m n : ℕ) (l : List ℕ) (y value : ℕ) (left : List ℕ) : Type 0 where
  pub front : left ≡ take (length left) l
  pub evaluating : Evaluating m n l y value (length left)

module _ {m n : ℕ} (W : Width m) {l : List ℕ} (H : Half m n l) (short : n ≤ half) (y : ℕ) {rest : List ℕ} (x : ℕ) where
  pub walking_start : IsLastAndRest (take n l) x rest → Walking m n l y x rest
  walking_start is =
      let long : length (take n l) ≡ n = length-take-le n l (omega (arith, H.long)) in
      let (front, highest, one) = less l rest x (ap (λ (k : ℕ). take k l) (sym long)) is.0 in
      let down : n - 1 ≡ length rest = omega arith in
      record {
        front = front;
        evaluating = subst₂ (Evaluating m n l y) (ap (entry_of l) down ∙ sym highest) down (evaluate_start W H y short (omega arith));
      }

  pub walking_turn : {left : List ℕ} {value v : ℕ} → Walking m n l y value left → left ≡ rest ++ x ∷ [] → v ≡ times m y value
      → Walking m n l y (x ⊕ v) rest
  walking_turn {left} {value} {v} K is e =
      let (front, last, one) = less l rest x K.front is in
      let down : length left - 1 ≡ length rest = omega arith in
      record {
        front = front;
        evaluating = subst₂ (Evaluating m n l y) (ap (λ (k : ℕ). entry_of l k ⊕ v) down ∙ ap (λ (z : ℕ). z ⊕ v) (sym last)) down
            (evaluate_turn W H y short K.evaluating (omega arith) e);
      }

-- ---- a loop that fills a half as far as it can be other than nought fills it all

-- the front of a list that is filled, with the rest as it was
filled_front : {f : ℕ → ℕ} {h n : ℕ} {old now : List ℕ} → length old ≡ h → n ≤ h → now ≡ tabulate n f → Filling f h old (now ++ drop n old) n
unfolding filled
filled_front {n = n} {old = old} long l e = record { bound = l; long = long; so_far = ap (λ (x : List ℕ). x ++ drop n old) e }

filled_all : {f : ℕ → ℕ} {n : ℕ} {old now : List ℕ} {i : ℕ} → Filling f n old now i → ((j : ℕ) → i ≤ j → entry_of old j ≡ f j)
    → (j : ℕ) → entry_of now j ≡ f j
unfolding filled
filled_all {f} {n} {old} {now} {i} G rest j = decided (dec_lt j i)
  where
    decided : Dec (j < i) → entry_of now j ≡ f j
    decided (yes l) =
        ap (λ (x : List ℕ). entry_of x j) G.so_far
        ∙ get_or-append (tabulate i f) (drop i old) 0 j (subst (λ (k : ℕ). j < k) (sym (length-tabulate i f)) l)
        ∙ get_d_tabulate i f j 0 l
    decided (no nl) = let h : i ≤ j = omega arith in filling_old G j 0 h ∙ rest j h

-- ---- `combine`

abbrev pub combined : ℕ → ℕ → ℕ → List ℕ → List ℕ → ℕ → ℕ
combined m a b pivot other k = times m a (entry_of other k) ⊕ times m b (entry_of pivot k)

module _ {m n : ℕ} (W : Width m) (short : n ≤ half) (a b : ℕ) {pivot other : List ℕ} (P : Half m half pivot) (O : Half m n other) where
  pub combine_start : Filling (combined m a b pivot other) n (take n other) (take n other) 0
  combine_start = filling_start (combined m a b pivot other) n (take n other) (length-take-le n other (omega (arith, O.long)))

  module _ {items : List ℕ} {k : ℕ} (G : Filling (combined m a b pivot other) n (take n other) items k) where
    -- the coefficient at k is still there
    there : k < n → entry_of items k ≡ entry_of other k
    there l = filling_old G k 0 (omega arith) ∙ get_or-take n other k 0 l

    pub combine_element : k < n → entry_of items k < 2 ^ m
    combine_element l = subst (λ (x : ℕ). x < 2 ^ m) (sym (there l)) (O.inside k)

    pub combine_turn : {u v : ℕ} → k < n → u ≡ times m a (entry_of items k) → v ≡ times m b (entry_of pivot k)
        → Filling (combined m a b pivot other) n (take n other) (set items k (u ⊕ v)) (k + 1)
    combine_turn l eu ev = filling_turn G l (ap₂ (λ (x y : ℕ). x ⊕ y) (eu ∙ ap (times m a) (there l)) ev)

    pub combine_end : ((j : ℕ) → n ≤ j → times m b (entry_of pivot j) ≡ 0) → n ≤ k → Combined m n a b pivot other (items ++ drop n other)
    combine_end none low =
        record {
          shape =
              record {
                long = long;
                inside = λ j.
                    subst (λ (x : ℕ). x < 2 ^ m) (sym (entries j))
                    ((gf_laws m W).in_add (times m a (entry_of other j)) (times m b (entry_of pivot j)) ((gf_laws m W).in_mul a (entry_of other j))
                    ((gf_laws m W).in_mul b (entry_of pivot j)));
                ends = λ j h. entries j ∙ past j h;
              };
          sum = λ y.
              evaluate-half m W now (combined m a b pivot other) long entries y
              ∙ horner_combine (gf m) (gf_laws m W) half a b (entry_of other) (entry_of pivot) y
              ∙ sym
              (ap₂ (λ (u v : ℕ). times m a u ⊕ times m b v) (evaluate-half m W other (entry_of other) O.long (λ j. refl) y)
              (evaluate-half m W pivot (entry_of pivot) P.long (λ j. refl) y));
        }
      where
        now : List ℕ
        now = items ++ drop n other

        whole : Filling (combined m a b pivot other) half other now n
        whole = filled_front O.long short (filling_end G low)

        long : length now ≡ half
        long = filling_length whole ∙ O.long

        past : (j : ℕ) → n ≤ j → combined m a b pivot other j ≡ 0
        past j h =
            ap₂ (λ (u v : ℕ). times m a u ⊕ v) (O.ends j h) (none j h) ∙ add-nought (gf m) (gf_laws m W) (times m a 0)
            ∙ mul-nought (gf m) (gf_laws m W) a

        entries : (j : ℕ) → entry_of now j ≡ combined m a b pivot other j
        entries = filled_all whole (λ j h. O.ends j h ∙ sym (past j h))

-- ---- `raise`: `lower` is the coefficient before k, as it was

abbrev pub lifted : ℕ → ℕ → List ℕ → ℕ → ℕ
lifted m r old k = shifted 0 (entry_of old) k ⊕ times m r (entry_of old k)

pub record Raising (m n r : ℕ) (old items : List ℕ) (lower k : ℕ) : Type 0 where
  pub bound : k ≤ n + 1
  pub carried : lower ≡ shifted 0 (entry_of old) k
  pub filling : Filling (lifted m r old) (n + 1) (take (n + 1) old) items k

module _ {m n : ℕ} (W : Width m) (room : n < half) (r : ℕ) {old : List ℕ} (H : Half m n old) where
  pub raise_start : Raising m n r old (take (n + 1) old) 0 0
  unfolding shifted
  raise_start =
      record {
        bound = omega arith;
        carried = refl;
        filling = filling_start (lifted m r old) (n + 1) (take (n + 1) old) (length-take-le (n + 1) old (omega (arith, H.long)));
      }

  module _ {items : List ℕ} {lower k : ℕ} (R : Raising m n r old items lower k) where
    -- the coefficient at k is still there
    here : k < n + 1 → entry_of items k ≡ entry_of old k
    here l = filling_old R.filling k 0 (omega arith) ∙ get_or-take (n + 1) old k 0 l

    pub raise_element : k < n + 1 → entry_of items k < 2 ^ m
    raise_element l = subst (λ (x : ℕ). x < 2 ^ m) (sym (here l)) (H.inside k)

    pub raise_turn : {v : ℕ} → k < n + 1 → v ≡ times m r (entry_of items k)
        → Raising m n r old (set items k (lower ⊕ v)) (entry_of items k) (k + 1)
    unfolding shifted
    raise_turn l e =
        record {
          bound = omega arith;
          carried = here l ∙ ap (shifted 0 (entry_of old)) (sym (add-one k));
          filling = filling_turn R.filling l (ap₂ (λ (x y : ℕ). x ⊕ y) R.carried (e ∙ ap (times m r) (here l)));
        }

    pub raise_end : n + 1 ≤ k → Lifted m n r old (items ++ drop (n + 1) old)
    unfolding shifted
    raise_end l =
        record {
          shape =
              record {
                long = long;
                inside = λ j.
                    subst (λ (x : ℕ). x < 2 ^ m) (sym (entries j))
                    ((gf_laws m W).in_add (shifted 0 (entry_of old) j) (times m r (entry_of old j)) (in_shifted j)
                    ((gf_laws m W).in_mul r (entry_of old j)));
                ends = λ j h. entries j ∙ past j h;
              };
          multiple = λ y.
              evaluate-half m W now (lifted m r old) long entries y ∙ horner_raise (gf m) (gf_laws m W) (longest / 2 + 1) 0 r (entry_of old) top y
              ∙ (gf_laws m W).nought_add (times m (y ⊕ r) (horner (gf m) half (entry_of old) y))
              ∙ ap (times m (y ⊕ r)) (sym (evaluate-half m W old (entry_of old) H.long (λ j. refl) y));
        }
      where
        now : List ℕ
        now = items ++ drop (n + 1) old

        whole : Filling (lifted m r old) half old now (n + 1)
        whole = filled_front H.long (omega arith) (filling_end R.filling l)

        long : length now ≡ half
        long = filling_length whole ∙ H.long

        top : entry_of old (longest / 2 + 1) ≡ 0
        top = H.ends (longest / 2 + 1) (omega arith)

        in_shifted : (j : ℕ) → shifted 0 (entry_of old) j < 2 ^ m
        in_shifted zero = (gf_laws m W).in_nought
        in_shifted (suc j) = H.inside j

        past : (j : ℕ) → n + 1 ≤ j → lifted m r old j ≡ 0
        past zero h = absurd (not-suc-le-zero (subst (λ (i : ℕ). i ≤ 0) (add-one n) h))
        past (suc j) h =
            ap₂ (λ (u v : ℕ). u ⊕ times m r v) (H.ends j (omega arith)) (H.ends (suc j) (omega arith))
            ∙ (gf_laws m W).nought_add (times m r 0) ∙ mul-nought (gf m) (gf_laws m W) r

        entries : (j : ℕ) → entry_of now j ≡ lifted m r old j
        entries = filled_all whole (λ j h. H.ends j (omega arith) ∙ sym (past j h))

-- ---- `set_constant`

pub constant_end : {now : List ℕ} → now ≡ replicate half 0 → (c : ℕ) → Constant c (set now 0 c)
constant_end {now} e c =
    record {
      long = length-set now 0 c ∙ long;
      lowest = get_or-set_same now 0 c 0 (subst (λ (n : ℕ). 0 < n) (sym long) (omega arith));
      ends = λ j h. get_or-set_other now 0 j c 0 (λ z. omega arith) ∙ ap (λ (l : List ℕ). entry_of l j) e ∙ nought j (dec_lt j half);
    }
  where
    long : length now ≡ half
    long = ap length e ∙ length-replicate {A = ℕ} half 0

    nought : (j : ℕ) → Dec (j < half) → entry_of (replicate half 0) j ≡ 0
    nought j (yes l) = get_or-replicate half j 0 0 l
    nought j (no nl) = get_or-eq_default (replicate half 0) 0 {n = j} (omega (arith, length-replicate {A = ℕ} half 0))

pub constant_value : (m : ℕ) → Width m → {c : ℕ} {l : List ℕ} → Constant c l → (y : ℕ) → evaluate (gf m) l y ≡ c
constant_value m W {c} {l} C y =
    evaluate-half m W l (entry_of l) C.long (λ k. refl) y
    ∙ horner_constant (gf m) (gf_laws m W) (longest / 2 + 1) (entry_of l) (λ k. C.ends (suc k) (omega arith)) y ∙ C.lowest
