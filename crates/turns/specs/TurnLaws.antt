-- Laws of round robin: each sender has one turn, the turn moves by those that are tried alone, and who is not tried comes nearer to its turn by R at
-- least.
use Rattle.std.specs.Prelude.{◌≡◌, ◌⊎◌, Bool, ◌&&◌}
use Rattle.std.proofs.Math.Path.{refl, sym, ap, ap₂, subst}
use Rattle.std.proofs.Common.{◌∙◌, add-zero, not-suc-le-zero}
use Rattle.std.proofs.Math.Logic.{inl, inr}
use Rattle.std.proofs.Math.Bool.{true, false, cond}
use Prim.Native.Nat.{ℕ, zero, suc, ◌+◌, ◌-◌, ◌%◌, ◌<◌, ◌≤◌}
use Rattle.std.proofs.Math.Nat.{mod-eq_of_lt, mod-eq-sub-mod, mod-add-mod}
use Rattle.std.proofs.Math.Decide.{dec_lt}
use native.Mathlib.Omega.{arith}
use Rattle.std.proofs.Math.Dec.{ltb}
use borrow.Author.Tests.{ltb-false, le-ltb}
use Rattle.algebra.specs.Places.{count}
use Rattle.algebra.specs.PlaceLaws.{count-le, count_more, count_tests}
use Rattle.turns.specs.Turns.{sender_at, turn_of, others_before, is_tried, turn_after, next_turn}

-- ---- once round

-- the sender p has turn i
abbrev Has : ℕ → ℕ → ℕ → ℕ → Type 0
Has S next i p = (p ≡ next + i) ⊎ (p + S ≡ next + i)

wraps : (S x : ℕ) → x < S + S → (x % S < S) × ((x % S ≡ x) ⊎ (x % S + S ≡ x))
wraps S x l = decided (dec_lt x S)
  where
    decided : Dec (x < S) → (x % S < S) × ((x % S ≡ x) ⊎ (x % S + S ≡ x))
    decided (yes less) =
        let e = mod-eq_of_lt less in (subst (λ (y : ℕ). y < S) (sym e) less, inl e)
    decided (no more) =
        let rest : x - S < S = omega arith in
        let e : x % S ≡ x - S = mod-eq-sub-mod (omega arith) ∙ mod-eq_of_lt rest in
        (subst (λ (y : ℕ). y < S) (sym e) rest, inr (ap (λ (y : ℕ). y + S) e ∙ omega arith))

module _ {S next : ℕ} (inside : next < S) where
  sender_has : (i : ℕ) → i ≤ S → (sender_at S next i < S) × Has S next i (sender_at S next i)
  unfolding sender_at
  sender_has i l = wraps S (next + i) (omega arith)

  turn_has : (p : ℕ) → p < S → (turn_of S next p < S) × Has S next (turn_of S next p) p
  unfolding turn_of
  turn_has p l = found (wraps S (p + (S - next)) (omega arith))
    where
      found : {d : ℕ} → (d < S) × ((d ≡ p + (S - next)) ⊎ (d + S ≡ p + (S - next))) → (d < S) × Has S next d p
      found (less, inl e) = (less, inr (omega arith))
      found (less, inr e) = (less, inl (omega arith))

  one_turn : {i j p : ℕ} → i < S → j < S → Has S next i p → Has S next j p → i ≡ j
  one_turn l m (inl a) (inl b) = omega arith
  one_turn l m (inl a) (inr b) = omega arith
  one_turn l m (inr a) (inl b) = omega arith
  one_turn l m (inr a) (inr b) = omega arith

  one_sender : (i : ℕ) {p q : ℕ} → p < S → q < S → Has S next i p → Has S next i q → p ≡ q
  one_sender i l m (inl a) (inl b) = omega arith
  one_sender i l m (inl a) (inr b) = omega arith
  one_sender i l m (inr a) (inl b) = omega arith
  one_sender i l m (inr a) (inr b) = omega arith

  pub sender_below : (i : ℕ) → i ≤ S → sender_at S next i < S
  sender_below i l = (sender_has i l).0

  pub turn_below : (p : ℕ) → p < S → turn_of S next p < S
  turn_below p l = (turn_has p l).0

  pub turn_of_sender : (i : ℕ) → i < S → turn_of S next (sender_at S next i) ≡ i
  turn_of_sender i l =
      let (below, at) = sender_has i (omega arith) in
      let (turn, of) = turn_has (sender_at S next i) below in
      one_turn turn l of at

  pub sender_of_turn : (p : ℕ) → p < S → sender_at S next (turn_of S next p) ≡ p
  sender_of_turn p l =
      let (turn, of) = turn_has p l in
      let (below, at) = sender_has (turn_of S next p) (omega arith) in
      one_sender (turn_of S next p) below l at of

  pub sender_start : sender_at S next 0 ≡ next
  unfolding sender_at
  sender_start = ap (λ (x : ℕ). x % S) (add-zero next) ∙ mod-eq_of_lt inside

  -- whose turn follows is the next by number, and after the last one the first
  pub sender_following : (i : ℕ) → sender_at S next (suc i) ≡ (sender_at S next i + 1) % S
  unfolding sender_at
  sender_following i = ap (λ (x : ℕ). x % S) more ∙ sym (mod-add-mod (next + i) S 1)
    where
      more : next + suc i ≡ next + i + 1
      more = omega arith

-- ---- who is tried

module _ {S next : ℕ} (inside : next < S) (R : ℕ) (other : ℕ → Bool) where
  pub tried_at : (i : ℕ) → i < S → is_tried S next R other (sender_at S next i) ≡ (other (sender_at S next i) && ltb (others_before S next other i) R)
  unfolding is_tried
  tried_at i l = ap (λ (j : ℕ). other (sender_at S next i) && ltb (others_before S next other j) R) (turn_of_sender inside i l)

  pub others_more : (i : ℕ) → others_before S next other (suc i) ≡ others_before S next other i + cond (other (sender_at S next i)) 1 0
  unfolding others_before count
  others_more i = refl

  others_few : (i : ℕ) → others_before S next other i ≤ i
  unfolding others_before
  others_few i = count-le i (λ j. other (sender_at S next j))

  others_rise : {i k : ℕ} → i ≤ k → others_before S next other i ≤ others_before S next other k
  unfolding others_before
  others_rise {k = k} l = count_more k (λ j. other (sender_at S next j)) l

  -- ---- how far the turn goes

  -- after k turns it is at that of turn e, and as many were passed as were tried
  pub record Reaches (k : ℕ) : Type 0 where
    pub e : ℕ
    pub is : turn_after S next R other k ≡ sender_at S next e
    pub within : e ≤ k
    pub passed : (m : ℕ) → m ≤ R → m ≤ others_before S next other k → m ≤ e

  reaches : (k : ℕ) → k ≤ S → Reaches k
  unfolding turn_after
  reaches zero l = record { e = 0; is = sym (sender_start inside); within = omega arith; passed = λ m a b. omega (arith, others_few 0) }
  reaches (suc k) l =
      decided (other (sender_at S next k)) (ltb (others_before S next other k) R) refl refl (tried_at k l) (reaches k (omega arith))
    where
      -- not tried: the turn is where it was
      stayed : is_tried S next R other (sender_at S next k) ≡ false
          → ((m : ℕ) → m ≤ R → m ≤ others_before S next other (suc k) → m ≤ others_before S next other k) → Reaches k → Reaches (suc k)
      stayed f few E =
          record {
            e = E.e;
            is = ap (λ (b : Bool). cond b (sender_at S next (suc k)) (turn_after S next R other k)) f ∙ E.is;
            within = omega (arith, E.within);
            passed = λ m a n. E.passed m a (few m a n);
          }

      decided : (b t : Bool) → other (sender_at S next k) ≡ b → ltb (others_before S next other k) R ≡ t
          → is_tried S next R other (sender_at S next k) ≡ (other (sender_at S next k) && ltb (others_before S next other k) R) → Reaches k → Reaches
          (suc k)
      decided true true p q is E =
          record {
            e = suc k;
            is =
                ap (λ (b : Bool). cond b (sender_at S next (suc k)) (turn_after S next R other k)) (is ∙ ap₂ (λ (x y : Bool). x && y) p q);
            within = omega arith;
            passed = λ m a n. omega (arith, others_few (suc k));
          }
      decided true false p q is E =
          let many : R ≤ others_before S next other k = ltb-false (others_before S next other k) R q in
          stayed (is ∙ ap₂ (λ (x y : Bool). x && y) p q) (λ m a n. omega (arith, many)) E
      decided false t p q is E =
          let same : others_before S next other (suc k) ≡ others_before S next other k =
          others_more k ∙ ap (λ (b : Bool). others_before S next other k + cond b 1 0) p ∙ add-zero (others_before S next other k) in
          stayed (is ∙ ap (λ (x : Bool). x && ltb (others_before S next other k) R) p) (λ m a n. omega (arith, same)) E

  -- once R were tried the turn stays
  stops : (k : ℕ) {j : ℕ} → j ≤ k → k ≤ S → R ≤ others_before S next other j → turn_after S next R other k ≡ turn_after S next R other j
  unfolding turn_after
  stops zero {j} l m many =
      let same : 0 ≡ j = omega arith in ap (turn_after S next R other) same
  stops (suc k) {j} l m many = decided (dec_lt k j) (λ le. stops k le (omega arith) many)
    where
      decided : Dec (k < j) → (j ≤ k → turn_after S next R other k ≡ turn_after S next R other j)
          → turn_after S next R other (suc k) ≡ turn_after S next R other j
      decided (yes more) earlier =
          let same : suc k ≡ j = omega arith in ap (turn_after S next R other) same
      decided (no less) earlier =
          let le : j ≤ k = omega arith in
          let enough : R ≤ others_before S next other k = omega (arith, others_rise le) in
          let none : is_tried S next R other (sender_at S next k) ≡ false =
          tried_at k m ∙ ap (λ (t : Bool). other (sender_at S next k) && t) (le-ltb (others_before S next other k) R enough)
          ∙ never (other (sender_at S next k)) in
          ap (λ (b : Bool). cond b (sender_at S next (suc k)) (turn_after S next R other k)) none ∙ earlier le
        where
          never : (b : Bool) → (b && false) ≡ false
          never true = refl
          never false = refl

  pub next_below : next_turn S next R other < S
  unfolding next_turn
  next_below =
      let E = reaches S (omega arith) in
      subst (λ (p : ℕ). p < S) (sym E.is) (sender_below inside E.e E.within)

  -- "they begin after the sender last tried"
  pub next_follows : (i : ℕ) → i < S → is_tried S next R other (sender_at S next i) ≡ true
      → ((j : ℕ) → i < j → j < S → is_tried S next R other (sender_at S next j) ≡ false) → next_turn S next R other ≡ (sender_at S next i + 1) % S
  unfolding next_turn turn_after
  next_follows i l is others = from S l (omega arith) ∙ sender_following inside i
    where
      from : (k : ℕ) → i < k → k ≤ S → turn_after S next R other k ≡ sender_at S next (suc i)
      from zero lk m = absurd (not-suc-le-zero lk)
      from (suc k) lk m = decided (dec_lt i k) (λ less. from k less (omega arith))
        where
          decided : Dec (i < k) → (i < k → turn_after S next R other k ≡ sender_at S next (suc i))
              → cond (is_tried S next R other (sender_at S next k)) (sender_at S next (suc k)) (turn_after S next R other k) ≡ sender_at S next (suc i)
          decided (yes less) earlier =
              ap (λ (b : Bool). cond b (sender_at S next (suc k)) (turn_after S next R other k)) (others k less m) ∙ earlier less
          decided (no more) earlier =
              let same : k ≡ i = omega arith in
              ap (λ (b : Bool). cond b (sender_at S next (suc k)) (turn_after S next R other k))
              (ap (λ (j : ℕ). is_tried S next R other (sender_at S next j)) same ∙ is)
              ∙ ap (λ (j : ℕ). sender_at S next (suc j)) same

  -- Who is not tried comes nearer to its turn by R at least, which is what no sender starves by.
  pub nearer : (p : ℕ) → p < S → other p ≡ true → is_tried S next R other p ≡ false
      → turn_of S (next_turn S next R other) p + R ≤ turn_of S next p
  unfolding next_turn is_tried
  nearer p l is none =
      let d = turn_of S next p in
      let many : R ≤ others_before S next other d =
      ltb-false (others_before S next other d) R (sym (ap (λ (b : Bool). b && ltb (others_before S next other d) R) is) ∙ none) in
      let short : d < S = turn_below inside p l in
      let E = reaches d (omega arith) in
      let at : turn_after S next R other S ≡ sender_at S next E.e = stops S (omega arith) (omega arith) many ∙ E.is in
      let close : E.e ≤ S = omega (arith, E.within) in
      subst (λ (q : ℕ). turn_of S q p + R ≤ d) (sym at)
      (before E.within (E.passed R (omega arith) many) (turn_has inside p l) (sender_has inside E.e close)
      (turn_has (sender_below inside E.e close) p l))
    where
      -- from the turn of sender q, at e, it is e nearer to the turn of p
      before : {d e q f : ℕ} → e ≤ d → R ≤ e → (d < S) × Has S next d p → (q < S) × Has S next e q → (f < S) × Has S q f p → f + R ≤ d
      before w r (ld, inl a) (lq, inl b) (lf, inl g) = omega arith
      before w r (ld, inl a) (lq, inl b) (lf, inr g) = omega arith
      before w r (ld, inl a) (lq, inr b) (lf, inl g) = omega arith
      before w r (ld, inl a) (lq, inr b) (lf, inr g) = omega arith
      before w r (ld, inr a) (lq, inl b) (lf, inl g) = omega arith
      before w r (ld, inr a) (lq, inl b) (lf, inr g) = omega arith
      before w r (ld, inr a) (lq, inr b) (lf, inl g) = omega arith
      before w r (ld, inr a) (lq, inr b) (lf, inr g) = omega arith

-- ---- who is tried, and whose turn is next, depends on the others alone

module _ {S next : ℕ} (inside : next < S) (R : ℕ) {f g : ℕ → Bool} (alike : (p : ℕ) → p < S → f p ≡ g p) where
  others_same : (i : ℕ) → i ≤ S → others_before S next f i ≡ others_before S next g i
  unfolding others_before
  others_same i l =
      count_tests i (λ j. f (sender_at S next j)) (λ j. g (sender_at S next j)) (λ j m. alike (sender_at S next j) (sender_below inside j (omega arith)))

  pub tried_same : (p : ℕ) → p < S → is_tried S next R f p ≡ is_tried S next R g p
  unfolding is_tried
  tried_same p l =
      ap₂ (λ (b : Bool) (k : ℕ). b && ltb k R) (alike p l) (others_same (turn_of S next p) (omega (arith, turn_below inside p l)))

  turns_same : (i : ℕ) → i ≤ S → turn_after S next R f i ≡ turn_after S next R g i
  unfolding turn_after
  turns_same zero l = refl
  turns_same (suc i) l =
      ap₂ (λ (b : Bool) (q : ℕ). cond b (sender_at S next (suc i)) q)
      (tried_same (sender_at S next i) (sender_below inside i (omega arith))) (turns_same i (omega arith))

  pub next_same : next_turn S next R f ≡ next_turn S next R g
  unfolding next_turn
  next_same = turns_same S (omega arith)

-- where there are no others the turn does not move
pub next_unmoved : {S next : ℕ} → next < S → (R : ℕ) (f : ℕ → Bool) → ((p : ℕ) → p < S → f p ≡ false) → next_turn S next R f ≡ next
unfolding next_turn turn_after is_tried
next_unmoved {S} {next} inside R f none = unmoved S (omega arith)
  where
    unmoved : (i : ℕ) → i ≤ S → turn_after S next R f i ≡ next
    unmoved zero l = refl
    unmoved (suc i) l =
        ap (λ (b : Bool). cond (b && ltb (others_before S next f (turn_of S next (sender_at S next i))) R) (sender_at S next (suc i))
        (turn_after S next R f i))
        (none (sender_at S next i) (sender_below inside i (omega arith)))
        ∙ unmoved i (omega arith)
