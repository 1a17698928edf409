-- The pass of repair over the roots z of the code: it finds a pair of halves of low degree whose discrepancies under the syndromes s are all
-- nought, without an inverse and without a special case.
--
-- Two pairs P and Q with bounds p and q on their degrees are kept. At each root one of them is the pivot: the one with the smaller bound if
-- its discrepancy is not nought, else the other one. The other pair takes so much of the pivot that its discrepancy becomes nought, and the
-- pivot is multiplied by y + z², which brings its own to nought and its bound up by two. Why a pivot always exists, and why the two stay
-- independent, is the third part of the invariant: their determinant is a nonzero multiple of the nodal polynomial of the squares so far.
-- Assumes nothing.
use Rattle.std.specs.Prelude.{◌≡◌, refl, ◌≢◌, ℕ, suc, ◌+◌ as ◌+ℕ◌, ◌*◌, ◌/◌, ◌<◌, ◌≤◌}
use Rattle.std.proofs.Common.{sym, ◌∙◌, not-suc-le-zero, le_of_lt, add-one, arith}
use Rattle.std.proofs.Math.Path.{ap, ap₂}
use borrow.Author.Count.{below_more}
use Rattle.algebra.specs.Field.{Ops, Laws}
use Rattle.algebra.specs.FieldLaws.{ring, mul-nought, nought-mul, mul_cancel, no_zero_divisors, square_injective}
use Rattle.algebra.specs.Poly.{poly_weaken, poly_cong, poly_const, poly_add, poly_scale, poly_linear, Poly.vanish}
use Rattle.algebra.specs.Locator.Split.{Halves, Bounded, discrepancy, in_discrepancy, det, det_comm, orthogonal}
use Rattle.algebra.specs.Locator.Nodal.{Points, fewer_points, square_points, nodal, nodal_cong, in_nodal, nodal_root}

-- after the first i roots
pub record Invariant {A : Type 0} (K : Ops A) (z s : ℕ → A) (i : ℕ) (P : Halves A) (p : ℕ) (Q : Halves A) (q : ℕ) : Type 0 where
  pub first_bounded : Bounded K p P
  pub second_bounded : Bounded K q Q
  -- so one bound is even and the other is odd
  pub bounds : p +ℕ q ≡ 2 * i +ℕ 1
  pub first_solves : (k : ℕ) → k < i → discrepancy K (z k) (s k) P ≡ K.nought
  pub second_solves : (k : ℕ) → k < i → discrepancy K (z k) (s k) Q ≡ K.nought
  pub factor : A
  pub in_factor : K.In factor
  pub factor≢nought : factor ≢ K.nought
  pub independent : (y : A) → det K P Q y ≡ K.mul factor (nodal K i (λ k. K.mul (z k) (z k)) y)

-- roots and syndromes may be given by other sequences that agree below i
pub invariant_cong : {A : Type 0} {K : Ops A} {z z' s s' : ℕ → A} {i p q : ℕ} {P Q : Halves A} → ((k : ℕ) → k < i → z' k ≡ z k)
    → ((k : ℕ) → k < i → s' k ≡ s k) → Invariant K z s i P p Q q → Invariant K z' s' i P p Q q
invariant_cong {A} {K} {z} {z'} {s} {s'} {i} {p} {q} {P} {Q} ez es h =
    record {
      first_bounded = h.first_bounded;
      second_bounded = h.second_bounded;
      bounds = h.bounds;
      first_solves = λ k l. ap₂ (λ (x y : A). discrepancy K x y P) (ez k l) (es k l) ∙ h.first_solves k l;
      second_solves = λ k l. ap₂ (λ (x y : A). discrepancy K x y Q) (ez k l) (es k l) ∙ h.second_solves k l;
      factor = h.factor;
      in_factor = h.in_factor;
      factor≢nought = h.factor≢nought;
      independent = λ y.
          h.independent y
          ∙ ap (K.mul h.factor) (nodal_cong K i (λ k l. ap₂ (λ (a b : A). K.mul a b) (ez k l) (ez k l)) y);
    }

-- what the pass begins with: P = 1 and Q = x
pub record Start {A : Type 0} (K : Ops A) (P Q : Halves A) : Type 0 where
  pub first_even : (y : A) → P.even y ≡ K.one
  pub first_odd : (y : A) → P.odd y ≡ K.nought
  pub second_even : (y : A) → Q.even y ≡ K.nought
  pub second_odd : (y : A) → Q.odd y ≡ K.one

-- The first of two pairs, with the discrepancies a and b and the bounds p and q, may be the pivot: its bound is the smaller one and its
-- discrepancy is not nought, or the other pair's discrepancy is nought.
pub data Pivot {A : Type 0} (K : Ops A) (a b : A) (p q : ℕ) : Type 0 where
  smaller : p ≤ q → a ≢ K.nought → Pivot K a b p q
  remaining : b ≡ K.nought → Pivot K a b p q

-- the pivot's new value, (y + r)·P
pub record Raised {A : Type 0} (K : Ops A) (r : A) (P P' : Halves A) : Type 0 where
  pub even_raised : (y : A) → P'.even y ≡ K.mul (K.add y r) (P.even y)
  pub odd_raised : (y : A) → P'.odd y ≡ K.mul (K.add y r) (P.odd y)

-- the other one's new value, a·Q + b·P
pub record Reduced {A : Type 0} (K : Ops A) (a b : A) (P Q Q' : Halves A) : Type 0 where
  pub even_reduced : (y : A) → Q'.even y ≡ K.add (K.mul a (Q.even y)) (K.mul b (P.even y))
  pub odd_reduced : (y : A) → Q'.odd y ≡ K.add (K.mul a (Q.odd y)) (K.mul b (P.odd y))

-- one turn of the pass, at the root z with the syndrome s: the pivot's bound grows by two, and the other one's stays
pub data Step {A : Type 0} (K : Ops A) (z s : A) (P : Halves A) (p : ℕ) (Q : Halves A) (q : ℕ) : Halves A → ℕ → Halves A → ℕ → Type 0 where
  first_pivot : {P' Q' : Halves A} → Pivot K (discrepancy K z s P) (discrepancy K z s Q) p q → Raised K (K.mul z z) P P'
      → Reduced K (discrepancy K z s P) (discrepancy K z s Q) P Q Q' → Step K z s P p Q q P' (p +ℕ 2) Q' q
  second_pivot : {P' Q' : Halves A} → Pivot K (discrepancy K z s Q) (discrepancy K z s P) q p → Raised K (K.mul z z) Q Q'
      → Reduced K (discrepancy K z s Q) (discrepancy K z s P) Q P P' → Step K z s P p Q q P' p Q' (q +ℕ 2)

module _ {A : Type 0} (K : Ops A) (F : Laws K) where
  infixl 65 ◌+◌
  infixl 70 ◌·◌
  open K use {In, nought, one, add as ◌+◌, mul as ◌·◌}

  pub pass_start : {z s : ℕ → A} {P Q : Halves A} → Start K P Q → Invariant K z s 0 P 0 Q 1
  unfolding det nodal
  pass_start {P} {Q} h =
      record {
        first_bounded =
            record { even_poly = poly_cong h.first_even (poly_const K F F.in_one); odd_poly = vanish h.first_odd };
        second_bounded =
            record { even_poly = vanish h.second_even; odd_poly = poly_cong h.second_odd (poly_const K F F.in_one) };
        bounds = refl;
        first_solves = λ k l. absurd (not-suc-le-zero l);
        second_solves = λ k l. absurd (not-suc-le-zero l);
        factor = one;
        in_factor = F.in_one;
        factor≢nought = F.one≢nought;
        independent = λ y. unit (P.odd y) (P.even y) (Q.even y) (Q.odd y) (h.first_odd y) (h.first_even y) (h.second_odd y);
      }
    where
      unit : (a b c d : A) → a ≡ nought → b ≡ one → d ≡ one → a · c + b · d ≡ one · one
      unit a b c d ha hb hd = ap₂ (λ (x y : A). x · c + y · d) ha hb ∙ ap (λ (x : A). nought · c + one · x) hd ∙ plain c
        where
          plain : (c : A) → nought · c + one · one ≡ one · one
          plain c = simp ring

  pub pass_swap : {z s : ℕ → A} {i p q : ℕ} {P Q : Halves A} → Invariant K z s i P p Q q → Invariant K z s i Q q P p
  pass_swap {i} {p} {q} {P} {Q} h =
      record {
        first_bounded = h.second_bounded;
        second_bounded = h.first_bounded;
        bounds = exchanged;
        first_solves = h.second_solves;
        second_solves = h.first_solves;
        factor = h.factor;
        in_factor = h.in_factor;
        factor≢nought = h.factor≢nought;
        independent = λ y. det_comm K F Q P y ∙ h.independent y;
      }
    where
      exchanged : q +ℕ p ≡ 2 * i +ℕ 1
      exchanged = omega arith

  raised_bounded : {d : ℕ} {r : A} {P P' : Halves A} → Bounded K d P → Raised K r P P' → Bounded K (d +ℕ 2) P'
  raised_bounded {d} {r} b h =
      record {
        even_poly = poly_cong h.even_raised (poly_weaken even_grows (poly_linear K F r b.even_poly));
        odd_poly = poly_cong h.odd_raised (poly_weaken odd_grows (poly_linear K F r b.odd_poly));
      }
    where
      even_grows : suc (suc (d / 2)) ≤ suc ((d +ℕ 2) / 2)
      even_grows = omega arith

      odd_grows : suc (suc d / 2) ≤ suc (d +ℕ 2) / 2
      odd_grows = omega arith

  -- a pivot that is not the smaller one is not added at all
  reduced_bounded : {a b : A} {p q : ℕ} {P Q Q' : Halves A} → Pivot K a b p q → Bounded K p P → Bounded K q Q → Reduced K a b P Q Q'
      → Bounded K q Q'
  reduced_bounded {a} {b} {p} {q} (smaller l ne) hP hQ h =
      record {
        even_poly =
            poly_cong h.even_reduced
            (poly_add K F (poly_scale K F a hQ.even_poly) (poly_weaken even_fits (poly_scale K F b hP.even_poly)));
        odd_poly =
            poly_cong h.odd_reduced
            (poly_add K F (poly_scale K F a hQ.odd_poly) (poly_weaken odd_fits (poly_scale K F b hP.odd_poly)));
      }
    where
      even_fits : suc (p / 2) ≤ suc (q / 2)
      even_fits = omega arith

      odd_fits : suc p / 2 ≤ suc q / 2
      odd_fits = omega arith
  reduced_bounded {a} {b} {P} {Q} (remaining z) hP hQ h =
      record {
        even_poly = poly_cong (λ y. h.even_reduced y ∙ alone (Q.even y) (P.even y)) (poly_scale K F a hQ.even_poly);
        odd_poly = poly_cong (λ y. h.odd_reduced y ∙ alone (Q.odd y) (P.odd y)) (poly_scale K F a hQ.odd_poly);
      }
    where
      alone : (u v : A) → a · u + b · v ≡ a · u
      alone u v = ap (λ (x : A). a · u + x · v) z ∙ plain (a · u) v
        where
          plain : (u v : A) → u + nought · v ≡ u
          plain u v = simp ring

  raised_discrepancy : {r : A} {P P' : Halves A} → Raised K r P P' → (z s : A)
      → discrepancy K z s P' ≡ (z · z + r) · discrepancy K z s P
  unfolding discrepancy
  raised_discrepancy {r} {P} h z s =
      ap₂ (λ (u v : A). (one + s · z) · u + s · v) (h.odd_raised (z · z)) (h.even_raised (z · z))
      ∙ sorted (z · z + r) (one + s · z) s (P.odd (z · z)) (P.even (z · z))
    where
      sorted : (c d s a b : A) → d · (c · a) + s · (c · b) ≡ c · (d · a + s · b)
      sorted c d s a b = simp ring

  reduced_discrepancy : {a b : A} {P Q Q' : Halves A} → Reduced K a b P Q Q' → (z s : A)
      → discrepancy K z s Q' ≡ a · discrepancy K z s Q + b · discrepancy K z s P
  unfolding discrepancy
  reduced_discrepancy {a} {b} {P} {Q} h z s =
      ap₂ (λ (u v : A). (one + s · z) · u + s · v) (h.odd_reduced (z · z)) (h.even_reduced (z · z))
      ∙ sorted a b (one + s · z) s (Q.odd (z · z)) (Q.even (z · z)) (P.odd (z · z)) (P.even (z · z))
    where
      sorted : (a b d s u v u' v' : A) → d · (a · u + b · u') + s · (a · v + b · v') ≡ a · (d · u + s · v) + b · (d · u' + s · v')
      sorted a b d s u v u' v' = simp ring

  turned_det : {a b r : A} {P P' Q Q' : Halves A} → Raised K r P P' → Reduced K a b P Q Q' → (y : A)
      → det K P' Q' y ≡ a · ((y + r) · det K P Q y)
  unfolding det
  turned_det {a} {b} {r} {P} {P'} {Q} {Q'} h h' y =
      ap₂ (λ (u v : A). u · Q'.even y + v · Q'.odd y) (h.odd_raised y) (h.even_raised y)
      ∙ ap₂ (λ (u v : A). (y + r) · P.odd y · u + (y + r) · P.even y · v) (h'.even_reduced y) (h'.odd_reduced y)
      ∙ sorted (y + r) a b (P.odd y) (P.even y) (Q.odd y) (Q.even y)
    where
      sorted : (c a b u v u' v' : A) → c · u · (a · v' + b · v) + c · v · (a · u' + b · u) ≡ a · (c · (u · v' + v · u'))
      sorted c a b u v u' v' = simp ring

  -- away from the roots so far the two are independent
  pub pass_independent : {z s : ℕ → A} {i p q : ℕ} {P Q : Halves A} → Points K i z → Invariant K z s i P p Q q → (x : A) → In x
      → ((k : ℕ) → k < i → x ≢ z k) → det K P Q (x · x) ≢ nought
  pass_independent {z} {i} roots h x hx new e =
      let (k, l, q) = nodal_root K F (square_points K F roots) (x · x) (F.in_mul x x) vanishing in
      new k l (square_injective K F x (z k) hx (roots.inside k l) q)
    where
      squares : ℕ → A
      squares k = z k · z k

      vanishing : nodal K i squares (x · x) ≡ nought
      vanishing =
          mul_cancel K F h.factor (nodal K i squares (x · x)) h.in_factor (in_nodal K F i squares (x · x)) h.factor≢nought
          (sym (h.independent (x · x)) ∙ e)

  module _ {t : ℕ} {z s : ℕ → A} (roots : Points K t z) {i : ℕ} (l : i < t) where
    -- so the discrepancies at a new root cannot both be nought
    one_discrepancy : {P Q : Halves A} {p q : ℕ} → Invariant K z s i P p Q q → discrepancy K (z i) (s i) Q ≡ nought
        → discrepancy K (z i) (s i) P ≢ nought
    one_discrepancy {P} {Q} h zQ zP =
        pass_independent (fewer_points (le_of_lt l) roots) h (z i) (roots.inside i l) (λ k m e. roots.distinct k i m l (sym e))
        (orthogonal K F (z i) (s i) P Q zP zQ)

    turn : {P P' Q Q' : Halves A} {p q : ℕ} → Invariant K z s i P p Q q
        → Pivot K (discrepancy K (z i) (s i) P) (discrepancy K (z i) (s i) Q) p q
        → Raised K (z i · z i) P P' → Reduced K (discrepancy K (z i) (s i) P) (discrepancy K (z i) (s i) Q) P Q Q'
        → Invariant K z s (i +ℕ 1) P' (p +ℕ 2) Q' q
    unfolding nodal
    turn {P} {P'} {Q} {Q'} {p} {q} h pivot raised reduced =
        record {
          first_bounded = raised_bounded h.first_bounded raised;
          second_bounded = reduced_bounded pivot h.first_bounded h.second_bounded reduced;
          bounds = grown;
          first_solves = below_more (λ k. discrepancy K (z k) (s k) P' ≡ nought) i raised_earlier raised_here;
          second_solves = below_more (λ k. discrepancy K (z k) (s k) Q' ≡ nought) i reduced_earlier reduced_here;
          factor = a · h.factor;
          in_factor = F.in_mul a h.factor;
          factor≢nought =
              no_zero_divisors K F a h.factor (in_discrepancy K F (z i) (s i) P) h.in_factor (pivotal pivot) h.factor≢nought;
          independent = λ y.
              turned_det raised reduced y ∙ ap (λ (v : A). a · ((y + r) · v)) (h.independent y) ∙ sorted a (y + r) h.factor (nodal K i squares y)
              ∙ ap (λ (m : ℕ). a · h.factor · nodal K m squares y) (sym (add-one i));
        }
      where
        a : A
        a = discrepancy K (z i) (s i) P

        b : A
        b = discrepancy K (z i) (s i) Q

        r : A
        r = z i · z i

        squares : ℕ → A
        squares k = z k · z k

        grown : p +ℕ 2 +ℕ q ≡ 2 * (i +ℕ 1) +ℕ 1
        grown = omega arith

        pivotal : Pivot K a b p q → a ≢ nought
        pivotal (smaller m ne) = ne
        pivotal (remaining zb) = one_discrepancy h zb

        raised_earlier : (k : ℕ) → k < i → discrepancy K (z k) (s k) P' ≡ nought
        raised_earlier k m =
            raised_discrepancy raised (z k) (s k) ∙ ap (λ (v : A). (z k · z k + r) · v) (h.first_solves k m) ∙ mul-nought K F (z k · z k + r)

        raised_here : discrepancy K (z i) (s i) P' ≡ nought
        raised_here = raised_discrepancy raised (z i) (s i) ∙ ap (λ (v : A). v · a) (F.add_self r) ∙ nought-mul K F a

        reduced_earlier : (k : ℕ) → k < i → discrepancy K (z k) (s k) Q' ≡ nought
        reduced_earlier k m =
            reduced_discrepancy reduced (z k) (s k) ∙ ap₂ (λ (u v : A). a · u + b · v) (h.second_solves k m) (h.first_solves k m) ∙ plain a b
          where
            plain : (a b : A) → a · nought + b · nought ≡ nought
            plain a b = simp ring

        reduced_here : discrepancy K (z i) (s i) Q' ≡ nought
        reduced_here = reduced_discrepancy reduced (z i) (s i) ∙ crosswise a b
          where
            crosswise : (a b : A) → a · b + b · a ≡ nought
            crosswise a b = simp ring

        sorted : (a c f n : A) → a · (c · (f · n)) ≡ a · f · (c · n)
        sorted a c f n = simp ring

    pub pass_step : {P P' Q Q' : Halves A} {p p' q q' : ℕ} → Invariant K z s i P p Q q → Step K (z i) (s i) P p Q q P' p' Q' q'
        → Invariant K z s (i +ℕ 1) P' p' Q' q'
    pass_step h (first_pivot pivot raised reduced) = turn h pivot raised reduced
    pass_step h (second_pivot pivot raised reduced) = pass_swap (turn (pass_swap h) pivot raised reduced)
