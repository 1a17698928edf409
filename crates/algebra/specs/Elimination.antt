-- Gaussian elimination: any finite number of linear equations has an echelon form with the same solutions.
--
-- One more row is brought in by going through the places from the left. Where it has an entry and a row leads, that row is taken away; where none
-- leads, it becomes the row that leads there.
use Rattle.std.specs.Prelude.{◌≡◌, ◌≢◌, ◌↔◌, Bool, false}
use Rattle.std.proofs.Math.Path.{refl, sym, ap}
use Rattle.std.proofs.Common.{ap₂, ◌∙◌, subst, not-suc-le-zero, arith}
use Rattle.std.proofs.Math.Bool.{true}
use Rattle.std.proofs.lemmas.Bool.{false≢true}
use Prim.Native.Nat.{ℕ, zero, suc, ◌+◌ as ◌+ℕ◌, ◌<◌, ◌≤◌}
use Rattle.std.proofs.Math.Decide.{ℕ_discrete, dec_lt}
use Rattle.algebra.specs.AllLaws.{below_suc}
use Rattle.algebra.specs.Field.{Ops, Laws}
use Rattle.algebra.specs.FieldLaws.{add-nought, nought-mul, mul-nought, mul-one, mul_cancel, inv≢nought}
use Rattle.algebra.specs.SumLaws.{sum_cong, sum-nought, sum-mul, in_sum}
use Rattle.algebra.specs.Echelon.{dot, dot-add, Echelon, Solves, Inside, put, put_at, put_other}

module _ {A : Type 0} (K : Ops A) (F : Laws K) (n : ℕ) where
  infixl 65 ◌+◌
  infixl 70 ◌·◌
  open K use {In, nought, one, inv, add as ◌+◌, mul as ◌·◌}

  dot-mul : (c : A) (r w : ℕ → A) → dot K n (λ j. c · r j) w ≡ c · dot K n r w
  unfolding dot
  dot-mul c r w = sum_cong K n (λ j l. F.mul_assoc c (r j) (w j)) ∙ sym (sum-mul K F n c (λ j. r j · w j))

  in_dot : (r w : ℕ → A) → In (dot K n r w)
  unfolding dot
  in_dot r w = in_sum K F n (λ j. r j · w j) (λ j l. F.in_mul (r j) (w j))

  -- with a multiple of a row that the word solves added, a row says the same of it
  pub dot_reduced : (r s w : ℕ → A) (c : A) → dot K n s w ≡ nought → dot K n (λ j. r j + c · s j) w ≡ dot K n r w
  dot_reduced r s w c z =
      dot-add K F n r (λ j. c · s j) w ∙ ap (λ (x : A). dot K n r w + x) (dot-mul c s w ∙ ap (λ (x : A). c · x) z ∙ mul-nought K F c)
      ∙ add-nought K F (dot K n r w)

  pub dot_empty : (r w : ℕ → A) → ((j : ℕ) → j < n → r j ≡ nought) → dot K n r w ≡ nought
  unfolding dot
  dot_empty r w z = sum-nought K F n (λ j l. ap (λ (x : A). x · w j) (z j l) ∙ nought-mul K F (w j))

  -- ---- a row that leads where none did

  module _ (rows : ℕ → ℕ → A) (leads : ℕ → Bool) (p : ℕ) (l : p < n) (free : leads p ≡ false) (r : ℕ → A) where
    pub stored_solves : (w : ℕ → A) → Solves K n (put rows p r) (put leads p true) w ↔ (Solves K n rows leads w × (dot K n r w ≡ nought))
    stored_solves w = (
      λ s. (λ q m t. kept s q m t (ℕ_discrete q p), ap (λ (x : ℕ → A). dot K n x w) (sym (put_at rows p r)) ∙ s p l (put_at leads p true)),
      λ s q m t. back s q m t (ℕ_discrete q p),
    )
      where
        kept : Solves K n (put rows p r) (put leads p true) w → (q : ℕ) → q < n → leads q ≡ true → Dec (q ≡ p) → dot K n (rows q) w ≡ nought
        kept s q m t (yes e) = absurd (false≢true (sym free ∙ ap leads (sym e) ∙ t))
        kept s q m t (no ne) = ap (λ (x : ℕ → A). dot K n x w) (sym (put_other rows p r q ne)) ∙ s q m (put_other leads p true q ne ∙ t)

        back : Solves K n rows leads w × (dot K n r w ≡ nought) → (q : ℕ) → q < n → put leads p true q ≡ true → Dec (q ≡ p)
            → dot K n (put rows p r q) w ≡ nought
        back s q m t (yes e) = ap (λ (i : ℕ). dot K n (put rows p r i) w) e ∙ ap (λ (x : ℕ → A). dot K n x w) (put_at rows p r) ∙ s.1
        back s q m t (no ne) = ap (λ (x : ℕ → A). dot K n x w) (put_other rows p r q ne) ∙ s.0 q m (sym (put_other leads p true q ne) ∙ t)

    pub stored_echelon : Echelon K n rows leads → r p ≡ one → ((j : ℕ) → j < p → r j ≡ nought) → Echelon K n (put rows p r) (put leads p true)
    stored_echelon E u z = record { unit = λ q m t. unit q m t (ℕ_discrete q p); empty = λ q m t. empty q m t (ℕ_discrete q p) }
      where
        unit : (q : ℕ) → q < n → put leads p true q ≡ true → Dec (q ≡ p) → put rows p r q q ≡ one
        unit q m t (yes e) = subst (λ (i : ℕ). put rows p r i i ≡ one) (sym e) (ap (λ (x : ℕ → A). x p) (put_at rows p r) ∙ u)
        unit q m t (no ne) = ap (λ (x : ℕ → A). x q) (put_other rows p r q ne) ∙ E.unit q m (sym (put_other leads p true q ne) ∙ t)

        empty : (q : ℕ) → q < n → put leads p true q ≡ true → Dec (q ≡ p) → (j : ℕ) → j < q → put rows p r q j ≡ nought
        empty q m t (yes e) j a =
            ap (λ (i : ℕ). put rows p r i j) e ∙ ap (λ (x : ℕ → A). x j) (put_at rows p r) ∙ z j (subst (λ (i : ℕ). j < i) e a)
        empty q m t (no ne) j a = ap (λ (x : ℕ → A). x j) (put_other rows p r q ne) ∙ E.empty q m (sym (put_other leads p true q ne) ∙ t) j a

  -- ---- any row can be brought in

  -- an echelon form of the rows and r
  With : (ℕ → ℕ → A) → (ℕ → Bool) → (ℕ → A) → Type 0
  With rows leads r =
      (rows' : ℕ → ℕ → A) × (leads' : ℕ → Bool) × Echelon K n rows' leads'
      × ((w : ℕ → A) → Solves K n rows' leads' w ↔ (Solves K n rows leads w × (dot K n r w ≡ nought)))

  -- rows that say the same of every solution have the same forms
  with_same : (rows : ℕ → ℕ → A) (leads : ℕ → Bool) (r s : ℕ → A)
      → ((w : ℕ → A) → Solves K n rows leads w → dot K n r w ≡ dot K n s w) → With rows leads r → With rows leads s
  unfolding With
  with_same rows leads r s same (rows', leads', E, k) = (
    rows',
    leads',
    E,
    λ w. (λ z. (((k w).0 z).0, sym (same w ((k w).0 z).0) ∙ ((k w).0 z).1), λ z. (k w).1 (z.0, same w z.0 ∙ z.1)),
  )

  -- scaled to begin with one, r is the row that leads at p
  lead_at_lem : (rows : ℕ → ℕ → A) (leads : ℕ → Bool) (p : ℕ) → p < n → leads p ≡ false → Echelon K n rows leads → (r : ℕ → A) → In (r p) → r p ≢ nought
      → ((j : ℕ) → j < p → r j ≡ nought) → With rows leads r
  unfolding With
  lead_at_lem rows leads p l free E r h ne z = (
    put rows p s,
    put leads p true,
    stored_echelon rows leads p l free s E unit empty,
    λ w. (
      λ q.
          let both = (stored_solves rows leads p l free s w).0 q in (
            both.0,
            mul_cancel K F c (dot K n r w) (F.in_inv (r p)) (in_dot r w) (inv≢nought K F (r p) h ne) (sym (dot-mul c r w) ∙ both.1),
          ),
      λ q. (stored_solves rows leads p l free s w).1 (q.0, dot-mul c r w ∙ ap (λ (x : A). c · x) q.1 ∙ mul-nought K F c),
    ),
  )
    where
      c : A
      c = inv (r p)

      s : ℕ → A
      s j = c · r j

      unit : s p ≡ one
      unit = F.mul_comm c (r p) ∙ F.mul_inv (r p) h ne

      empty : (j : ℕ) → j < p → s j ≡ nought
      empty j a = ap (λ (x : A). c · x) (z j a) ∙ mul-nought K F c

  bring_in : (d : ℕ) (rows : ℕ → ℕ → A) (leads : ℕ → Bool) → Echelon K n rows leads → (r : ℕ → A) → Inside K n r
      → (p : ℕ) → n ≤ p +ℕ d → ((j : ℕ) → j < p → r j ≡ nought) → With rows leads r
  unfolding With
  bring_in zero rows leads E r h p m z =
      (rows, leads, E, λ w. (λ s. (s, dot_empty r w (λ j l. z j (omega arith))), λ s. s.0))
  bring_in (suc d) rows leads E r h p m z =
      at (dec_lt p n) (F.nought? (r p)) (leads p) refl (λ s hs zs. bring_in d rows leads E s hs (suc p) (omega arith) zs)
    where
      reduced : ℕ → A
      reduced j = r j + r p · rows p j

      at : Dec (p < n) → Dec (r p ≡ nought) → (b : Bool) → leads p ≡ b
          → ((s : ℕ → A) → Inside K n s → ((j : ℕ) → j < suc p → s j ≡ nought) → With rows leads s) → With rows leads r
      at (no nl) q b t again = (rows, leads, E, λ w. (λ s. (s, dot_empty r w (λ j l. z j (omega arith))), λ s. s.0))
      at (yes l) (yes e) b t again = again r h (below_suc (λ (j : ℕ). r j ≡ nought) p z e)
      at (yes l) (no ne) false t again = lead_at_lem rows leads p l t E r (h p l) ne z
      at (yes l) (no ne) true t again =
          with_same rows leads reduced r (λ w s. dot_reduced r (rows p) w (r p) (s p l t))
          (again reduced (λ j k. F.in_add (r j) (r p · rows p j) (h j k) (F.in_mul (r p) (rows p j)))
          (below_suc (λ (j : ℕ). reduced j ≡ nought) p
          (λ j a. ap₂ (λ (x y : A). x + r p · y) (z j a) (E.empty p l t j a) ∙ F.nought_add (r p · nought) ∙ mul-nought K F (r p))
          (ap (λ (x : A). r p + r p · x) (E.unit p l t) ∙ ap (λ (x : A). r p + x) (mul-one K F (r p) (h p l)) ∙ F.add_self (r p))))

  -- an echelon form of any k rows
  pub echelon_form : (k : ℕ) (r : ℕ → ℕ → A) → ((i : ℕ) → i < k → Inside K n (r i))
      → (rows : ℕ → ℕ → A) × (leads : ℕ → Bool) × Echelon K n rows leads
      × ((w : ℕ → A) → Solves K n rows leads w ↔ ((i : ℕ) → i < k → dot K n (r i) w ≡ nought))
  unfolding With
  echelon_form zero r h = (
    (λ p j. nought),
    (λ p. false),
    record { unit = λ p l t. absurd (false≢true t); empty = λ p l t. absurd (false≢true t) },
    λ w. (λ s i l. absurd (not-suc-le-zero l), λ s p l t. absurd (false≢true t)),
  )
  echelon_form (suc k) r h =
      let (rows, leads, E, S) = echelon_form k r (λ i l. h i (omega arith)) in
      let (rows', leads', E', S') = bring_in n rows leads E (r k) (h k (omega arith)) 0 (omega arith) (λ j l. absurd (not-suc-le-zero l)) in (
        rows',
        leads',
        E',
        λ w. (
          λ s. below_suc (λ (i : ℕ). dot K n (r i) w ≡ nought) k ((S w).0 ((S' w).0 s).0) ((S' w).0 s).1,
          λ s. (S' w).1 ((S w).1 (λ i l. s i (omega arith)), s k (omega arith)),
        ),
      )
