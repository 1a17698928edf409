-- Linear equations in echelon form, by the first place of each: which words solve them, and how the solutions are found.
--
-- At most one row leads at each place p: it has a one there and nothing before. So a row is an equation that gives the word's entry at p from the
-- entries after it. Hence the entries at places without a row are free, and each choice of them has exactly one solution, filled in from right to
-- left; and a solution whose last one stands at p exists exactly if no row leads at p.
use Rattle.std.specs.Prelude.{◌≡◌, ◌≢◌, Bool, cond, eqb}
use Rattle.std.proofs.Math.Path.{refl, ap}
use Rattle.std.proofs.Common.{sym, ap₂, ◌∙◌, subst, le_refl, arith, eq-eqb, ne_eqb}
use Rattle.std.proofs.Math.Bool.{true, false}
use Prim.Native.Nat.{ℕ, zero, suc, ◌+◌ as ◌+ℕ◌, ◌-◌, ◌<◌, ◌≤◌}
use Rattle.std.proofs.Math.Decide.{ℕ_discrete}
use Rattle.algebra.specs.Field.{Ops, Laws}
use Rattle.algebra.specs.FieldLaws.{ring, nought-mul, mul-nought, add_eq}
use Rattle.algebra.specs.Sum.{sum}
use Rattle.algebra.specs.SumLaws.{sum_cong, sum-nought, sum-add, sum_split, in_sum}

module _ {A : Type 0} (K : Ops A) where
  -- what a row says of a word of n entries
  unfoldable pub dot : ℕ → (ℕ → A) → (ℕ → A) → A
  dot n r w = sum K n (λ j. K.mul (r j) (w j))

  -- the part of it after place p
  unfoldable pub rest : ℕ → (ℕ → A) → (ℕ → A) → ℕ → A
  rest n r w p = sum K (n - suc p) (λ j. K.mul (r (suc p +ℕ j)) (w (suc p +ℕ j)))

  -- rows p is the row that leads at p, where one does
  pub record Echelon (n : ℕ) (rows : ℕ → ℕ → A) (leads : ℕ → Bool) : Type 0 where
    pub unit : (p : ℕ) → p < n → leads p ≡ true → rows p p ≡ K.one
    pub empty : (p : ℕ) → p < n → leads p ≡ true → (j : ℕ) → j < p → rows p j ≡ K.nought

  -- the word solves the equations
  abbrev pub Solves : ℕ → (ℕ → ℕ → A) → (ℕ → Bool) → (ℕ → A) → Type 0
  Solves n rows leads w = (p : ℕ) → p < n → leads p ≡ true → dot n (rows p) w ≡ K.nought

  abbrev pub Inside : ℕ → (ℕ → A) → Type 0
  Inside n w = (j : ℕ) → j < n → K.In (w j)

-- the word w with v at p
unfoldable pub put : {A : Type 0} → (ℕ → A) → ℕ → A → ℕ → A
put w p v q = cond (eqb q p) v (w q)

pub put_at : {A : Type 0} (w : ℕ → A) (p : ℕ) (v : A) → put w p v p ≡ v
unfolding put
put_at w p v = ap (λ b. cond b v (w p)) (eq-eqb p p refl)

pub put_other : {A : Type 0} (w : ℕ → A) (p : ℕ) (v : A) (q : ℕ) → q ≢ p → put w p v q ≡ w q
unfolding put
put_other w p v q ne = ap (λ b. cond b v (w q)) (ne_eqb q p ne)

module _ {A : Type 0} (K : Ops A) (F : Laws K) where
  infixl 65 ◌+◌
  infixl 70 ◌·◌
  open K use {In, nought, one, add as ◌+◌, mul as ◌·◌}

  pub dot-add : (n : ℕ) (r s w : ℕ → A) → dot K n (λ j. r j + s j) w ≡ dot K n r w + dot K n s w
  unfolding dot
  dot-add n r s w = sum_cong K n (λ j l. split (r j) (s j) (w j)) ∙ sum-add K F n (λ j. r j · w j) (λ j. s j · w j)
    where
      split : (a b c : A) → (a + b) · c ≡ a · c + b · c
      split a b c = simp ring

  pub dot_cong : (n : ℕ) {r s : ℕ → A} (w : ℕ → A) → ((j : ℕ) → j < n → r j ≡ s j) → dot K n r w ≡ dot K n s w
  unfolding dot
  dot_cong n w h = sum_cong K n (λ j l. ap (λ (x : A). x · w j) (h j l))

  -- the first term, and the rest
  dot_leading : (n : ℕ) (r w : ℕ → A) (p : ℕ) → p < n → In (w p) → r p ≡ one → ((j : ℕ) → j < p → r j ≡ nought) → dot K n r w ≡ w p + rest K n r w p
  unfolding dot rest sum
  dot_leading n r w p l h u z =
      ap (λ (k : ℕ). sum K k f) (sym whole) ∙ sum_split K F (suc p) (n - suc p) f
      ∙ ap (λ (x : A). x + sum K (n - suc p) (λ j. f (suc p +ℕ j)))
      (ap₂ (λ (x y : A). x + y) none (ap (λ (x : A). x · w p) u ∙ F.one-mul (w p) h) ∙ F.nought_add (w p))
    where
      f : ℕ → A
      f j = r j · w j

      whole : suc p +ℕ (n - suc p) ≡ n
      whole = omega arith

      none : sum K p f ≡ nought
      none = sum-nought K F p (λ j m. ap (λ (x : A). x · w j) (z j m) ∙ nought-mul K F (w j))

  module _ (n : ℕ) (rows : ℕ → ℕ → A) (leads : ℕ → Bool) (E : Echelon K n rows leads) where
    -- a row as an equation for the entry that it leads at
    pub entry_is : (w : ℕ → A) → Inside K n w → (p : ℕ) → p < n → leads p ≡ true → dot K n (rows p) w ≡ nought → w p ≡ rest K n (rows p) w p
    entry_is w h p l t z =
        add_eq K F (w p) (rest K n (rows p) w p) (sym (dot_leading n (rows p) w p l (h p l) (E.unit p l t) (E.empty p l t)) ∙ z)

    pub entry_solves : (w : ℕ → A) → Inside K n w → (p : ℕ) → p < n → leads p ≡ true → w p ≡ rest K n (rows p) w p → dot K n (rows p) w ≡ nought
    entry_solves w h p l t e =
        dot_leading n (rows p) w p l (h p l) (E.unit p l t) (E.empty p l t)
        ∙ ap (λ (x : A). x + rest K n (rows p) w p) e ∙ F.add_self (rest K n (rows p) w p)

    pub rest_cong : (r w v : ℕ → A) (p : ℕ) → ((j : ℕ) → p < j → j < n → w j ≡ v j) → rest K n r w p ≡ rest K n r v p
    unfolding rest
    rest_cong r w v p h = sum_cong K (n - suc p) (λ j l. ap (λ (x : A). r (suc p +ℕ j) · x) (h (suc p +ℕ j) (omega arith) (omega arith)))

    -- two solutions that agree from p on at the places without a row agree from p on
    module _ (w v : ℕ → A) (hw : Inside K n w) (hv : Inside K n v) (sw : Solves K n rows leads w) (sv : Solves K n rows leads v) (p : ℕ)
        (free : (q : ℕ) → p ≤ q → q < n → leads q ≡ false → w q ≡ v q) where
      agree_from : (d q : ℕ) → p ≤ q → q < n → n ≤ q +ℕ d → w q ≡ v q
      agree_from zero q a l h = absurd (omega arith)
      agree_from (suc d) q a l h = decided (leads q) refl (λ j m k. agree_from d j (omega arith) k (omega arith))
        where
          decided : (b : Bool) → leads q ≡ b → ((j : ℕ) → q < j → j < n → w j ≡ v j) → w q ≡ v q
          decided false t later = free q a l t
          decided true t later =
              entry_is w hw q l t (sw q l t) ∙ rest_cong (rows q) w v q later ∙ sym (entry_is v hv q l t (sv q l t))

      pub agree : (q : ℕ) → p ≤ q → q < n → w q ≡ v q
      agree q a l = agree_from n q a l (omega arith)

    -- ---- every choice at the places without a row has a solution

    -- the entry that is due at p: the choice, or what the row says
    due : (ℕ → A) → (ℕ → A) → ℕ → Bool → A
    due f w p false = f p
    due f w p true = rest K n (rows p) w p

    due_cong : (f w v : ℕ → A) (p : ℕ) (b : Bool) → ((j : ℕ) → p < j → j < n → w j ≡ v j) → due f w p b ≡ due f v p b
    unfolding due
    due_cong f w v p false h = refl
    due_cong f w v p true h = rest_cong (rows p) w v p h

    module _ (f : ℕ → A) (hf : Inside K n f) where
      in_due : (w : ℕ → A) (p : ℕ) (b : Bool) → p < n → In (due f w p b)
      unfolding due rest
      in_due w p false l = hf p l
      in_due w p true l = in_sum K F (n - suc p) (λ j. rows p (suc p +ℕ j) · w (suc p +ℕ j)) (λ j m. F.in_mul (rows p (suc p +ℕ j)) (w (suc p +ℕ j)))

      -- filled in from the right, d places
      Filled : ℕ → Type 0
      Filled d = (w : ℕ → A) × Inside K n w × ((q : ℕ) → q < n → n ≤ q +ℕ d → w q ≡ due f w q (leads q))

      fill : (d : ℕ) → d < n → Filled d → Filled (suc d)
      unfolding Filled
      fill d l (w, hw, e) = (next, λ j m. in_next j m (ℕ_discrete j p), λ q m h. next_is q m h (ℕ_discrete q p))
        where
          p : ℕ
          p = n - suc d

          next : ℕ → A
          next = put w p (due f w p (leads p))

          in_next : (j : ℕ) → j < n → Dec (j ≡ p) → In (next j)
          in_next j m (yes q) =
              subst (λ (i : ℕ). In (next i)) (sym q)
              (subst In (sym (put_at w p (due f w p (leads p)))) (in_due w p (leads p) (omega arith)))
          in_next j m (no ne) = subst In (sym (put_other w p (due f w p (leads p)) j ne)) (hw j m)

          later : (q : ℕ) → p ≤ q → (j : ℕ) → q < j → j < n → w j ≡ next j
          later q h j a m = sym (put_other w p (due f w p (leads p)) j (λ z. omega arith))

          next_is : (q : ℕ) → q < n → n ≤ q +ℕ suc d → Dec (q ≡ p) → next q ≡ due f next q (leads q)
          next_is q m h (yes z) =
              subst (λ (i : ℕ). next i ≡ due f next i (leads i)) (sym z)
              (put_at w p (due f w p (leads p)) ∙ due_cong f w next p (leads p) (later p (le_refl p)))
          next_is q m h (no ne) =
              put_other w p (due f w p (leads p)) q ne ∙ e q m (omega arith) ∙ due_cong f w next q (leads q) (later q (omega arith))

      filled : (d : ℕ) → d ≤ n → Filled d
      unfolding Filled
      filled zero h = (f, hf, λ q l m. absurd (omega arith))
      filled (suc d) h = fill d h (filled d (omega arith))

      pub solution : (w : ℕ → A) × Inside K n w × Solves K n rows leads w × ((q : ℕ) → q < n → leads q ≡ false → w q ≡ f q)
      unfolding Filled due
      solution =
          let (w, hw, e) = filled n (le_refl n) in (
            w,
            hw,
            λ p l t. entry_solves w hw p l t (e p l (omega arith) ∙ ap (due f w p) t),
            λ q l t. e q l (omega arith) ∙ ap (due f w q) t,
          )

    -- ---- the last one of a solution

    -- where no row leads, some solution has its last one
    pub last_free : (p : ℕ) → p < n → leads p ≡ false
        → (w : ℕ → A) × Inside K n w × Solves K n rows leads w × (w p ≡ one) × ((q : ℕ) → p < q → q < n → w q ≡ nought)
    unfolding dot
    last_free p l t =
        let (w, hw, sw, e) = solution only in_only in (
          w,
          hw,
          sw,
          e p l t ∙ put_at (λ q. nought) p one,
          λ q a m.
              agree w (λ q. nought) hw (λ j k. F.in_nought) sw (λ q k u. sum-nought K F n (λ j i. mul-nought K F (rows q j))) (suc p)
              (λ q b m u. e q m u ∙ put_other (λ q. nought) p one q (λ z. omega arith)) q a m,
        )
      where
        only : ℕ → A
        only = put (λ q. nought) p one

        in_only : Inside K n only
        in_only j m = at (ℕ_discrete j p)
          where
            at : Dec (j ≡ p) → In (only j)
            at (yes z) = subst (λ (i : ℕ). In (only i)) (sym z) (subst In (sym (put_at (λ q. nought) p one)) F.in_one)
            at (no ne) = subst In (sym (put_other (λ q. nought) p one j ne)) F.in_nought

    -- where one leads, none has
    pub last_led : (p : ℕ) → p < n → leads p ≡ true → (w : ℕ → A) → Inside K n w → Solves K n rows leads w → w p ≡ one
        → ((q : ℕ) → p < q → q < n → w q ≡ nought) → ⊥
    unfolding rest
    last_led p l t w h s u z =
        F.one≢nought
        (sym u ∙ entry_is w h p l t (s p l t)
        ∙ sum-nought K F (n - suc p) (λ j m. ap (λ (x : A). rows p (suc p +ℕ j) · x) (z (suc p +ℕ j) (omega arith) (omega arith)) ∙ mul-nought K F
        (rows p (suc p +ℕ j))))
