-- Demand 2's theorem: 01's three conditions hold exactly if a Cauchy pair exists, and every offset then gives one.
--
-- Forward: z_i + L_j = 1/h_i + 1/h_j + 1/h_0 = 1/h_(i⊕j), whatever the offset, and that is never zero. Back: 1/h_(i⊕j) = z_i + L_j, which is
-- (z_i + L_0) + (z_0 + L_j) + (z_0 + L_0).
use Rattle.std.specs.Prelude.{◌≡◌, ◌≢◌, ◌↔◌, ℕ, ◌^◌, ◌<◌}
use Rattle.std.proofs.Math.Path.{sym, ap}
use Rattle.std.proofs.Common.{ap₂, ◌∙◌, subst, arith}
use Rattle.algebra.specs.Field.{Ops, Laws}
use Rattle.algebra.specs.FieldLaws.{ring, add_eq, inv_unique, inv≢nought}
use Rattle.algebra.specs.Distinct.{Distinct}
use Rattle.algebra.specs.Xor.{◌⊕◌}
use Rattle.algebra.specs.XorLaws.{⊕-lt, ⊕-zero, zero-⊕}
use Rattle.signature.specs.Signature.{root_at, support_at, Conditions, Cauchy, HasCauchy}

module _ {A : Type 0} (K : Ops A) (F : Laws K) where
  infixl 65 ◌+◌
  infixl 70 ◌·◌
  open K use {In, nought, inv, add as ◌+◌, mul as ◌·◌}

  pub inv-inv : (a : A) → In a → a ≢ nought → inv (inv a) ≡ a
  inv-inv a h ne =
      sym (inv_unique K F (inv a) a (F.in_inv a) h (inv≢nought K F a h ne) (F.mul_comm (inv a) a ∙ F.mul_inv a h ne))

  pub inv_injective : (a b : A) → In a → In b → a ≢ nought → b ≢ nought → inv a ≡ inv b → a ≡ b
  inv_injective a b ha hb na nb e = sym (inv-inv a ha na) ∙ ap inv e ∙ inv-inv b hb nb

  -- a term may be taken away from both sides
  take_away : (a b c : A) → a + c ≡ b + c → a ≡ b
  take_away a b c e = twice a c ∙ ap (λ (x : A). x + c) e ∙ sym (twice b c)
    where
      twice : (a c : A) → a ≡ (a + c) + c
      twice a c = simp ring

  -- ---- the conditions give a pair for every offset; n is a power of two, so that i ⊕ j is an index again

  module _ (n e : ℕ) (n_power : n ≡ 2 ^ e) (h : ℕ → A) (h_in : (i : ℕ) → i < n → In (h i)) (C : Conditions K n h) (ω : A) (ω_in : In ω) where
    index_in : (i j : ℕ) → i < n → j < n → i ⊕ j < n
    index_in i j li lj =
        subst (λ (k : ℕ). i ⊕ j < k) (sym n_power) (⊕-lt e i j (subst (λ (k : ℕ). i < k) n_power li) (subst (λ (k : ℕ). j < k) n_power lj))

    inv_distinct : Distinct n (λ i. inv (h i))
    inv_distinct i j l lj q =
        C.distinct i j l lj (inv_injective (h i) (h j) (h_in i (omega arith)) (h_in j lj) (C.no_zero i (omega arith)) (C.no_zero j lj) q)

    -- the offset cancels
    sum_is : (i j : ℕ) → i < n → j < n → root_at K ω h i + support_at K ω h j ≡ inv (h (i ⊕ j))
    unfolding root_at support_at
    sum_is i j li lj = cancelled (inv (h i)) (inv (h j)) (inv (h 0)) ω ∙ sym (C.linear i j li lj)
      where
        cancelled : (a b c w : A) → (a + w) + ((b + c) + w) ≡ (a + b) + c
        cancelled a b c w = simp ring

    pub offset_pair : Cauchy K n h (root_at K ω h) (support_at K ω h)
    unfolding root_at support_at
    offset_pair =
        record {
          z_in = λ i l. F.in_add (inv (h i)) ω (F.in_inv (h i)) ω_in;
          L_in = λ j l. F.in_add (inv (h j) + inv (h 0)) ω (F.in_add (inv (h j)) (inv (h 0)) (F.in_inv (h j)) (F.in_inv (h 0))) ω_in;
          z_distinct = λ i j l lj q. inv_distinct i j l lj (take_away (inv (h i)) (inv (h j)) ω q);
          L_distinct = λ i j l lj q.
              inv_distinct i j l lj
              (take_away (inv (h i)) (inv (h j)) (inv (h 0)) (take_away (inv (h i) + inv (h 0)) (inv (h j) + inv (h 0)) ω q));
          disjoint = λ i j li lj q.
              inv≢nought K F (h (i ⊕ j)) (h_in (i ⊕ j) (index_in i j li lj)) (C.no_zero (i ⊕ j) (index_in i j li lj))
              (sym (sum_is i j li lj) ∙ ap (λ (x : A). x + support_at K ω h j) q ∙ F.add_self (support_at K ω h j));
          entry = λ i j li lj.
              ap inv (sum_is i j li lj)
              ∙ inv-inv (h (i ⊕ j)) (h_in (i ⊕ j) (index_in i j li lj)) (C.no_zero (i ⊕ j) (index_in i j li lj));
        }

  -- ---- a pair gives the conditions

  module _ (n : ℕ) (h z L : ℕ → A) (P : Cauchy K n h z L) where
    sum_in : (i j : ℕ) → i < n → j < n → In (z i + L j)
    sum_in i j li lj = F.in_add (z i) (L j) (P.z_in i li) (P.L_in j lj)

    sum≢nought : (i j : ℕ) → i < n → j < n → z i + L j ≢ nought
    sum≢nought i j li lj q = P.disjoint i j li lj (add_eq K F (z i) (L j) q)

    -- entries of the matrix are inverses, so that 1/h is a sum of one of z and one of L
    inv_entry : (i j : ℕ) → i < n → j < n → inv (h (i ⊕ j)) ≡ z i + L j
    inv_entry i j li lj = ap inv (sym (P.entry i j li lj)) ∙ inv-inv (z i + L j) (sum_in i j li lj) (sum≢nought i j li lj)

    -- the first column, the first row and the corner
    column : (i : ℕ) → i < n → inv (h i) ≡ z i + L 0
    column i l = ap (λ (k : ℕ). inv (h k)) (sym (⊕-zero i)) ∙ inv_entry i 0 l (omega arith)

    row : (j : ℕ) → j < n → inv (h j) ≡ z 0 + L j
    row j l = ap (λ (k : ℕ). inv (h k)) (sym (zero-⊕ j)) ∙ inv_entry 0 j (omega arith) l

    pub pair_conditions : Conditions K n h
    pair_conditions =
        record {
          no_zero = λ i l q.
              inv≢nought K F (z i + L 0) (sum_in i 0 l (omega arith)) (sum≢nought i 0 l (omega arith))
              (P.entry i 0 l (omega arith) ∙ ap h (⊕-zero i) ∙ q);
          linear = λ i j li lj.
              inv_entry i j li lj ∙ crossed (z i) (L j) (z 0) (L 0)
              ∙ sym (ap₂ (λ (x y : A). x + y) (ap₂ (λ (x y : A). x + y) (column i li) (row j lj)) (column 0 (omega arith)));
          distinct = λ i j l lj q.
              P.z_distinct i j l lj (take_away (z i) (z j) (L 0) (sym (column i (omega arith)) ∙ ap inv q ∙ column j lj));
        }
      where
        crossed : (a b c d : A) → a + b ≡ ((a + d) + (c + b)) + (c + d)
        crossed a b c d = simp ring

  -- ---- demand 2

  pub conditions_cauchy : (n e : ℕ) → n ≡ 2 ^ e → (h : ℕ → A) → ((i : ℕ) → i < n → In (h i)) → Conditions K n h ↔ HasCauchy K n h
  conditions_cauchy n e n_power h h_in = (
    λ C. (root_at K nought h, support_at K nought h, offset_pair n e n_power h h_in C nought F.in_nought),
    λ p. pair_conditions n h p.0 p.1 p.2,
  )
