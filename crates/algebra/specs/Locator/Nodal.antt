-- The nodal polynomial of given points: the product of x + r k over the k below n, which is nought exactly at the points.
-- Assumes nothing.
use Rattle.std.specs.Prelude.{◌≡◌, refl}
use Rattle.std.proofs.Common.{sym, ap₂, ◌∙◌, subst, not-suc-le-zero, lt_of_lt_of_le, arith}
use Rattle.std.proofs.Math.Path.{ap}
use Prim.Native.Nat.{ℕ, zero, suc, ◌<◌, ◌≤◌}
use Rattle.std.proofs.Math.Nat.{lt-suc_self, le-suc, le_step}
use Rattle.std.proofs.Math.Decide.{ℕ_discrete}
use Rattle.algebra.specs.Field.{Ops, Laws}
use Rattle.algebra.specs.FieldLaws.{nought-mul, mul-nought, add_eq, mul_cancel, square_injective}
use Rattle.algebra.specs.Distinct.{Distinct}

-- n points: elements of the field, and different
pub record Points {A : Type 0} (K : Ops A) (n : ℕ) (r : ℕ → A) : Type 0 where
  pub inside : (i : ℕ) → i < n → K.In (r i)
  pub distinct : Distinct n r

pub fewer_points : {A : Type 0} {K : Ops A} {n k : ℕ} {r : ℕ → A} → n ≤ k → Points K k r → Points K n r
fewer_points l p =
    record { inside = λ i m. p.inside i (lt_of_lt_of_le m l); distinct = λ i j m m'. p.distinct i j m (lt_of_lt_of_le m' l) }

-- points may be given by another sequence that agrees below n
pub points_cong : {A : Type 0} {K : Ops A} {n : ℕ} {r r' : ℕ → A} → ((i : ℕ) → i < n → r' i ≡ r i) → Points K n r → Points K n r'
points_cong {K = K} {n = n} {r = r} {r' = r'} e p =
    record {
      inside = λ i l. subst K.In (sym (e i l)) (p.inside i l);
      distinct = λ i j l lj q. p.distinct i j l lj (sym (e i (below i j l lj)) ∙ q ∙ e j lj);
    }
  where
    below : (i j : ℕ) → i < j → j < n → i < n
    below i j l lj = omega arith

unfoldable pub nodal : {A : Type 0} → Ops A → ℕ → (ℕ → A) → A → A
nodal K zero r x = K.one
nodal K (suc n) r x = K.mul (K.add x (r n)) (nodal K n r x)

pub nodal_cong : {A : Type 0} (K : Ops A) (n : ℕ) {r r' : ℕ → A} → ((i : ℕ) → i < n → r' i ≡ r i) → (x : A) → nodal K n r x ≡ nodal K n r' x
unfolding nodal
nodal_cong K zero e x = refl
nodal_cong K (suc n) e x =
    ap₂ (λ a b. K.mul (K.add x a) b) (sym (e n (lt-suc_self n))) (nodal_cong K n (λ i l. e i (le_step l)) x)

module _ {A : Type 0} (K : Ops A) (F : Laws K) where
  infixl 65 ◌+◌
  infixl 70 ◌·◌
  open K use {In, nought, add as ◌+◌, mul as ◌·◌}

  pub in_nodal : (n : ℕ) (r : ℕ → A) (x : A) → In (nodal K n r x)
  unfolding nodal
  in_nodal zero r x = F.in_one
  in_nodal (suc n) r x = F.in_mul (x + r n) (nodal K n r x)

  pub nodal_point : (n : ℕ) (r : ℕ → A) (k : ℕ) → k < n → nodal K n r (r k) ≡ nought
  unfolding nodal
  nodal_point zero r k l = absurd (not-suc-le-zero l)
  nodal_point (suc n) r k l = decided (ℕ_discrete n k) (nodal_point n r k)
    where
      decided : Dec (n ≡ k) → (k < n → nodal K n r (r k) ≡ nought) → (r k + r n) · nodal K n r (r k) ≡ nought
      decided (yes e) ih =
          ap (λ (i : ℕ). (r k + r i) · nodal K n r (r k)) e ∙ ap (λ (x : A). x · nodal K n r (r k)) (F.add_self (r k))
          ∙ nought-mul K F (nodal K n r (r k))
      decided (no ne) ih = ap (λ (x : A). (r k + r n) · x) (ih (omega arith)) ∙ mul-nought K F (r k + r n)

  pub nodal_root : {n : ℕ} {r : ℕ → A} → Points K n r → (x : A) → In x → nodal K n r x ≡ nought → (k : ℕ) × (k < n) × (x ≡ r k)
  unfolding nodal
  nodal_root {n = zero} p x hx z = absurd (F.one≢nought z)
  nodal_root {n = suc n} {r} p x hx z = decided (F.nought? (x + r n)) (nodal_root (fewer_points (le-suc n) p) x hx)
    where
      decided : Dec (x + r n ≡ nought) → (nodal K n r x ≡ nought → (k : ℕ) × (k < n) × (x ≡ r k)) → (k : ℕ) × (k < suc n) × (x ≡ r k)
      decided (yes e) ih = (n, lt-suc_self n, add_eq K F x (r n) e)
      decided (no ne) ih =
          let (k, l, e) = ih (mul_cancel K F (x + r n) (nodal K n r x) (F.in_add x (r n) hx (p.inside n (lt-suc_self n))) (in_nodal n r x) ne z)
          in (k, le_step l, e)

  pub square_points : {n : ℕ} {r : ℕ → A} → Points K n r → Points K n (λ i. r i · r i)
  square_points {r} p =
      record {
        inside = λ i l. F.in_mul (r i) (r i);
        distinct = λ i j l m e. p.distinct i j l m (square_injective K F (r i) (r j) (p.inside i (omega arith)) (p.inside j m) e);
      }
