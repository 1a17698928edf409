-- Polynomials in one variable as functions, with a bound on the number of their coefficients, and the count of their roots.
--
-- `Poly K n f` says that f is given by at most n coefficients, read by Horner's rule. Only values are compared, at each point: so there is no
-- arithmetic on lists of coefficients, and a program that keeps its coefficients in an array comes in by its evaluation alone.
-- Assumes nothing.
use Rattle.std.specs.Prelude.{◌≡◌, refl, ◌≢◌, ℕ, zero, suc, pred, ◌+◌ as ◌+ℕ◌, ◌<◌, ◌≤◌}
use Rattle.std.proofs.Common.{sym, ap, ap₂, ◌∙◌, subst, suc-le-suc, suc-add, not-suc-le-zero, le_of_suc-le-suc, le-add_left, arith}
use Rattle.std.proofs.Math.Nat.{le-suc, pred-le}
use Rattle.algebra.specs.Field.{Ops, Laws}
use Rattle.algebra.specs.FieldLaws.{ring, add-nought, add-mul, mul-nought, nought-mul, lin, mul_cancel, add_eq}
use Rattle.algebra.specs.Distinct.{Distinct}

pub data Poly {A : Type 0} (K : Ops A) : ℕ → (A → A) → Type 0 where
  vanish : {n : ℕ} {f : A → A} → ((y : A) → f y ≡ K.nought) → Poly K n f
  horner : {n : ℕ} {f g : A → A} (a : A) → K.In a → Poly K n g → ((y : A) → f y ≡ K.add a (K.mul y (g y))) → Poly K (suc n) f

pub poly_cong : {A : Type 0} {K : Ops A} {n : ℕ} {f g : A → A} → ((y : A) → g y ≡ f y) → Poly K n f → Poly K n g
poly_cong e (vanish z) = vanish (λ y. e y ∙ z y)
poly_cong e (horner a ha p h) = horner a ha p (λ y. e y ∙ h y)

pub poly_weaken : {A : Type 0} {K : Ops A} {n k : ℕ} {f : A → A} → n ≤ k → Poly K n f → Poly K k f
poly_weaken l (vanish z) = vanish z
poly_weaken {k = zero} l (horner a ha p h) = absurd (not-suc-le-zero l)
poly_weaken {k = suc k} l (horner a ha p h) = horner a ha (poly_weaken (le_of_suc-le-suc l) p) h

module _ {A : Type 0} (K : Ops A) (F : Laws K) where
  infixl 65 ◌+◌
  infixl 70 ◌·◌
  open K use {In, nought, add as ◌+◌, mul as ◌·◌}

  pub poly_in : {n : ℕ} {f : A → A} → Poly K n f → (y : A) → In (f y)
  poly_in (vanish z) y = subst In (sym (z y)) F.in_nought
  poly_in (horner {g = g} a ha p h) y = subst In (sym (h y)) (F.in_add a (y · g y) ha (F.in_mul y (g y)))

  pub poly_const : {n : ℕ} {a : A} → In a → Poly K (suc n) (λ y. a)
  poly_const {a} ha = horner a ha (vanish (λ y. refl)) (λ y. padded a y)
    where
      padded : (a y : A) → a ≡ a + y · nought
      padded a y = simp ring

  pub poly_add : {n : ℕ} {f g : A → A} → Poly K n f → Poly K n g → Poly K n (λ y. f y + g y)
  poly_add {g} (vanish z) q = poly_cong (λ y. ap (λ (x : A). x + g y) (z y) ∙ F.nought_add (g y)) q
  poly_add {f} (horner a ha p h) (vanish z) = horner a ha p (λ y. ap (λ (x : A). f y + x) (z y) ∙ add-nought K F (f y) ∙ h y)
  poly_add (horner {g = u} a ha p h) (horner {g = v} b hb q k) =
      horner (a + b) (F.in_add a b ha hb) (poly_add p q) (λ y. ap₂ (λ (x x' : A). x + x') (h y) (k y) ∙ sorted a b y (u y) (v y))
    where
      sorted : (a b y u v : A) → (a + y · u) + (b + y · v) ≡ (a + b) + y · (u + v)
      sorted a b y u v = simp ring

  pub poly_scale : {n : ℕ} {f : A → A} (c : A) → Poly K n f → Poly K n (λ y. c · f y)
  poly_scale c (vanish z) = vanish (λ y. ap (λ (x : A). c · x) (z y) ∙ mul-nought K F c)
  poly_scale c (horner {g = g} a ha p h) =
      horner (c · a) (F.in_mul c a) (poly_scale c p) (λ y. ap (λ (x : A). c · x) (h y) ∙ sorted c a y (g y))
    where
      sorted : (c a y v : A) → c · (a + y · v) ≡ c · a + y · (c · v)
      sorted c a y v = simp ring

  -- times the variable
  pub poly_shift : {n : ℕ} {f : A → A} → Poly K n f → Poly K (suc n) (λ y. y · f y)
  poly_shift {f} p = horner nought F.in_nought p (λ y. sym (F.nought_add (y · f y)))

  -- times y + r
  pub poly_linear : {n : ℕ} {f : A → A} (r : A) → Poly K n f → Poly K (suc n) (λ y. (y + r) · f y)
  poly_linear {n} {f} r p = poly_cong (λ y. add-mul K F y r (f y)) (poly_add (poly_shift p) (poly_weaken (le-suc n) (poly_scale r p)))

  -- a degree is one less than a number of coefficients, so one of the two bounds loses one
  pub poly_mul : {n k : ℕ} {f g : A → A} → Poly K n f → Poly K (suc k) g → Poly K (n +ℕ k) (λ y. f y · g y)
  poly_mul {g} (vanish z) q = vanish (λ y. ap (λ (x : A). x · g y) (z y) ∙ nought-mul K F (g y))
  poly_mul {k} {g} (horner {n = n} {g = u} a ha p h) q =
      rw suc-add
      (poly_cong (λ y. ap (λ (x : A). x · g y) (h y) ∙ sorted a y (u y) (g y))
      (poly_add (poly_weaken (suc-le-suc (le-add_left k n)) (poly_scale a q)) (poly_shift (poly_mul p q))))
    where
      sorted : (a y u v : A) → (a + y · u) · v ≡ a · v + y · (u · v)
      sorted a y u v = simp ring

  -- the remainder at y + r is the value at r
  pub poly_divide : {n : ℕ} {f : A → A} (r : A) → Poly K n f
      → (q : A → A) × Poly K (pred n) q × ((y : A) → f y ≡ f r + (y + r) · q y)
  poly_divide {f} r (vanish z) = ((λ y. nought), vanish (λ y. refl), (λ y. z y ∙ sym (z r) ∙ padded (f r) (y + r)))
    where
      padded : (a b : A) → a ≡ a + b · nought
      padded a b = simp ring
  poly_divide r (horner {n = n} {g = g} a ha p h) =
      let (q, hq, e) = poly_divide r p in (
        (λ y. g y + r · q y),
        poly_add p (poly_weaken (pred-le n) (poly_scale r hq)),
        (λ y. h y ∙ sorted a y (g y) (g r) (q y) (e y) ∙ ap (λ (x : A). x + (y + r) · (g y + r · q y)) (sym (h r))),
      )
    where
      sorted : (a y v w q : A) → v ≡ w + (y + r) · q → a + y · v ≡ (a + r · w) + (y + r) · (v + r · q)
      sorted a y v w q e = lin K F r e (simp ring)

  -- a root besides the one that was divided out is a root of the quotient
  quotient_root : (f q : A → A) (s x : A) → In s → In x → In (q x) → x ≢ s → f s ≡ nought → f x ≡ nought
      → f x ≡ f s + (x + s) · q x → q x ≡ nought
  quotient_root f q s x hs hx hq ne zs zx e =
      mul_cancel K F (x + s) (q x) (F.in_add x s hx hs) hq (λ z. ne (add_eq K F x s z))
      (sym (F.nought_add ((x + s) · q x)) ∙ ap (λ (a : A). a + (x + s) · q x) (sym zs) ∙ sym e ∙ zx)

  -- as many roots as coefficients: the roots are divided out one after the other, and no coefficient is left
  pub poly_roots : (n : ℕ) (f : A → A) (r : ℕ → A) → Poly K n f → Distinct n r → ((i : ℕ) → i < n → In (r i))
      → ((i : ℕ) → i < n → f (r i) ≡ nought) → (y : A) → f y ≡ nought
  poly_roots zero f r (vanish z) d hr v y = z y
  poly_roots (suc n) f r p d hr v y =
      let (q, hq, e) = poly_divide (r n) p in
      let zq : q y ≡ nought =
      poly_roots n q r hq (λ i j l m. d i j l (omega arith)) (λ i l. hr i (omega arith))
      (λ i l. quotient_root f q (r n) (r i) (hr n (omega arith)) (hr i (omega arith)) (poly_in hq (r i)) (d i n l (omega arith))
      (v n (omega arith)) (v i (omega arith)) (e (r i))) y
      in
      e y ∙ ap₂ (λ (a b : A). a + (y + r n) · b) (v n (omega arith)) zq ∙ F.nought_add ((y + r n) · nought) ∙ mul-nought K F (y + r n)
