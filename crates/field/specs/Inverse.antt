-- When the ring of a word is a field: four facts that a computation can test, and what follows from them for every element.
--
-- Squaring is additive, so a power a^(2^k) and the trace a + a² + a⁴ + ⋯ are too, and what they do on all elements is known from what they do on
-- the m powers of u. Let u^(2^m) = u; then a^(2^m) = a for every a. Let the trace of each power of u be 0 or 1, and that of some t be 1; then an
-- idempotent e is e·Tr(t) = Tr(e·t), which is 0 or 1. For a ≠ 0 the product a·a²⋯a^(2^(m−1)) is idempotent and keeps a, so it is 1, and
-- a²⋯a^(2^(m−1)) is the inverse of a. For a = 0 it is 0.
use Rattle.std.specs.Prelude.{◌≡◌, ◌≢◌}
use Rattle.std.proofs.Math.Path.{refl, sym, ap, ap₂, subst}
use Rattle.std.proofs.Common.{◌∙◌, zero-mul, one-mul, le_refl, lt_of_lt_of_le, arith, pow_mono, lit<}
use Prim.Native.Nat.{ℕ, zero, suc, pred, ◌+◌, ◌*◌, ◌/◌, ◌%◌, ◌^◌, ◌≤◌, ◌<◌}
use Rattle.std.proofs.Math.Nat.{mod-eq_of_lt}
use Rattle.algebra.specs.Xor.{◌⊕◌}
use Rattle.algebra.specs.XorLaws.{xor, ⊕_self, ⊕-lt}
use Rattle.field.specs.Product.{product, squares, inverse}
use Rattle.algebra.specs.BitLaws.{bit_cases}
use Rattle.field.specs.Horner.{times_u, horner, horner-times_u}
use Rattle.field.specs.Ring.{Degree, times_u-lt, horner-one, product_lt, product_comm, product_assoc, product-⊕, product-one, product_u}

module _ (m w : ℕ) where
  -- u^i
  unfoldable pub power : ℕ → ℕ
  power zero = 1
  power (suc i) = times_u m w (power i)

  -- a^(2^k)
  unfoldable pub squared : ℕ → ℕ → ℕ
  squared zero a = a
  squared (suc k) a = squared k (product m w a a)

  -- a + a² + a⁴ + ⋯, k terms
  unfoldable pub trace : ℕ → ℕ → ℕ
  trace zero a = 0
  trace (suc k) a = a ⊕ trace k (product m w a a)

-- the four facts
pub record IsField (m w : ℕ) : Type 0 where
  pub two : 2 ≤ m
  pub degree : Degree m w
  pub fixes_u : squared m w m 2 ≡ 2
  pub trace_bit : (i : ℕ) → i < m → trace m w m (power m w i) < 2
  pub some_trace : (i : ℕ) × (trace m w m (power m w i) ≡ 1)

module _ (m w : ℕ) (G : IsField m w) where
  infixl 70 ◌·◌
  abbrev ◌·◌ : ℕ → ℕ → ℕ
  a · b = product m w a b

  abbrev D : Degree m w
  D = G.degree

  one-lt : 1 < 2 ^ m
  one-lt = lt_of_lt_of_le (lit< tt) (pow_mono D.positive)

  comm : (a b : ℕ) → a · b ≡ b · a
  comm = product_comm m w D

  assoc : (a b c : ℕ) → (a · b) · c ≡ a · (b · c)
  assoc = product_assoc m w D

  left_comm : (a b c : ℕ) → a · (b · c) ≡ b · (a · c)
  left_comm a b c = sym (assoc a b c) ∙ ap (λ (x : ℕ). x · c) (comm a b) ∙ assoc b a c

  ruleset product-laws = (comm, assoc, left_comm)

  right : (a b c : ℕ) → (a ⊕ b) · c ≡ a · c ⊕ b · c
  right a b c = comm (a ⊕ b) c ∙ product-⊕ m w D c a b ∙ ap₂ (λ (x y : ℕ). x ⊕ y) (comm c a) (comm c b)

  -- squaring is additive
  square_⊕ : (a b : ℕ) → (a ⊕ b) · (a ⊕ b) ≡ a · a ⊕ b · b
  square_⊕ a b =
      product-⊕ m w D (a ⊕ b) a b ∙ ap₂ (λ (x y : ℕ). x ⊕ y) (right a b a ∙ ap (λ (x : ℕ). a · a ⊕ x) (comm b a)) (right a b b)
      ∙ cancel (a · a) (a · b) (b · b)
    where
      cancel : (x y z : ℕ) → (x ⊕ y) ⊕ (y ⊕ z) ≡ x ⊕ z
      cancel x y z = simp xor

  square_product : (a b : ℕ) → (a · b) · (a · b) ≡ (a · a) · (b · b)
  square_product a b = simp product-laws

  squared-⊕ : (k a b : ℕ) → squared m w k (a ⊕ b) ≡ squared m w k a ⊕ squared m w k b
  unfolding squared
  squared-⊕ zero a b = refl
  squared-⊕ (suc k) a b = ap (squared m w k) (square_⊕ a b) ∙ squared-⊕ k (a · a) (b · b)

  squared_product : (k a b : ℕ) → squared m w k (a · b) ≡ squared m w k a · squared m w k b
  unfolding squared
  squared_product zero a b = refl
  squared_product (suc k) a b = ap (squared m w k) (square_product a b) ∙ squared_product k (a · a) (b · b)

  trace-⊕ : (k a b : ℕ) → trace m w k (a ⊕ b) ≡ trace m w k a ⊕ trace m w k b
  unfolding trace
  trace-⊕ zero a b = sym (⊕_self 0)
  trace-⊕ (suc k) a b =
      ap (λ (x : ℕ). (a ⊕ b) ⊕ x) (ap (trace m w k) (square_⊕ a b) ∙ trace-⊕ k (a · a) (b · b))
      ∙ sorted a b (trace m w k (a · a)) (trace m w k (b · b))
    where
      sorted : (x y z v : ℕ) → (x ⊕ y) ⊕ (z ⊕ v) ≡ (x ⊕ z) ⊕ (y ⊕ v)
      sorted x y z v = simp xor

  -- what holds of zero and of the powers of u, and of sums, holds of every element
  power-lt : (i : ℕ) → power m w i < 2 ^ m
  unfolding power
  power-lt zero = one-lt
  power-lt (suc i) = times_u-lt m w D (power m w i) (power-lt i)

  module _ (P : ℕ → Type 0) (P0 : P 0) (P⊕ : (x y : ℕ) → P x → P y → P (x ⊕ y)) (Pu : (i : ℕ) → i < m → P (power m w i)) where
    from : (k b j : ℕ) → j + k ≤ m → P (horner m w k b (power m w j))
    unfolding horner power
    from zero b j h = P0
    from (suc k) b j h =
        P⊕ ((b % 2) * power m w j) (times_u m w (horner m w k (b / 2) (power m w j)))
        (bit_cases (λ (s : ℕ). P (s * power m w j)) (subst P (sym (zero-mul (power m w j))) P0)
        (subst P (sym (one-mul (power m w j))) (Pu j (omega arith))) b)
        (subst P (horner-times_u m w k (b / 2) (power m w j)) (from k (b / 2) (suc j) (omega arith)))

    pub span : (a : ℕ) → a < 2 ^ m → P a
    unfolding power
    span a h = subst P (horner-one m w D m a (le_refl m) ∙ mod-eq_of_lt h) (from m a 0 (omega arith))

  zero_product : (a : ℕ) → 0 · a ≡ 0
  zero_product a = ap (λ (x : ℕ). x · a) (sym (⊕_self 0)) ∙ right 0 0 a ∙ ⊕_self (0 · a)

  product_one' : (a : ℕ) → a < 2 ^ m → a · 1 ≡ a
  product_one' a h = comm a 1 ∙ product-one m w D a h

  -- ---- a^(2^m) is a
  squared-zero : (k : ℕ) → squared m w k 0 ≡ 0
  squared-zero k = ap (squared m w k) (sym (⊕_self 0)) ∙ squared-⊕ k 0 0 ∙ ⊕_self (squared m w k 0)

  squared-one : (k : ℕ) → squared m w k 1 ≡ 1
  unfolding squared
  squared-one zero = refl
  squared-one (suc k) = ap (squared m w k) (product-one m w D 1 one-lt) ∙ squared-one k

  fixes_power : (i : ℕ) → squared m w m (power m w i) ≡ power m w i
  unfolding power
  fixes_power zero = squared-one m
  fixes_power (suc i) =
      ap (squared m w m) (sym (product_u m w D (power m w i) G.two (power-lt i))) ∙ squared_product m 2 (power m w i)
      ∙ ap₂ (λ (x y : ℕ). x · y) G.fixes_u (fixes_power i) ∙ product_u m w D (power m w i) G.two (power-lt i)

  fixes : (a : ℕ) → a < 2 ^ m → squared m w m a ≡ a
  fixes =
      span (λ (a : ℕ). squared m w m a ≡ a) (squared-zero m) (λ x y p q. squared-⊕ m x y ∙ ap₂ (λ (x y : ℕ). x ⊕ y) p q) (λ i h. fixes_power i)

  -- ---- idempotents are 0 and 1
  trace-zero : (k : ℕ) → trace m w k 0 ≡ 0
  trace-zero k = ap (trace m w k) (sym (⊕_self 0)) ∙ trace-⊕ k 0 0 ∙ ⊕_self (trace m w k 0)

  trace_bits : (a : ℕ) → a < 2 ^ m → trace m w m a < 2
  trace_bits =
      span (λ (a : ℕ). trace m w m a < 2) (subst (λ (x : ℕ). x < 2) (sym (trace-zero m)) (lit< tt))
      (λ x y p q. subst (λ (z : ℕ). z < 2) (sym (trace-⊕ m x y)) (⊕-lt 1 (trace m w m x) (trace m w m y) p q)) G.trace_bit

  trace_scaled : (e : ℕ) → e · e ≡ e → (k a : ℕ) → trace m w k (e · a) ≡ e · trace m w k a
  unfolding trace
  trace_scaled e h zero a = sym (comm e 0 ∙ zero_product e)
  trace_scaled e h (suc k) a =
      ap (λ (x : ℕ). e · a ⊕ x)
      (ap (trace m w k) (square_product e a ∙ ap (λ (x : ℕ). x · (a · a)) h) ∙ trace_scaled e h k (a · a))
      ∙ sym (product-⊕ m w D e a (trace m w k (a · a)))

  idempotent_bit : (e : ℕ) → e < 2 ^ m → e · e ≡ e → e < 2
  idempotent_bit e l h =
      subst (λ (x : ℕ). x < 2)
      (trace_scaled e h m (power m w G.some_trace.0) ∙ ap (λ (x : ℕ). e · x) G.some_trace.1 ∙ product_one' e l)
      (trace_bits (e · power m w G.some_trace.0) (product_lt m w D e (power m w G.some_trace.0)))

  -- ---- a · a² ⋯ a^(2^(m−1))
  squares_snoc : (k a : ℕ) → squares m w (suc k) a ≡ squares m w k a · squared m w (suc k) a
  unfolding squares squared
  squares_snoc zero a = product_one' (a · a) (product_lt m w D a a) ∙ sym (product-one m w D (a · a) (product_lt m w D a a))
  squares_snoc (suc k) a = ap (λ (x : ℕ). (a · a) · x) (squares_snoc k (a · a))
      ∙ sym (assoc (a · a) (squares m w k (a · a)) (squared m w (suc k) (a · a)))

  squares_square : (k a : ℕ) → squares m w k a · squares m w k a ≡ squares m w k (a · a)
  unfolding squares
  squares_square zero a = product-one m w D 1 one-lt
  squares_square (suc k) a =
      square_product (a · a) (squares m w k (a · a)) ∙ ap (λ (x : ℕ). ((a · a) · (a · a)) · x) (squares_square k (a · a))

  -- times a it is a^(2^k)
  squares_keep : (k a : ℕ) → a < 2 ^ m → (a · squares m w k a) · a ≡ squared m w (suc k) a
  unfolding squares squared
  squares_keep zero a h = ap (λ (x : ℕ). x · a) (product_one' a h)
  squares_keep (suc k) a h = sorted a ((a · a) · squares m w k (a · a)) ∙ squares_keep k (a · a) (product_lt m w D a a)
    where
      sorted : (x y : ℕ) → (x · y) · x ≡ y · (x · x)
      sorted x y = simp product-laws

  norm : ℕ → ℕ
  norm a = a · squares m w (pred m) a

  from_pred : suc (pred m) ≡ m
  from_pred = omega (arith, G.two)

  norm_idempotent : (a : ℕ) → a < 2 ^ m → norm a · norm a ≡ norm a
  unfolding norm squares
  norm_idempotent a h =
      square_product a (squares m w (pred m) a) ∙ ap (λ (x : ℕ). (a · a) · x) (squares_square (pred m) a) ∙ squares_snoc (pred m) a
      ∙ ap (λ (x : ℕ). squares m w (pred m) a · x) (ap (λ (k : ℕ). squared m w k a) from_pred ∙ fixes a h) ∙ comm (squares m w (pred m) a) a

  norm_keeps : (a : ℕ) → a < 2 ^ m → norm a · a ≡ a
  unfolding norm
  norm_keeps a h = squares_keep (pred m) a h ∙ ap (λ (k : ℕ). squared m w k a) from_pred ∙ fixes a h

  pub product-inverse : (a : ℕ) → a < 2 ^ m → a ≢ 0 → product m w a (inverse m w a) ≡ 1
  unfolding inverse norm
  product-inverse a h ne = bit (norm a) refl (idempotent_bit (norm a) (product_lt m w D a (squares m w (pred m) a)) (norm_idempotent a h))
    where
      bit : (e : ℕ) → norm a ≡ e → e < 2 → norm a ≡ 1
      bit zero p l = absurd (ne (sym (norm_keeps a h) ∙ ap (λ (x : ℕ). x · a) p ∙ zero_product a))
      bit (suc zero) p l = p
      bit (suc (suc e)) p l = absurd (omega arith)

  squares-lt : (k a : ℕ) → squares m w k a < 2 ^ m
  unfolding squares
  squares-lt zero a = one-lt
  squares-lt (suc k) a = product_lt m w D (a · a) (squares m w k (a · a))

  pub inverse-lt : (a : ℕ) → inverse m w a < 2 ^ m
  unfolding inverse
  inverse-lt a = squares-lt (pred m) a

  squares-zero : (k : ℕ) → squares m w (suc k) 0 ≡ 0
  unfolding squares
  squares-zero k = ap (λ (b : ℕ). b · squares m w k b) (zero_product 0) ∙ zero_product (squares m w k 0)

  pub inverse-zero : inverse m w 0 ≡ 0
  unfolding inverse
  inverse-zero = ap (λ (k : ℕ). squares m w k 0) (omega (arith, G.two)) ∙ squares-zero (pred (pred m))
