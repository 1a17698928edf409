-- What follows from the laws of a field of characteristic two.
-- Assumes nothing.
use Rattle.std.specs.Prelude.{◌≡◌, ◌≢◌}
use Rattle.std.proofs.Common.{sym, ap, ap₂, ◌∙◌}
use Rattle.algebra.specs.Field.{Ops, Laws}

module _ {A : Type 0} (K : Ops A) (F : Laws K) where
  infixl 65 ◌+◌
  infixl 70 ◌·◌
  open K use {In, nought, one, inv, add as ◌+◌, mul as ◌·◌}

  pub add-nought : (a : A) → a + nought ≡ a
  add-nought a = F.add_comm a nought ∙ F.nought_add a

  pub add_left_comm : (a b c : A) → a + (b + c) ≡ b + (a + c)
  add_left_comm a b c = sym (F.add_assoc a b c) ∙ ap (λ (x : A). x + c) (F.add_comm a b) ∙ F.add_assoc b a c

  pub add_cancel : (a b : A) → a + (a + b) ≡ b
  add_cancel a b = sym (F.add_assoc a a b) ∙ ap (λ (x : A). x + b) (F.add_self a) ∙ F.nought_add b

  pub add-mul : (a b c : A) → (a + b) · c ≡ a · c + b · c
  add-mul a b c = F.mul_comm (a + b) c ∙ F.mul_add c a b ∙ ap₂ (λ (x y : A). x + y) (F.mul_comm c a) (F.mul_comm c b)

  pub mul_left_comm : (a b c : A) → a · (b · c) ≡ b · (a · c)
  mul_left_comm a b c = sym (F.mul_assoc a b c) ∙ ap (λ (x : A). x · c) (F.mul_comm a b) ∙ F.mul_assoc b a c

  -- 0·a is its own double, and doubles are zero
  pub nought-mul : (a : A) → nought · a ≡ nought
  nought-mul a = ap (λ (x : A). x · a) (sym (F.add_self nought)) ∙ add-mul nought nought a ∙ F.add_self (nought · a)

  pub mul-nought : (a : A) → a · nought ≡ nought
  mul-nought a = F.mul_comm a nought ∙ nought-mul a

  pub mul-one : (a : A) → In a → a · one ≡ a
  mul-one a h = F.mul_comm a one ∙ F.one-mul a h

  -- the record's own laws by name, for the ruleset
  pub add_comm : (a b : A) → a + b ≡ b + a
  add_comm = F.add_comm

  pub add_assoc : (a b c : A) → (a + b) + c ≡ a + (b + c)
  add_assoc = F.add_assoc

  pub nought_add : (a : A) → nought + a ≡ a
  nought_add = F.nought_add

  pub add_self : (a : A) → a + a ≡ nought
  add_self = F.add_self

  pub mul_comm : (a b : A) → a · b ≡ b · a
  mul_comm = F.mul_comm

  pub mul_assoc : (a b c : A) → (a · b) · c ≡ a · (b · c)
  mul_assoc = F.mul_assoc

  pub mul_add : (a b c : A) → a · (b + c) ≡ a · b + a · c
  mul_add = F.mul_add

  pub one-mul : (a : A) → In a → one · a ≡ a
  one-mul = F.one-mul

  -- decides the identities of a commutative ring of characteristic two: sums and products are sorted, and equal terms cancel
  pub ruleset ring =
      (add_comm, add_assoc, add_left_comm, nought_add, add-nought, add_self, add_cancel, mul_comm, mul_assoc, mul_left_comm, mul_add, add-mul, nought-mul, mul-nought, one-mul, mul-one)

  -- a multiple of a known equation may be added to both sides
  pub lin : {l r u v : A} (c : A) → l ≡ r → u + c · l ≡ v + c · r → u ≡ v
  lin {l} {r} {u} {v} c h e = twice u ∙ ap (λ (x : A). x + c · r) (rw h at e) ∙ sym (twice v)
    where
      twice : (x : A) → x ≡ (x + c · r) + c · r
      twice x = simp ring

  pub add_eq : (a b : A) → a + b ≡ nought → a ≡ b
  add_eq a b e = twice ∙ ap (λ (x : A). x + b) e ∙ nought_add b
    where
      twice : a ≡ (a + b) + b
      twice = simp ring

  -- there are no zero divisors
  pub mul_cancel : (a b : A) → In a → In b → a ≢ nought → a · b ≡ nought → b ≡ nought
  mul_cancel a b ha hb ne e =
      sym (one-mul b hb) ∙ ap (λ (x : A). x · b) (sym (F.mul_inv a ha ne)) ∙ sorted ∙ ap (λ (x : A). inv a · x) e ∙ mul-nought (inv a)
    where
      sorted : a · inv a · b ≡ inv a · (a · b)
      sorted = simp ring

  pub no_zero_divisors : (a b : A) → In a → In b → a ≢ nought → b ≢ nought → a · b ≢ nought
  no_zero_divisors a b ha hb na nb e = nb (mul_cancel a b ha hb na e)

  pub inv_unique : (a b : A) → In a → In b → a ≢ nought → a · b ≡ one → b ≡ inv a
  inv_unique a b ha hb ne e =
      sym (one-mul b hb) ∙ ap (λ (x : A). x · b) (sym (F.mul_inv a ha ne)) ∙ sorted ∙ ap (λ (x : A). inv a · x) e
      ∙ mul-one (inv a) (F.in_inv a)
    where
      sorted : a · inv a · b ≡ inv a · (a · b)
      sorted = simp ring

  pub inv≢nought : (a : A) → In a → a ≢ nought → inv a ≢ nought
  inv≢nought a ha ne e = F.one≢nought (sym (F.mul_inv a ha ne) ∙ ap (λ (x : A). a · x) e ∙ mul-nought a)

  pub square_injective : (a b : A) → In a → In b → a · a ≡ b · b → a ≡ b
  square_injective a b ha hb e = decided (F.nought? (a + b))
    where
      h : In (a + b)
      h = F.in_add a b ha hb

      zero_square : (a + b) · (a + b) ≡ nought
      zero_square = expanded ∙ ap (λ (x : A). x + b · b) e ∙ add_self (b · b)
        where
          expanded : (a + b) · (a + b) ≡ a · a + b · b
          expanded = simp ring

      decided : Dec (a + b ≡ nought) → a ≡ b
      decided (yes z) = add_eq a b z
      decided (no nz) = absurd (no_zero_divisors (a + b) (a + b) h h nz nz zero_square)
