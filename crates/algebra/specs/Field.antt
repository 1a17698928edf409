-- A field of characteristic two, as two records: the operations, which definitions take, and their laws, which theorems take.
--
-- The carrier may hold more than the field's elements: `In` picks those. The ring laws hold on the whole carrier, so that only the unit and
-- the inverse ask for `In`, and a proof carries few side conditions.
-- Assumes nothing.
use Rattle.std.specs.Prelude.{◌≡◌, ◌≢◌}

pub record Ops (A : Type 0) : Type 1 where
  pub In : A → Type 0
  pub nought : A
  pub one : A
  pub add : A → A → A
  pub mul : A → A → A
  pub inv : A → A

pub record Laws {A : Type 0} (K : Ops A) : Type 0 where
  pub add_comm : (a b : A) → K.add a b ≡ K.add b a
  pub add_assoc : (a b c : A) → K.add (K.add a b) c ≡ K.add a (K.add b c)
  pub nought_add : (a : A) → K.add K.nought a ≡ a
  pub add_self : (a : A) → K.add a a ≡ K.nought
  pub mul_comm : (a b : A) → K.mul a b ≡ K.mul b a
  pub mul_assoc : (a b c : A) → K.mul (K.mul a b) c ≡ K.mul a (K.mul b c)
  pub mul_add : (a b c : A) → K.mul a (K.add b c) ≡ K.add (K.mul a b) (K.mul a c)
  pub one-mul : (a : A) → K.In a → K.mul K.one a ≡ a
  pub mul_inv : (a : A) → K.In a → a ≢ K.nought → K.mul a (K.inv a) ≡ K.one
  pub one≢nought : K.one ≢ K.nought
  pub nought? : (a : A) → Dec (a ≡ K.nought)
  pub in_nought : K.In K.nought
  pub in_one : K.In K.one
  pub in_add : (a b : A) → K.In a → K.In b → K.In (K.add a b)
  pub in_mul : (a b : A) → K.In (K.mul a b)
  pub in_inv : (a : A) → K.In (K.inv a)
