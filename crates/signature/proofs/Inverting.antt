-- The two loops that invert a signature, over plain numbers and lists: the products before each place, going up, and the inverses, going down.
use mathlib.Core.Path.{◌≡◌, refl, sym, ap, ap₂, ◌∙◌, subst}
use mathlib.Core.Bool.{true}
use mathlib.Core.List.{List}
use Prim.Native.Nat.{ℕ, suc, ◌+◌, ◌-◌, ◌<◌, ◌≤◌, ◌^◌}
use native.Mathlib.Decide.{ℕ_discrete}
use native.Mathlib.Numerals.{add-one}
use native.Mathlib.Omega.{arith}
use lib.ListN.{length, set, length-set}
use lib.Seq.{get_or-set_same, get_or-set_other}
use Rattle.algebra.specs.Field.{Laws}
use Rattle.algebra.specs.Product.{prod, Units, in_prod, factor_inverse, rest_inverse}
use Rattle.algebra.specs.Filling.{filled, filled_start, filled_turn}
use Rattle.field.specs.Gf.{Width, gf}
use Rattle.field.proofs.GfLaws.{gf_laws}
use Rattle.slices.specs.Elements.{Elements}
use Rattle.signature.specs.Tests.{inverse_at, no_zero}
use Rattle.signature.specs.TestLaws.{no_zero_is}
use Rattle.signature.specs.Inverses.{before}
use Rattle.algebra.specs.Lists.{entry_of}

module _ (m : ℕ) (W : Width m) (h : List ℕ) where
  abbrev F : Laws (gf m)
  F = gf_laws m W

  pub before_in : (i : ℕ) → before m h i < 2 ^ m
  before_in i = in_prod (gf m) F i (entry_of h)

  -- ---- `multiply`

  pub record Multiplying (old now : List ℕ) (product i : ℕ) : Type 0 where
    pub bound : i ≤ length h
    pub so_far : now ≡ filled (before m h) i old
    pub product_is : product ≡ before m h i

  pub multiplying_start : (old : List ℕ) → Multiplying old old 1 0
  unfolding prod
  multiplying_start old = record { bound = omega arith; so_far = filled_start (before m h) old; product_is = refl }

  module _ {old now : List ℕ} {product i : ℕ} (room : length h ≤ length old) (M : Multiplying old now product i) where
    pub multiplying_turn : i < length h → {next : ℕ} → next ≡ (gf m).mul product (entry_of h i) → Multiplying old (set now i product) next (i + 1)
    unfolding prod
    multiplying_turn l e =
        record {
          bound = omega arith;
          so_far =
              ap₂ (λ (x : List ℕ) (p : ℕ). set x i p) M.so_far M.product_is ∙ filled_turn (before m h) i old (omega arith);
          product_is =
              e ∙ ap (λ (p : ℕ). (gf m).mul p (entry_of h i)) M.product_is ∙ sym (ap (before m h) (add-one i));
        }

  -- ---- `invert`: the places from i on hold inverses, those before still the products before them

  pub record Inverting (old now : List ℕ) (rest i : ℕ) : Type 0 where
    pub bound : i ≤ length h
    pub long : length now ≡ length old
    pub rest_is : rest ≡ (gf m).inv (before m h i)
    pub rest_in : rest < 2 ^ m
    pub left : (k : ℕ) → k < i → entry_of now k ≡ before m h k
    pub inverted : (k : ℕ) → i ≤ k → k < length h → entry_of now k ≡ inverse_at m h k

  module _ {old : List ℕ} (room : length h ≤ length old) where
    pub inverting_start : {rest : ℕ} → ((k : ℕ) → k < length h → entry_of old k ≡ before m h k) → rest ≡ (gf m).inv (before m h (length h))
        → rest < 2 ^ m
        → Inverting old old rest (length h)
    inverting_start products rest_is rest_in =
        record {
          bound = omega arith;
          long = refl;
          rest_is = rest_is;
          rest_in = rest_in;
          left = products;
          inverted = λ k a b. absurd (omega arith);
        }

    module _ {now : List ℕ} {rest i : ℕ} (I : Inverting old now rest i) where
      pub inverting_index : 0 < i → i - 1 < length now
      inverting_index l = omega (arith, I.bound, I.long)

      pub entry_in : 0 < i → entry_of now (i - 1) < 2 ^ m
      entry_in l = subst (λ (x : ℕ). x < 2 ^ m) (sym (I.left (i - 1) (omega arith))) (before_in (i - 1))

      pub inverting_turn : Units (gf m) F (length h) (entry_of h) → 0 < i → {v next : ℕ} → v ≡ (gf m).mul (entry_of now (i - 1)) rest
          → next ≡ (gf m).mul rest (entry_of h (i - 1)) → Inverting old (set now (i - 1) v) next (i - 1)
      unfolding inverse_at
      inverting_turn U l {v} {next} v-is next_is =
          record {
            bound = omega (arith, I.bound);
            long = length-set now (i - 1) v ∙ I.long;
            rest_is =
                next_is ∙ ap (λ (r : ℕ). (gf m).mul r (entry_of h (i - 1))) rest_here
                ∙ rest_inverse (gf m) F (i - 1) (entry_of h) units;
            rest_in = subst (λ (x : ℕ). x < 2 ^ m) (sym next_is) (F.in_mul rest (entry_of h (i - 1)));
            left = λ k lk. get_or-set_other now (i - 1) k v 0 (other lk) ∙ I.left k (omega arith);
            inverted = λ k a b. at k a b (ℕ_discrete k (i - 1));
          }
        where
          step : suc (i - 1) ≡ i
          step = omega arith

          rest_here : rest ≡ (gf m).inv (before m h (suc (i - 1)))
          rest_here = I.rest_is ∙ ap (λ (k : ℕ). (gf m).inv (before m h k)) (sym step)

          units : Units (gf m) F (suc (i - 1)) (entry_of h)
          units =
              record {
                inside = λ k lk. U.inside k (within lk);
                nonzero = λ k lk. U.nonzero k (within lk);
              }
            where
              within : {k : ℕ} → k < suc (i - 1) → k < length h
              within lk = omega (arith, I.bound)

          here : v ≡ (gf m).inv (entry_of h (i - 1))
          here =
              v-is ∙ ap₂ (λ (p r : ℕ). (gf m).mul p r) (I.left (i - 1) (omega arith)) rest_here
              ∙ factor_inverse (gf m) F (i - 1) (entry_of h) units

          other : {k : ℕ} → k < i - 1 → k ≡ i - 1 → ⊥
          other lk e = omega arith

          at : (k : ℕ) → i - 1 ≤ k → k < length h → Dec (k ≡ i - 1) → entry_of (set now (i - 1) v) k ≡ inverse_at m h k
          at k a b (yes e) =
              ap (entry_of (set now (i - 1) v)) e ∙ get_or-set_same now (i - 1) v 0 (inverting_index l) ∙ here
              ∙ ap (λ (j : ℕ). (gf m).inv (entry_of h j)) (sym e)
          at k a b (no ne) = get_or-set_other now (i - 1) k v 0 ne ∙ I.inverted k (omega arith) b

-- an accepted signature's entries have inverses
pub units : (m : ℕ) (W : Width m) (h : List ℕ) → Elements m h → no_zero h ≡ true → Units (gf m) (gf_laws m W) (length h) (entry_of h)
units m W h elements nonzero = record { inside = elements; nonzero = (no_zero_is m h).0 nonzero }
