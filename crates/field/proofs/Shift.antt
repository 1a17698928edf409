-- The arithmetic of `internal`, over plain numbers: what its functions compute a step at a time is the product of specs/.
use mathlib.Core.Path.{◌≡◌, refl, sym, ap, ap₂, ◌∙◌, subst}
use Prim.Native.Nat.{ℕ, zero, suc, pred, ◌+◌, ◌-◌, ◌*◌, ◌/◌, ◌%◌, ◌^◌, ◌≤◌, ◌<◌, suc-le-suc}
use native.Mathlib.Nat.{zero-mul, one-mul, mod-eq_of_lt, div-eq_of_lt, lt_of_lt_of_le, div-lt_iff_lt-mul}
use native.Mathlib.Decide.{dec_lt}
use native.Mathlib.Omega.{arith}
use native.Mathlib.Numerals.{sub-one}
use lib.Dec.{lit<, eqb, ltb}
use borrow.Author.Tests.{eq-eqb, ne_eqb, lt-ltb, le-ltb}
use lib.Pow.{pow_pos, pow_mono}
use Rattle.algebra.specs.Xor.{◌⊕◌}
use Rattle.algebra.specs.XorLaws.{⊕_assoc, ⊕-zero, zero-⊕, ⊕-lt}
use Rattle.field.specs.Product.{product, squares, inverse}
use Rattle.field.specs.Horner.{horner, horner-times_u}
use Rattle.field.proofs.ProductByU.{over_is_bit}
use Rattle.field.specs.Ring.{Degree, bit_lt, product-horner, product_lt, product-one, product_comm, product_assoc, product_u}
use Rattle.field.specs.Inverse.{inverse-lt}
use Rattle.field.specs.Words.{word, widest}
use Rattle.field.specs.Gf.{Width}
use Rattle.field.proofs.GfLaws.{gf_is_field}
use Rattle.field.specs.Range.{is_element}

-- the range test by a shift: a number is below 2^m exactly if nothing is left of it
pub shifted_test : (m a : ℕ) → eqb (a / 2 ^ m) 0 ≡ is_element m a
unfolding is_element
shifted_test m a = decided (dec_lt a (2 ^ m))
  where
    outside : a / 2 ^ m ≡ 0 → a < 2 ^ m
    outside e = subst (λ (x : ℕ). a < x) (one-mul (2 ^ m)) ((div-lt_iff_lt-mul (pow_pos m)).0 (subst (λ (x : ℕ). x < 1) (sym e) (lit< tt)))

    decided : Dec (a < 2 ^ m) → eqb (a / 2 ^ m) 0 ≡ ltb a (2 ^ m)
    decided (yes l) = eq-eqb (a / 2 ^ m) 0 (div-eq_of_lt l) ∙ sym (lt-ltb a (2 ^ m) l)
    decided (no nl) = ne_eqb (a / 2 ^ m) 0 (λ e. nl (outside e)) ∙ sym (le-ltb a (2 ^ m) (omega arith))

module _ (m : ℕ) (W : Width m) where
  abbrev w : ℕ
  w = word m

  abbrev D : Degree m w
  D = (gf_is_field m W).degree

  -- an element fits every type that holds the widest field's
  pub element_fits : (a : ℕ) → a < 2 ^ m → a < 2 ^ widest
  element_fits a h = lt_of_lt_of_le h (pow_mono W.high)

  -- the word, taken no time or once, fits
  pub over_fits : (a : ℕ) → a < 2 ^ m → (a * 2 / 2 ^ m) * w < 2 ^ suc widest
  over_fits a h = cases (a * 2 / 2 ^ m) (over_is_bit m W a h)
    where
      word_fits : w < 2 ^ suc widest
      word_fits = lt_of_lt_of_le D.top (pow_mono (suc-le-suc W.high))

      cases : (c : ℕ) → c < 2 → c * w < 2 ^ suc widest
      cases zero l = subst (λ (x : ℕ). x < 2 ^ suc widest) (sym (zero-mul w)) (pow_pos (suc widest))
      cases (suc zero) l = subst (λ (x : ℕ). x < 2 ^ suc widest) (sym (one-mul w)) word_fits
      cases (suc (suc c)) l = absurd (omega arith)

  -- ---- the loop of the product: what is gathered, and what the bits left still add

  pub record Gathering (a b sum shifted bits i : ℕ) : Type 0 where
    pub bound : i ≤ m
    pub sum_lt : sum < 2 ^ m
    pub shifted_lt : shifted < 2 ^ m
    pub whole : sum ⊕ horner m w (m - i) bits shifted ≡ product m w a b

  pub gather_start : (a b : ℕ) → a < 2 ^ m → Gathering a b 0 a b 0
  gather_start a b h =
      record {
        bound = omega arith;
        sum_lt = pow_pos m;
        shifted_lt = h;
        whole =
            zero-⊕ (horner m w (m - 0) b a) ∙ ap₂ (λ (k x : ℕ). horner m w k b x) from_zero (sym (mod-eq_of_lt h)) ∙ sym (product-horner m w D a b);
      }
    where
      from_zero : m - 0 ≡ m
      from_zero = omega arith

  horner_turn : (k bits x : ℕ) → x < 2 ^ m → (bits % 2) * x ⊕ horner m w k (bits / 2) (product m w 2 x) ≡ horner m w (suc k) bits x
  unfolding horner
  horner_turn k bits x h =
      ap (λ (y : ℕ). (bits % 2) * x ⊕ horner m w k (bits / 2) y) (product_u m w D x W.low h)
      ∙ ap (λ (y : ℕ). (bits % 2) * x ⊕ y) (horner-times_u m w k (bits / 2) x)

  pub gather_turn : (a b sum shifted bits i : ℕ) → i < m → Gathering a b sum shifted bits i
      → Gathering a b (sum ⊕ bits % 2 * shifted) (product m w 2 shifted) (bits / 2) (i + 1)
  gather_turn a b sum shifted bits i h g =
      record {
        bound = omega arith;
        sum_lt = ⊕-lt m sum (bits % 2 * shifted) g.sum_lt (bit_lt m w D bits shifted g.shifted_lt);
        shifted_lt = product_lt m w D 2 shifted;
        whole =
            ⊕_assoc sum (bits % 2 * shifted) (horner m w (m - (i + 1)) (bits / 2) (product m w 2 shifted))
            ∙ ap (λ (x : ℕ). sum ⊕ x)
            (horner_turn (m - (i + 1)) bits shifted g.shifted_lt ∙ ap (λ (k : ℕ). horner m w k bits shifted) one_less)
            ∙ g.whole;
      }
    where
      one_less : suc (m - (i + 1)) ≡ m - i
      one_less = omega arith

  pub gather_end : (a b sum shifted bits i : ℕ) → m ≤ i → Gathering a b sum shifted bits i → sum ≡ product m w a b
  unfolding horner
  gather_end a b sum shifted bits i h g =
      sym (⊕-zero sum) ∙ ap (λ (k : ℕ). sum ⊕ horner m w k bits shifted) none_left ∙ g.whole
    where
      none_left : 0 ≡ m - i
      none_left = omega arith

  -- ---- the loop of the inverse: what is multiplied, and the squares that are still to come

  pub record Chaining (a squared result i : ℕ) : Type 0 where
    pub bound : i ≤ m
    pub squared_lt : squared < 2 ^ m
    pub result_lt : result < 2 ^ m
    pub whole : product m w result (squares m w (m - i) squared) ≡ inverse m w a

  pub chain_start : (a : ℕ) → a < 2 ^ m → Chaining a a 1 1
  unfolding inverse
  chain_start a h =
      record {
        bound = D.positive;
        squared_lt = h;
        result_lt = lt_of_lt_of_le (lit< tt) (pow_mono D.positive);
        whole = ap (λ (k : ℕ). product m w 1 (squares m w k a)) (sub-one m)
            ∙ product-one m w D (squares m w (pred m) a) (inverse-lt m w (gf_is_field m W) a);
      }

  pub chain_turn : (a squared result i : ℕ) → i < m → Chaining a squared result i
      → Chaining a (product m w squared squared) (product m w result (product m w squared squared)) (i + 1)
  unfolding squares
  chain_turn a squared result i h g =
      record {
        bound = omega arith;
        squared_lt = product_lt m w D squared squared;
        result_lt = product_lt m w D result (product m w squared squared);
        whole =
            product_assoc m w D result (product m w squared squared) (squares m w (m - (i + 1)) (product m w squared squared))
            ∙ ap (product m w result) (one_more (m - (i + 1)) ∙ ap (λ (k : ℕ). squares m w k squared) one_less) ∙ g.whole;
      }
    where
      one_more : (k : ℕ) → product m w (product m w squared squared) (squares m w k (product m w squared squared)) ≡ squares m w (suc k) squared
      one_more k = refl

      one_less : suc (m - (i + 1)) ≡ m - i
      one_less = omega arith

  pub chain_end : (a squared result i : ℕ) → m ≤ i → Chaining a squared result i → result ≡ inverse m w a
  unfolding squares
  chain_end a squared result i h g =
      sym (product-one m w D result g.result_lt) ∙ product_comm m w D 1 result
      ∙ ap (λ (k : ℕ). product m w result (squares m w k squared)) none_left ∙ g.whole
    where
      none_left : 0 ≡ m - i
      none_left = omega arith
