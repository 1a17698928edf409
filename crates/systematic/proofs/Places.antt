-- The loops of `systematic`, over plain numbers and lists: how each begins, what one turn makes of it, and what it ends with.
use mathlib.Core.Path.{◌≡◌, refl, sym, ap, ap₂, ◌∙◌, subst}
use mathlib.Core.Logic.{◌≢◌}
use mathlib.Core.Bool.{Bool, true, false, cond, not, false≢true}
use mathlib.Core.List.{List}
use Prim.Native.Nat.{ℕ, suc, ◌+◌, ◌-◌, ◌*◌, ◌/◌, ◌%◌, ◌<◌, ◌≤◌}
use native.Mathlib.Nat.{mod-eq_of_lt}
use native.Mathlib.Decide.{ℕ_discrete}
use native.Mathlib.Omega.{arith}
use lib.ListN.{length, set, length-set}
use lib.Seq.{get_or-set_same, get_or-set_other}
use borrow.Author.Tests.{eqb-true, eq-eqb, ne_eqb}
use Rattle.algebra.specs.BitLaws.{bit_at_lt}
use Rattle.algebra.specs.Gf2.{gf2}
use Rattle.algebra.specs.Gf2Laws.{gf2_laws}
use Rattle.algebra.specs.Echelon.{rest, rest_cong}
use Rattle.algebra.specs.Lists.{entry_of}
use Rattle.algebra.specs.Places.{count}
use Rattle.algebra.specs.Subsequence.{count_turn, count_below}
use Rattle.algebra.specs.Sum.{sum}
use Rattle.algebra.specs.SumLaws.{in_sum}
use Rattle.algebra.specs.Filling.{Filling, filling_start, filling_turn}
use Rattle.algebra.specs.TabulateLaws.{length-tabulate, get_d_tabulate}
use Rattle.algebra.specs.Xor.{◌⊕◌}
use Rattle.slices.specs.Bits.{Bits}
use Rattle.slices.specs.BitLaws.{bits_anywhere}
use Rattle.basis.specs.Packed.{packed_bit}
use Rattle.basis.specs.Table.{row_bit, lead_at, free_at, Form, placed_at}

-- ---- the test of the code, as what the specification asks of a place

pub led : (leads : List ℕ) (p : ℕ) → entry_of leads p ≡ 1 → free_at leads p ≡ false
unfolding free_at lead_at
led leads p e = ap not (eq-eqb (entry_of leads p) 1 e)

pub free : (leads : List ℕ) (p : ℕ) → entry_of leads p ≢ 1 → free_at leads p ≡ true
unfolding free_at lead_at
free leads p ne = ap not (ne_eqb (entry_of leads p) 1 ne)

-- ---- `roles` and `place`: a value at each free place, and 0 at the others

abbrev pub at_free : List ℕ → (ℕ → ℕ) → ℕ → ℕ
at_free leads a q = cond (free_at leads q) (a q) 0

-- the loop has stored at p what is due there, by whichever arm
pub filling_place : (leads : List ℕ) (a : ℕ → ℕ) {n : ℕ} {old now next : List ℕ} {p : ℕ} → Filling (at_free leads a) n old now p → p < n
    → (b : Bool) → free_at leads p ≡ b → next ≡ set now p (cond b (a p) 0) → Filling (at_free leads a) n old next (p + 1)
filling_place leads a {n} {old} {now} {next} {p} F l b e s =
    subst (λ (x : List ℕ). Filling (at_free leads a) n old x (p + 1)) (sym s) (filling_turn F l (sym (ap (λ (b : Bool). cond b (a p) 0) e)))

-- the message's entry for the free place q
abbrev pub placed : List ℕ → List ℕ → ℕ → ℕ
placed message leads q = entry_of message (count q (free_at leads))

-- the places before p are filled, with the first entries of the message
pub record Placing (message leads old now : List ℕ) (taken p : ℕ) : Type 0 where
  pub number : taken ≡ count p (free_at leads)
  pub filling : Filling (at_free leads (placed message leads)) (length old) old now p

pub place_start : (message leads old : List ℕ) → Placing message leads old old 0 0
unfolding count
place_start message leads old =
    record { number = refl; filling = filling_start (at_free leads (placed message leads)) (length old) old refl }

module _ {message leads old now : List ℕ} {taken p : ℕ} (P : Placing message leads old now taken p) (l : p < length old) where
  -- an entry of the message is left for a free place
  pub place_index : entry_of leads p ≢ 1 → count (length old) (free_at leads) ≤ length message → taken < length message
  place_index ne h =
      let fewer : count p (free_at leads) < count (length old) (free_at leads) = count_below (free_at leads) p (length old) l (free leads p ne) in
      let number : taken ≡ count p (free_at leads) = P.number in
      omega arith

  pub place_turn : {next : List ℕ} {taken' : ℕ} (b : Bool) → free_at leads p ≡ b → next ≡ set now p (cond b (entry_of message taken) 0)
      → taken' ≡ cond b (taken + 1) taken → Placing message leads old next taken' (p + 1)
  place_turn b e s t =
      record {
        number = t ∙ ap (λ (k : ℕ). cond b (k + 1) k) P.number ∙ sym (count_turn (free_at leads) p b e);
        filling =
            filling_place leads (placed message leads) P.filling l b e
            (s ∙ ap (λ (k : ℕ). set now p (cond b (entry_of message k) 0)) P.number);
      }

-- ---- `forced`: the sum over the places passed

pub read_bit : (row : List ℕ) (j b : ℕ) → b ≡ packed_bit row j → b < 2
unfolding packed_bit
read_bit row j b e = subst (λ (x : ℕ). x < 2) (sym e) (bit_at_lt (entry_of row (j / 64)) (j % 64))

-- the product of two bits is that of the field of two elements
bit_product : (a b : ℕ) → a < 2 → b < 2 → a * b ≡ gf2.mul a b
bit_product a b ha hb = sym (ap₂ (λ (x y : ℕ). x * y) (mod-eq_of_lt ha) (mod-eq_of_lt hb))

pub bit_product_in : (a b : ℕ) → a < 2 → b < 2 → a * b < 2
bit_product_in a b ha hb = subst (λ (x : ℕ). x < 2) (sym (bit_product a b ha hb)) (gf2_laws.in_mul a b)

-- what a row says of the places after p: nothing before place p + 1, then one term more for each place, and always a bit
module _ (r w : ℕ → ℕ) (p : ℕ) where
  term : ℕ → ℕ
  term i = gf2.mul (r (suc p + i)) (w (suc p + i))

  rest_none : rest gf2 (p + 1) r w p ≡ 0
  unfolding rest sum term
  rest_none = ap (λ (k : ℕ). sum gf2 k term) none
    where
      none : p + 1 - suc p ≡ 0
      none = omega arith

  rest_more : (j : ℕ) → p < j → rest gf2 (j + 1) r w p ≡ rest gf2 j r w p ⊕ gf2.mul (r j) (w j)
  unfolding rest sum term
  rest_more j l = ap (λ (k : ℕ). sum gf2 k term) one_more ∙ ap (λ (k : ℕ). sum gf2 (j - suc p) term ⊕ gf2.mul (r k) (w k)) last
    where
      one_more : j + 1 - suc p ≡ suc (j - suc p)
      one_more = omega arith

      last : suc p + (j - suc p) ≡ j
      last = omega arith

  rest_in : (n : ℕ) → rest gf2 n r w p < 2
  unfolding rest term
  rest_in n = in_sum gf2 gf2_laws (n - suc p) term (λ i l. gf2_laws.in_mul (r (suc p + i)) (w (suc p + i)))

-- s is the sum over the places after p and before j
pub record Forcing (rows word : List ℕ) (p s j : ℕ) : Type 0 where
  pub after : p < j
  pub bound : j ≤ length word
  pub so_far : s ≡ rest gf2 j (row_bit rows p) (entry_of word) p

pub force_start : (rows word : List ℕ) (p : ℕ) → p < length word → Forcing rows word p 0 (p + 1)
force_start rows word p l = record { after = omega arith; bound = omega arith; so_far = sym (rest_none (row_bit rows p) (entry_of word) p) }

module _ {rows word : List ℕ} {p s j : ℕ} (F : Forcing rows word p s j) where
  pub force_turn : (b : ℕ) → j < length word → b < 2 → b ≡ row_bit rows p j → entry_of word j < 2
      → Forcing rows word p (s ⊕ b * entry_of word j) (j + 1)
  force_turn b l hb e hw =
      record {
        after = omega (arith, F.after);
        bound = omega arith;
        so_far =
            ap₂ (λ (x y : ℕ). x ⊕ y) F.so_far (bit_product b (entry_of word j) hb hw ∙ ap (λ (x : ℕ). gf2.mul x (entry_of word j)) e)
            ∙ sym (rest_more (row_bit rows p) (entry_of word) p j F.after);
      }

  pub force_end : length word ≤ j → (s ≡ rest gf2 (length word) (row_bit rows p) (entry_of word) p) × (s < 2)
  force_end l =
      let whole : j ≡ length word = omega (arith, F.bound) in (
        F.so_far ∙ ap (λ (k : ℕ). rest gf2 k (row_bit rows p) (entry_of word) p) whole,
        subst (λ (x : ℕ). x < 2) (sym F.so_far) (rest_in (row_bit rows p) (entry_of word) p j),
      )

-- ---- `complete`: from place p on the entries are as the rows say

pub record Completing (rows leads old now : List ℕ) (p : ℕ) : Type 0 where
  pub bound : p ≤ length old
  pub long : length now ≡ length old
  pub bits : (j : ℕ) → j < length old → entry_of now j < 2
  pub forced : (q : ℕ) → p ≤ q → q < length old → lead_at leads q ≡ true → entry_of now q ≡ rest gf2 (length old) (row_bit rows q) (entry_of now) q
  pub kept : (q : ℕ) → q < length old → lead_at leads q ≡ false → entry_of now q ≡ entry_of old q

module _ {rows leads old now : List ℕ} {p : ℕ} (C : Completing rows leads old now p) (l : 0 < p) where
  pub complete_index : p - 1 < length now
  complete_index = omega (arith, C.bound, C.long)

  pub complete_free : entry_of leads (p - 1) ≢ 1 → Completing rows leads old now (p - 1)
  unfolding lead_at
  complete_free ne =
      record {
        bound = omega (arith, C.bound);
        long = C.long;
        bits = C.bits;
        forced = λ q a h t. C.forced q (later q a t) h t;
        kept = C.kept;
      }
    where
      later : (q : ℕ) → p - 1 ≤ q → lead_at leads q ≡ true → p ≤ q
      later q a t =
          let away : q ≢ p - 1 = λ z. ne (ap (entry_of leads) (sym z) ∙ eqb-true (entry_of leads q) 1 t) in omega arith

  -- a row looks only at places after its own, so the rows from p on do not see the new entry
  pub complete_led : (v : ℕ) → Form (length old) rows leads → entry_of leads (p - 1) ≡ 1
      → (v ≡ rest gf2 (length now) (row_bit rows (p - 1)) (entry_of now) (p - 1)) × (v < 2) → Completing rows leads old (set now (p - 1) v) (p - 1)
  unfolding lead_at
  complete_led v F e (due, bit) =
      record {
        bound = omega (arith, C.bound);
        long = length-set now (p - 1) v ∙ C.long;
        bits = λ j h. bits j h (ℕ_discrete j (p - 1));
        forced = λ q a h t. says q a h t (ℕ_discrete q (p - 1));
        kept = λ q h t. other q (λ z. false≢true (sym t ∙ eq-eqb (entry_of leads q) 1 (ap (entry_of leads) z ∙ e))) ∙ C.kept q h t;
      }
    where
      new : List ℕ
      new = set now (p - 1) v

      at : entry_of new (p - 1) ≡ v
      at = get_or-set_same now (p - 1) v 0 complete_index

      other : (q : ℕ) → q ≢ p - 1 → entry_of new q ≡ entry_of now q
      other q ne = get_or-set_other now (p - 1) q v 0 ne

      same : (q : ℕ) → p - 1 ≤ q → rest gf2 (length old) (row_bit rows q) (entry_of now) q ≡ rest gf2 (length old) (row_bit rows q) (entry_of new) q
      same q a =
          rest_cong gf2 gf2_laws (length old) (row_bit rows) (lead_at leads) F.echelon (row_bit rows q) (entry_of now) (entry_of new) q
          (λ j b h. sym (other j (λ z. omega arith)))

      bits : (j : ℕ) → j < length old → Dec (j ≡ p - 1) → entry_of new j < 2
      bits j h (yes z) = subst (λ (x : ℕ). x < 2) (sym (ap (entry_of new) z ∙ at)) bit
      bits j h (no ne) = subst (λ (x : ℕ). x < 2) (sym (other j ne)) (C.bits j h)

      says : (q : ℕ) → p - 1 ≤ q → q < length old → lead_at leads q ≡ true → Dec (q ≡ p - 1)
          → entry_of new q ≡ rest gf2 (length old) (row_bit rows q) (entry_of new) q
      says q a h t (yes z) =
          ap (entry_of new) z ∙ at ∙ due ∙ ap₂ (λ (n i : ℕ). rest gf2 n (row_bit rows i) (entry_of now) i) C.long (sym z) ∙ same q a
      says q a h t (no ne) = other q ne ∙ C.forced q (omega arith) h t ∙ same q a

-- ---- `carry`

-- what is placed from a message of bits is bits
pub placed_bits : (n : ℕ) (leads message : List ℕ) → Bits message → Bits (placed_at n leads message)
unfolding placed_at
placed_bits n leads message bits j l =
    let f = at_free leads (placed message leads) in
    subst (λ (x : ℕ). x < 2) (sym (get_d_tabulate n f j 0 (subst (λ (k : ℕ). j < k) (length-tabulate n f) l))) (bit (free_at leads j))
  where
    bit : (b : Bool) → cond b (placed message leads j) 0 < 2
    bit true = bits_anywhere message bits (count j (free_at leads))
    bit false = omega arith
