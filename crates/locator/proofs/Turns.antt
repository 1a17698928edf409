-- A turn of the pass, and the whole pass, from what is known of their halves.
use mathlib.Core.Path.{◌≡◌, sym, ap, ◌∙◌, subst, subst₂}
use mathlib.Core.Bool.{Bool, true, false, not, false≢true}
use mathlib.Core.List.{List}
use Prim.Native.Nat.{ℕ, zero, suc, ◌+◌, ◌/◌, ◌<◌, ◌≤◌, ◌^◌}
use native.Mathlib.Nat.{le_trans}
use native.Mathlib.Decide.{ℕ_discrete}
use native.Mathlib.Omega.{arith}
use lib.Dec.{eqb}
use lib.Pow.{pow_pos}
use lib.ListN.{length}
use borrow.Author.Tests.{eq-eqb, ne_eqb}
use Rattle.algebra.specs.FieldLaws.{mul-nought, nought-mul}
use Rattle.algebra.specs.Locator.Split.{Halves, discrepancy}
use Rattle.algebra.specs.Locator.Nodal.{Points}
use Rattle.algebra.specs.Locator.Pass.{Invariant, Pivot, Pivot.smaller, Pivot.remaining, Raised, Reduced, Step, Step.first_pivot, Step.second_pivot, pass_start, pass_step, pass_swap}
use Rattle.field.specs.Gf.{Width, gf}
use Rattle.field.proofs.GfLaws.{gf_laws}
use Rattle.algebra.specs.Lists.{entry_of}
use Rattle.locator.specs.declared.polynomial.Polynomial.{Polynomial}
use Rattle.locator.specs.Halves.{Half, Pair, Constant}
use Rattle.locator.specs.Coefficients.{halves_of, Turned, Choice, Choice.first, Choice.second, Advanced, Started, Passed, Located}
use Rattle.locator.proofs.Loops.{constant_value}

pub half_weaken : {m n k : ℕ} {l : List ℕ} → n ≤ k → Half m n l → Half m k l
half_weaken h H = record { long = H.long; inside = H.inside; ends = λ j g. H.ends j (le_trans h g) }

-- ---- `turn`: past the coefficients of the other pair nothing of the pivot is added

module _ {m a b p q : ℕ} (W : Width m) (choice : Pivot (gf m) a b p q) {l : List ℕ} where
  spare : {n k : ℕ} → Half m n l → (p ≤ q → n ≤ k) → (gf m).mul b (entry_of l k) ≡ 0
  spare {n} {k} H fits = decided choice
    where
      decided : Pivot (gf m) a b p q → (gf m).mul b (entry_of l k) ≡ 0
      decided (smaller h ne) = ap ((gf m).mul b) (H.ends k (fits h)) ∙ mul-nought (gf m) (gf_laws m W) b
      decided (remaining z) = ap (λ (x : ℕ). (gf m).mul x (entry_of l k)) z ∙ nought-mul (gf m) (gf_laws m W) (entry_of l k)

  pub spare_even : Half m (p / 2 + 1) l → (k : ℕ) → q / 2 + 1 ≤ k → (gf m).mul b (entry_of l k) ≡ 0
  spare_even H k h = spare H (λ g. omega arith)

  pub spare_odd : Half m ((p + 1) / 2) l → (k : ℕ) → (q + 1) / 2 ≤ k → (gf m).mul b (entry_of l k) ≡ 0
  spare_odd H k h = spare H (λ g. omega arith)

-- ---- `leads`

module _ (a b p q m : ℕ) where
  pub leads_smaller : p ≤ q → Choice m a b p q (not (eqb a 0))
  leads_smaller h = decided (ℕ_discrete a 0)
    where
      decided : Dec (a ≡ 0) → Choice m a b p q (not (eqb a 0))
      decided (yes e) = subst (Choice m a b p q) (sym (ap not (eq-eqb a 0 e))) (second (remaining e))
      decided (no ne) = subst (Choice m a b p q) (sym (ap not (ne_eqb a 0 ne))) (first (smaller h ne))

  pub leads_larger : q ≤ p → Choice m a b p q (eqb b 0)
  leads_larger h = decided (ℕ_discrete b 0)
    where
      decided : Dec (b ≡ 0) → Choice m a b p q (eqb b 0)
      decided (yes e) = subst (Choice m a b p q) (sym (eq-eqb b 0 e)) (first (remaining e))
      decided (no ne) = subst (Choice m a b p q) (sym (ne_eqb b 0 ne)) (second (smaller h ne))

-- ---- `advance`

pub chosen_first : {m a b p q : ℕ} {r : Bool} → Choice m a b p q r → r ≡ true → Pivot (gf m) a b p q
chosen_first (first h) e = h
chosen_first (second h) e = absurd (false≢true e)

pub chosen_second : {m a b p q : ℕ} {r : Bool} → Choice m a b p q r → r ≡ false → Pivot (gf m) b a q p
chosen_second (first h) e = absurd (false≢true (sym e))
chosen_second (second h) e = h

abbrev halves : ℕ → Polynomial → Halves ℕ
halves m = halves_of (gf m)

-- the discrepancy that Q computes over its own field, whose width n is that of P's
moved : {m n b : ℕ} (z s : ℕ) (Q : Polynomial) → n ≡ m → b ≡ discrepancy (gf n) z s (halves n Q) → b ≡ discrepancy (gf m) z s (halves m Q)
moved {b = b} z s Q same e = subst (λ (k : ℕ). b ≡ discrepancy (gf k) z s (halves k Q)) same e

module _ {m n z s r a b : ℕ} {P Q P' Q' : Polynomial} (same : n ≡ m) (er : r ≡ (gf m).mul z z) (ea : a ≡ discrepancy (gf m) z s (halves m P))
    (eb_n : b ≡ discrepancy (gf n) z s (halves n Q)) where
  pub advanced_first : Pivot (gf m) a b P.degree Q.degree → Turned m r a b P Q P' Q' → Advanced m z s P Q P' Q'
  advanced_first choice T =
      let eb : b ≡ discrepancy (gf m) z s (halves m Q) = moved z s Q same eb_n in
      record {
        first = T.pivot.width;
        second = T.other.width;
        step =
            subst₂ (λ (d e : ℕ). Step (gf m) z s (halves m P) P.degree (halves m Q) Q.degree (halves m P') d (halves m Q') e)
            (sym T.pivot.degree) (sym T.other.degree)
            (first_pivot (subst₂ (λ (x y : ℕ). Pivot (gf m) x y P.degree Q.degree) ea eb choice)
            (subst (λ (x : ℕ). Raised (gf m) x (halves m P) (halves m P')) er T.raised)
            (subst₂ (λ (x y : ℕ). Reduced (gf m) x y (halves m P) (halves m Q) (halves m Q')) ea eb T.reduced));
      }

  pub advanced_second : Pivot (gf m) b a Q.degree P.degree → Turned n r b a Q P Q' P' → Advanced m z s P Q P' Q'
  advanced_second choice turned =
      let T : Turned m r b a Q P Q' P' = subst (λ (k : ℕ). Turned k r b a Q P Q' P') same turned in
      let eb : b ≡ discrepancy (gf m) z s (halves m Q) = moved z s Q same eb_n in
      record {
        first = T.other.width;
        second = T.pivot.width;
        step =
            subst₂ (λ (d e : ℕ). Step (gf m) z s (halves m P) P.degree (halves m Q) Q.degree (halves m P') d (halves m Q') e)
            (sym T.other.degree) (sym T.pivot.degree)
            (second_pivot (subst₂ (λ (x y : ℕ). Pivot (gf m) x y Q.degree P.degree) eb ea choice)
            (subst (λ (x : ℕ). Raised (gf m) x (halves m Q) (halves m Q')) er T.raised)
            (subst₂ (λ (x y : ℕ). Reduced (gf m) x y (halves m Q) (halves m P) (halves m P')) eb ea T.reduced));
      }

-- ---- `pass`

constant_half : {m c : ℕ} {l : List ℕ} → c < 2 ^ m → Constant c l → Half m 1 l
constant_half {m} {c} {l} h C = record { long = C.long; inside = inside; ends = C.ends }
  where
    inside : (k : ℕ) → entry_of l k < 2 ^ m
    inside zero = subst (λ (x : ℕ). x < 2 ^ m) (sym C.lowest) h
    inside (suc k) = subst (λ (x : ℕ). x < 2 ^ m) (sym (C.ends (suc k) (omega arith))) (pow_pos m)

nought_half : {m n : ℕ} {l : List ℕ} → Constant 0 l → Half m n l
nought_half {m} {n} {l} C = record { long = C.long; inside = (constant_half (pow_pos m) C).inside; ends = λ k h. all k }
  where
    all : (k : ℕ) → entry_of l k ≡ 0
    all zero = C.lowest
    all (suc k) = C.ends (suc k) (omega arith)

-- the halves of 1, of degree 0, and of x, of degree 1
pub one_pair : {m : ℕ} → Width m → {even odd : List ℕ} → Constant 1 even → Constant 0 odd → Pair m 0 even odd
one_pair {m} W even odd = record { even_half = constant_half (gf_laws m W).in_one even; odd_half = nought_half odd }

pub x_pair : {m : ℕ} → Width m → {even odd : List ℕ} → Constant 0 even → Constant 1 odd → Pair m 1 even odd
x_pair {m} W even odd = record { even_half = nought_half even; odd_half = constant_half (gf_laws m W).in_one odd }

pub passed_none : {m : ℕ} (W : Width m) (roots syndrome : List ℕ) {P Q : Polynomial} → Started m P Q → Passed m roots syndrome 0 P Q
passed_none {m} W roots syndrome {P} {Q} S =
    record {
      first = S.first.width;
      second = S.second.width;
      invariant =
          subst₂ (λ (p q : ℕ). Invariant (gf m) (entry_of roots) (entry_of syndrome) 0 (halves m P) p (halves m Q) q)
          (sym S.first.degree) (sym S.second.degree)
          (pass_start (gf m) (gf_laws m W)
          (record {
            first_even = constant_value m W S.first_even;
            first_odd = constant_value m W S.first_odd;
            second_even = constant_value m W S.second_even;
            second_odd = constant_value m W S.second_odd;
          }));
    }

pub passed_more : {m : ℕ} (W : Width m) {roots syndrome : List ℕ} → Points (gf m) (length roots) (entry_of roots) → {i z s : ℕ}
    {P Q P' Q' : Polynomial} → Passed m roots syndrome i P Q → i < length roots → z ≡ entry_of roots i → s ≡ entry_of syndrome i
    → Advanced P.m z s P Q P' Q' → Passed m roots syndrome (i + 1) P' Q'
passed_more {m} W {roots} {syndrome} R {i} {z} {s} {P} {Q} {P'} {Q'} G l root value advanced =
    let A : Advanced m z s P Q P' Q' = subst (λ (k : ℕ). Advanced k z s P Q P' Q') G.first advanced in
    let B : Advanced m (entry_of roots i) (entry_of syndrome i) P Q P' Q' = subst₂ (λ (x y : ℕ). Advanced m x y P Q P' Q') root value A in
    record { first = B.first; second = B.second; invariant = pass_step (gf m) (gf_laws m W) R l G.invariant B.step }

-- ---- `locate`

pub located_second : {m : ℕ} → Width m → (roots : List ℕ) {syndrome : List ℕ} {i : ℕ} {P Q : Polynomial} → i ≡ length roots
    → Passed m roots syndrome i P Q → Q.degree < P.degree → Located m roots syndrome Q
located_second {m} W roots {syndrome} {P = P} {Q} ended G h =
    record {
      width = G.second;
      rest = halves m P;
      rest_degree = P.degree;
      least = omega arith;
      invariant =
          subst (λ (k : ℕ). Invariant (gf m) (entry_of roots) (entry_of syndrome) k (halves m Q) Q.degree (halves m P) P.degree) ended
          (pass_swap (gf m) (gf_laws m W) G.invariant);
    }
