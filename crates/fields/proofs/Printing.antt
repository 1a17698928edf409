-- What the loops that print have stored when they come to a turn.
use mathlib.Core.Path.{◌≡◌, sym, ap, ap₂, ◌∙◌, subst}
use mathlib.Core.List.{List, [], ◌∷◌, ◌++◌, append_assoc, append-nil}
use Prim.Native.Nat.{ℕ, suc, ◌+◌, ◌-◌, ◌*◌, ◌/◌, ◌%◌, ◌≤◌, ◌<◌}
use native.Mathlib.Nat.{add-suc, add-zero}
use native.Mathlib.Numerals.{add-one}
use native.Mathlib.Omega.{arith}
use lib.ListN.{length, set}
use Rattle.algebra.specs.Parts.{joined}
use Rattle.fields.specs.Fields.{field_width, line_end, digit_byte, lead_byte, lead_text, number_text, field_text, line_text}
use Rattle.fields.specs.Reading.{length_lead, length_fields}
use Rattle.fields.specs.Written.{written, written_none, written_one, written_more, written_front}

-- ---- bytes from the last on: of those of `text`, i are left, which are to hold `rest`

pub record Printing (text : List ℕ) (at : ℕ) (old now : List ℕ) (i rest : ℕ) : Type 0 where
  pub stored : List ℕ
  pub whole : lead_text i rest ++ stored ≡ text
  pub so_far : now ≡ written old (at + i) stored

pub printing_start : (c r at : ℕ) (old : List ℕ) → Printing (lead_text c r) at old old c r
printing_start c r at old = record { stored = []; whole = append-nil (lead_text c r); so_far = written_none old (at + c) }

module _ {text : List ℕ} {at : ℕ} {old now : List ℕ} {i rest : ℕ} (P : Printing text at old now i rest) where
  pub printing_turn : {j b : ℕ} → i ≡ suc j → b ≡ lead_byte rest → Printing text at old (set now (at + j) b) j (rest / 10)
  unfolding lead_text
  printing_turn {j} {b} q e =
      let next : at + i ≡ suc (at + j) = ap (λ (k : ℕ). at + k) q ∙ add-suc at j in
      record {
        stored = b ∷ P.stored;
        whole = ap (λ (x : ℕ). lead_text j (rest / 10) ++ x ∷ P.stored) e
            ∙ sym (append_assoc (lead_text j (rest / 10)) (lead_byte rest ∷ []) P.stored)
            ∙ ap (λ (k : ℕ). lead_text k rest ++ P.stored) (sym q) ∙ P.whole;
        so_far = ap (λ (l : List ℕ). set l (at + j) b) (P.so_far ∙ ap (λ (k : ℕ). written old k P.stored) next)
            ∙ written_front P.stored old (at + j) b;
      }

  pub printing_end : i ≡ 0 → now ≡ written old at text
  unfolding lead_text
  printing_end z =
      P.so_far ∙ ap₂ (written old) (ap (λ (k : ℕ). at + k) z ∙ add-zero at) (ap (λ (k : ℕ). lead_text k rest ++ P.stored) (sym z) ∙ P.whole)

-- a field is its leading bytes and its last digit
pub number_written : (v at : ℕ) (old now : List ℕ) → now ≡ written old at (lead_text (field_width - 1) (v / 10))
    → set now (at + (field_width - 1)) (digit_byte (v % 10)) ≡ written old at (number_text v)
unfolding number_text
number_written v at old now e =
    ap₂ (λ (l : List ℕ) (k : ℕ). set l k (digit_byte (v % 10))) e (ap (λ (k : ℕ). at + k) (sym (length_lead (field_width - 1) (v / 10))))
    ∙ written_one (written old at (lead_text (field_width - 1) (v / 10))) (at + length (lead_text (field_width - 1) (v / 10))) (digit_byte (v % 10))
    ∙ written_more (lead_text (field_width - 1) (v / 10)) (digit_byte (v % 10) ∷ []) old at

-- ---- texts one after the other: i of k are stored

pub record Joining (f : ℕ → List ℕ) (k at : ℕ) (old now : List ℕ) (i : ℕ) : Type 0 where
  pub bound : i ≤ k
  pub so_far : now ≡ written old at (joined i f)

pub joining_start : (f : ℕ → List ℕ) (k at : ℕ) (old : List ℕ) → Joining f k at old old 0
unfolding joined
joining_start f k at old = record { bound = omega arith; so_far = written_none old at }

module _ {f : ℕ → List ℕ} {k at : ℕ} {old now : List ℕ} {i : ℕ} (J : Joining f k at old now i) where
  pub joining_turn : {p : ℕ} {new : List ℕ} → i < k → p ≡ at + length (joined i f) → new ≡ written now p (f i) → Joining f k at old new (i + 1)
  unfolding joined
  joining_turn l q e =
      subst (Joining f k at old _) (sym (add-one i))
      (record { bound = l; so_far = e ∙ ap₂ (λ (x : List ℕ) (p : ℕ). written x p (f i)) J.so_far q ∙ written_more (joined i f) (f i) old at })

  pub joining_end : k ≤ i → now ≡ written old at (joined k f)
  joining_end l = J.so_far ∙ ap (λ (j : ℕ). written old at (joined j f)) (omega (arith, J.bound))

-- a line is its numbers and its end
pub line_written : (numbers : List ℕ) (at : ℕ) (old now : List ℕ) → now ≡ written old at (joined (length numbers) (field_text numbers))
    → set now (at + length numbers * field_width) line_end ≡ written old at (line_text numbers)
unfolding line_text
line_written numbers at old now e =
    let fields = joined (length numbers) (field_text numbers) in
    ap₂ (λ (l : List ℕ) (k : ℕ). set l k line_end) e (ap (λ (k : ℕ). at + k) (sym (length_fields numbers (length numbers))))
    ∙ written_one (written old at fields) (at + length fields) line_end ∙ written_more fields (line_end ∷ []) old at
