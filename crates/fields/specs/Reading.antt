-- Printing and reading are inverse to each other: of numbers and of lines.
use Rattle.std.specs.Prelude.{◌≡◌, refl, true, ◌&&◌, ℕ, zero, suc, ◌+◌, ◌-◌, ◌*◌, ◌/◌, ◌%◌, ◌^◌, ◌≤◌, ◌<◌}
use Rattle.std.proofs.Common.{sym, ◌∙◌, zero-add, add_assoc, pow-suc, lt_of_le_of_lt, add-one, lit<}
use Rattle.std.proofs.Math.Path.{ap, ap₂, subst}
use mathlib.Core.List.{List, [], ◌∷◌, ◌++◌}
use Rattle.std.proofs.Math.Decide.{dec_lt}
use native.Mathlib.Omega.{arith}
use Rattle.std.proofs.Math.Dec.{leb, eqb}
use Rattle.std.proofs.Math.ListN.{length, length-append, get_or-append}
use Rattle.std.proofs.Math.Seq.{get_or_at, ext_get_or}
use borrow.Author.Tests.{leb-true, le-leb, eqb-true, eq-eqb}
use Rattle.algebra.specs.All.{all}
use Rattle.algebra.specs.AllLaws.{all_is, all_true}
use Rattle.algebra.specs.Flags.{both_true, both_hold}
use Rattle.algebra.specs.Tabulate.{tabulate}
use Rattle.algebra.specs.TabulateLaws.{length-tabulate, get_d_tabulate}
use Rattle.algebra.specs.Lists.{entry_of}
use Rattle.algebra.specs.Parts.{joined}
use Rattle.algebra.specs.PartLaws.{length-joined, joined_at}
use Rattle.fields.specs.Fields.{field_width, greatest, digit_byte, lead_byte, lead_text, number_text, value_of, number_at, holds_at, is_number}
use Rattle.fields.specs.Fields.{line_end, field_text, line_text, line_length, numbers_at, is_line, Small}

-- ---- numbers

pub length_lead : (c r : ℕ) → length (lead_text c r) ≡ c
unfolding lead_text
length_lead zero r = refl
length_lead (suc c) r = length-append (lead_text c (r / 10)) (lead_byte r ∷ []) ∙ ap (λ (k : ℕ). k + 1) (length_lead c (r / 10)) ∙ add-one c

pub length_number : (v : ℕ) → length (number_text v) ≡ field_width
unfolding number_text
length_number v =
    length-append (lead_text (field_width - 1) (v / 10)) (digit_byte (v % 10) ∷ []) ∙ ap (λ (k : ℕ). k + 1) (length_lead (field_width - 1) (v / 10))

digit_lead : (r : ℕ) → lead_byte r % 16 ≡ r % 10
unfolding lead_byte
digit_lead zero = refl
digit_lead (suc r) = omega arith

-- one byte more, where those before it are read as they should be
module _ (c r b : ℕ) (byte : ℕ → ℕ) (front : ((i : ℕ) → i < c → byte i ≡ entry_of (lead_text c (r / 10)) i) → value_of byte c ≡ r / 10) where
  byte_value : b % 16 ≡ r % 10 → ((i : ℕ) → i < suc c → byte i ≡ entry_of (lead_text c (r / 10) ++ b ∷ []) i) → value_of byte (suc c) ≡ r
  unfolding value_of
  byte_value d h = ap₂ (λ (x y : ℕ). x * 10 + y % 16) (front before) last ∙ omega arith
    where
      before : (i : ℕ) → i < c → byte i ≡ entry_of (lead_text c (r / 10)) i
      before i l = h i (omega arith) ∙ get_or-append (lead_text c (r / 10)) (b ∷ []) 0 i (subst (λ (k : ℕ). i < k) (sym (length_lead c (r / 10))) l)

      last : byte c ≡ b
      last = h c (omega arith) ∙ get_or_at (lead_text c (r / 10)) b [] 0 c (length_lead c (r / 10))

lead_value : (c r : ℕ) (byte : ℕ → ℕ) → r < 10 ^ c → ((i : ℕ) → i < c → byte i ≡ entry_of (lead_text c r) i) → value_of byte c ≡ r
unfolding lead_text value_of
lead_value zero r byte l h = omega arith
lead_value (suc c) r byte l h =
    byte_value c r (lead_byte r) byte (lead_value c (r / 10) byte (omega (arith, pow-suc 10 c))) (digit_lead r) h

number_value : (c v : ℕ) (byte : ℕ → ℕ) → v < 10 ^ suc c
    → ((i : ℕ) → i < suc c → byte i ≡ entry_of (lead_text c (v / 10) ++ digit_byte (v % 10) ∷ []) i) → value_of byte (suc c) ≡ v
number_value c v byte l h =
    byte_value c v (digit_byte (v % 10)) byte (lead_value c (v / 10) byte (omega (arith, pow-suc 10 c))) (omega arith) h

-- what is printed somewhere in a text is read there
module _ (text : List ℕ) (p v : ℕ) (small : v ≤ greatest) (printed : (i : ℕ) → i < field_width → entry_of text (p + i) ≡ entry_of (number_text v) i) where
  pub printed_read : number_at text p ≡ v
  unfolding number_at number_text
  printed_read = number_value (field_width - 1) v (λ i. entry_of text (p + i)) (lt_of_le_of_lt small (lit< tt)) printed

  pub printed_is_number : is_number text p ≡ true
  unfolding is_number holds_at
  printed_is_number =
      ap (λ (x : ℕ). leb x greatest && holds_at text p (number_text x)) printed_read
      ∙ both_hold (le-leb v greatest small)
      (all_true (length (number_text v)) (λ i. eqb (entry_of text (p + i)) (entry_of (number_text v) i))
      (λ i l. eq-eqb (entry_of text (p + i)) (entry_of (number_text v) i) (printed i (subst (λ (k : ℕ). i < k) (length_number v) l))))

-- what is read as a number is what the number is printed as
module _ (text : List ℕ) (p : ℕ) (number : is_number text p ≡ true) where
  parts : (leb (number_at text p) greatest ≡ true) × (holds_at text p (number_text (number_at text p)) ≡ true)
  unfolding is_number
  parts = both_true (leb (number_at text p) greatest) (holds_at text p (number_text (number_at text p))) number

  pub number_small : number_at text p ≤ greatest
  number_small = leb-true (number_at text p) greatest parts.0

  pub number_printed : (i : ℕ) → i < field_width → entry_of text (p + i) ≡ entry_of (number_text (number_at text p)) i
  unfolding holds_at
  number_printed i l =
      let field = number_text (number_at text p) in
      eqb-true (entry_of text (p + i)) (entry_of field i)
      (all_is (length field) (λ i. eqb (entry_of text (p + i)) (entry_of field i)) parts.1 i
      (subst (λ (k : ℕ). i < k) (sym (length_number (number_at text p))) l))

-- the law of numbers, for the field alone: what is printed is read, and what is read is what is printed
pub number_inverse : (v : ℕ) → v ≤ greatest → (is_number (number_text v) 0 ≡ true) × (number_at (number_text v) 0 ≡ v)
number_inverse v small = (printed_is_number (number_text v) 0 v small here, printed_read (number_text v) 0 v small here)
  where
    here : (i : ℕ) → i < field_width → entry_of (number_text v) (0 + i) ≡ entry_of (number_text v) i
    here i l = ap (entry_of (number_text v)) (zero-add i)

pub number_only : (text : List ℕ) → length text ≡ field_width → is_number text 0 ≡ true → text ≡ number_text (number_at text 0)
number_only text long number =
    ext_get_or 0 text (number_text (number_at text 0)) (long ∙ sym (length_number (number_at text 0)))
    (λ i l. ap (entry_of text) (sym (zero-add i)) ∙ number_printed text 0 number i (subst (λ (k : ℕ). i < k) long l))

-- ---- lines

module _ (numbers : List ℕ) where
  pub length_fields : (k : ℕ) → length (joined k (field_text numbers)) ≡ k * field_width
  length_fields k = length-joined field_width (field_text numbers) k (λ i l. length_number (entry_of numbers i))

  abbrev fields : List ℕ
  fields = joined (length numbers) (field_text numbers)

  pub length_line : length (line_text numbers) ≡ line_length (length numbers)
  unfolding line_text
  length_line = length-append fields (line_end ∷ []) ∙ ap (λ (k : ℕ). k + 1) (length_fields (length numbers))

  line_number : (i c : ℕ) → i < length numbers → c < field_width → entry_of (line_text numbers) (i * field_width + c) ≡ entry_of (field_text numbers i) c
  unfolding line_text
  line_number i c l lc =
      get_or-append fields (line_end ∷ []) 0 (i * field_width + c)
      (subst (λ (x : ℕ). i * field_width + c < x) (sym (length_fields (length numbers))) (omega arith))
      ∙ joined_at field_width (field_text numbers) (length numbers) (λ i l. length_number (entry_of numbers i)) i c l lc

  line_ended : entry_of (line_text numbers) (length numbers * field_width) ≡ line_end
  unfolding line_text
  line_ended = get_or_at fields line_end [] 0 (length numbers * field_width) (length_fields (length numbers))

-- what is printed somewhere in a text is read there
module _ (text : List ℕ) (p : ℕ) (numbers : List ℕ) (small : Small numbers)
    (printed : (x : ℕ) → x < line_length (length numbers) → entry_of text (p + x) ≡ entry_of (line_text numbers) x) where
  field_printed : (i : ℕ) → i < length numbers → (c : ℕ) → c < field_width
      → entry_of text (p + i * field_width + c) ≡ entry_of (field_text numbers i) c
  field_printed i l c lc =
      ap (entry_of text) (add_assoc p (i * field_width) c) ∙ printed (i * field_width + c) (omega arith) ∙ line_number numbers i c l lc

  pub printed_numbers : (i : ℕ) → i < length numbers → number_at text (p + i * field_width) ≡ entry_of numbers i
  printed_numbers i l = printed_read text (p + i * field_width) (entry_of numbers i) (small i l) (field_printed i l)

  pub printed_is_line : is_line text p (length numbers) ≡ true
  unfolding is_line
  printed_is_line =
      both_hold
      (all_true (length numbers) (λ i. is_number text (p + i * field_width))
      (λ i l. printed_is_number text (p + i * field_width) (entry_of numbers i) (small i l) (field_printed i l)))
      (eq-eqb (entry_of text (p + length numbers * field_width)) line_end (printed (length numbers * field_width) (omega arith) ∙ line_ended numbers))

  pub printed_line : numbers_at text p (length numbers) ≡ numbers
  unfolding numbers_at
  printed_line =
      ext_get_or 0 (tabulate (length numbers) (λ i. number_at text (p + i * field_width))) numbers long
      (λ i l.
      let inside : i < length numbers = subst (λ (k : ℕ). i < k) long l in
      get_d_tabulate (length numbers) (λ i. number_at text (p + i * field_width)) i 0 inside ∙ printed_numbers i inside)
    where
      long : length (tabulate (length numbers) (λ i. number_at text (p + i * field_width))) ≡ length numbers
      long = length-tabulate (length numbers) (λ i. number_at text (p + i * field_width))

-- what is read as a line is what its numbers are printed as
module _ (text : List ℕ) (p k : ℕ) (line : is_line text p k ≡ true) where
  line_parts : (all k (λ i. is_number text (p + i * field_width)) ≡ true) × (eqb (entry_of text (p + k * field_width)) line_end ≡ true)
  unfolding is_line
  line_parts = both_true (all k (λ i. is_number text (p + i * field_width))) (eqb (entry_of text (p + k * field_width)) line_end) line

  pub length_numbers : length (numbers_at text p k) ≡ k
  unfolding numbers_at
  length_numbers = length-tabulate k (λ i. number_at text (p + i * field_width))

  pub numbers_at_lem : (i : ℕ) → i < k → entry_of (numbers_at text p k) i ≡ number_at text (p + i * field_width)
  unfolding numbers_at
  numbers_at_lem i l = get_d_tabulate k (λ i. number_at text (p + i * field_width)) i 0 l

  pub line_numbers : (i : ℕ) → i < k → is_number text (p + i * field_width) ≡ true
  line_numbers i l = all_is k (λ i. is_number text (p + i * field_width)) line_parts.0 i l

  pub line_small : (i : ℕ) → i < k → number_at text (p + i * field_width) ≤ greatest
  line_small i l = number_small text (p + i * field_width) (line_numbers i l)

  pub line_printed : (x : ℕ) → x < line_length k → entry_of text (p + x) ≡ entry_of (line_text (numbers_at text p k)) x
  line_printed x l = decided (dec_lt x (k * field_width))
    where
      decided : Dec (x < k * field_width) → entry_of text (p + x) ≡ entry_of (line_text (numbers_at text p k)) x
      decided (yes lx) =
          let i = x / field_width in
          let c = x % field_width in
          let split : i * field_width + c ≡ x = omega arith in
          let li : i < k = omega arith in
          let lc : c < field_width = omega arith in
          ap (λ (y : ℕ). entry_of text (p + y)) (sym split) ∙ ap (entry_of text) (sym (add_assoc p (i * field_width) c))
          ∙ number_printed text (p + i * field_width) (line_numbers i li) c lc
          ∙ ap (λ (v : ℕ). entry_of (number_text v) c) (sym (numbers_at_lem i li))
          ∙ sym (line_number (numbers_at text p k) i c (subst (λ (j : ℕ). i < j) (sym length_numbers) li) lc)
          ∙ ap (entry_of (line_text (numbers_at text p k))) split
      decided (no nl) =
          let last : k * field_width ≡ x = omega arith in
          ap (λ (y : ℕ). entry_of text (p + y)) (sym last) ∙ eqb-true (entry_of text (p + k * field_width)) line_end line_parts.1
          ∙ sym (line_ended (numbers_at text p k)) ∙ ap (λ (j : ℕ). entry_of (line_text (numbers_at text p k)) (j * field_width)) length_numbers
          ∙ ap (entry_of (line_text (numbers_at text p k))) last
