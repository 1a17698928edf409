-- Printing and reading of sheets are inverse to each other.
use Rattle.std.specs.Prelude.{◌≡◌, Bool, true, ◌&&◌, ℕ, ◌+◌, ◌-◌, ◌*◌, ◌≤◌, ◌<◌, leb, eqb}
use Rattle.std.proofs.Math.Path.{refl, sym, ap}
use Rattle.std.proofs.Common.{ap₂, ◌∙◌, subst, zero-add, arith, lit<, length-append, get_or-append-add, ext_get_or, leb-true, le-leb, eqb-true, eq-eqb}
use mathlib.Core.List.{List, ◌++◌}
use Rattle.std.proofs.Math.Decide.{dec_lt}
use Rattle.std.proofs.Math.ListN.{length, get_or-append}
use Rattle.algebra.specs.Flags.{both_true, both_hold}
use Rattle.algebra.specs.Tabulate.{tabulate}
use Rattle.algebra.specs.Lists.{entry_of}
use Rattle.slices.specs.Lengths.{longest}
use Rattle.params.specs.declared.Parameters.{Parameters}
use Rattle.fields.specs.Fields.{field_width, greatest, number_at, line_text, line_length, numbers_at, is_line, Small}
use Rattle.fields.specs.Reading.{length_line, printed_numbers, printed_is_line, printed_line, length_numbers, line_small, line_printed}
use Rattle.sheets.specs.Sheet.{numbers_of, sheet_text, second, sheet_parameters, sheet_n, sheet_h, is_sheet, longest_sheet}

-- a text that is a sheet is the sheet of the numbers that are read from it
module _ (text : List ℕ) (sheet : is_sheet text ≡ true) where
  abbrev as_long : Bool
  as_long = eqb (length text) (second + line_length (sheet_n text))

  abbrev lines : Bool
  lines = is_line text 0 4 && is_line text second (sheet_n text)

  sheet_parts : (leb (sheet_n text) longest ≡ true) × ((as_long && lines) ≡ true)
  unfolding is_sheet
  sheet_parts = both_true (leb (sheet_n text) longest) (as_long && lines) sheet

  pub n_within : sheet_n text ≤ longest
  n_within = leb-true (sheet_n text) longest sheet_parts.0

  pub sheet_long : length text ≡ second + line_length (sheet_n text)
  sheet_long = eqb-true (length text) (second + line_length (sheet_n text)) (both_true as_long lines sheet_parts.1).0

  pub sheet_first : is_line text 0 4 ≡ true
  sheet_first = (both_true (is_line text 0 4) (is_line text second (sheet_n text)) (both_true as_long lines sheet_parts.1).1).0

  pub sheet_second : is_line text second (sheet_n text) ≡ true
  sheet_second = (both_true (is_line text 0 4) (is_line text second (sheet_n text)) (both_true as_long lines sheet_parts.1).1).1

  -- the numbers of line one are in range
  pub head_small : (i : ℕ) → i < 4 → number_at text (i * field_width) ≤ greatest
  head_small i l = subst (λ (p : ℕ). number_at text p ≤ greatest) (zero-add (i * field_width)) (line_small text 0 4 sheet_first i l)

  head_is : numbers_at text 0 4 ≡ numbers_of (sheet_parameters text)
  unfolding numbers_at tabulate
  head_is = refl

  abbrev line_one : List ℕ
  line_one = line_text (numbers_at text 0 4)

  abbrev line_two : List ℕ
  line_two = line_text (sheet_h text)

  pub sheet_only : text ≡ sheet_text (sheet_parameters text) (sheet_h text)
  unfolding sheet_text
  sheet_only = whole ∙ ap (λ (l : List ℕ). line_text l ++ line_two) head_is
    where
      length_one : length line_one ≡ second
      length_one = length_line (numbers_at text 0 4) ∙ ap line_length (length_numbers text 0 4 sheet_first)

      length_two : length line_two ≡ line_length (sheet_n text)
      length_two = length_line (sheet_h text) ∙ ap line_length (length_numbers text second (sheet_n text) sheet_second)

      at : (x : ℕ) → x < second + line_length (sheet_n text) → Dec (x < second)
          → entry_of text x ≡ entry_of (line_one ++ line_two) x
      at x l (yes lx) =
          ap (entry_of text) (sym (zero-add x)) ∙ line_printed text 0 4 sheet_first x lx
          ∙ sym (get_or-append line_one line_two 0 x (subst (λ (k : ℕ). x < k) (sym length_one) lx))
      at x l (no nl) =
          let y = x - second in
          let split : second + y ≡ x = omega arith in
          ap (entry_of text) (sym split) ∙ line_printed text second (sheet_n text) sheet_second y (omega arith)
          ∙ sym (get_or-append-add line_one line_two y 0)
          ∙ ap (entry_of (line_one ++ line_two)) (ap (λ (k : ℕ). k + y) length_one ∙ split)

      whole : text ≡ line_one ++ line_two
      whole =
          ext_get_or 0 text (line_one ++ line_two)
          (sheet_long ∙ sym (length-append line_one line_two ∙ ap₂ (λ (x y : ℕ). x + y) length_one length_two))
          (λ x l. at x (subst (λ (k : ℕ). x < k) sheet_long l) (dec_lt x second))

  -- so a longer text is no sheet, whatever it holds
  pub sheet_short : length text ≤ longest_sheet
  sheet_short = omega (arith, sheet_long, n_within)

-- a code's numbers are given by each of them
pub parameters_are : {c d : Parameters} → c.m ≡ d.m → c.n ≡ d.n → c.t ≡ d.t → c.omega ≡ d.omega → c ≡ d
parameters_are {c} {d} em en et eω = ap₂ (λ (x y : ℕ). made x y c.t c.omega) em en ∙ ap₂ (made d.m d.n) et eω
  where
    made : ℕ → ℕ → ℕ → ℕ → Parameters
    made m n t ω = record { m = m; n = n; t = t; omega = ω }

-- a code as it is read from a text
pub record Reads (c : Parameters) (h text : List ℕ) : Type 0 where
  pub sheet : is_sheet text ≡ true
  pub numbers : sheet_parameters text ≡ c
  pub signature : sheet_h text ≡ h

-- a code's sheet is a sheet, and the code's numbers are read from it
module _ (c : Parameters) (h : List ℕ) (lc : Small (numbers_of c)) (lh : Small h) (short : c.n ≤ longest) (long : length h ≡ c.n) where
  abbrev head : List ℕ
  head = numbers_of c

  abbrev whole : List ℕ
  whole = line_text head ++ line_text h

  first : (x : ℕ) → x < line_length 4 → entry_of whole (0 + x) ≡ entry_of (line_text head) x
  first x l =
      ap (entry_of whole) (zero-add x) ∙ get_or-append (line_text head) (line_text h) 0 x (subst (λ (k : ℕ). x < k) (sym (length_line head)) l)

  rest : (x : ℕ) → x < line_length (length h) → entry_of whole (second + x) ≡ entry_of (line_text h) x
  rest x l = ap (λ (k : ℕ). entry_of whole (k + x)) (sym (length_line head)) ∙ get_or-append-add (line_text head) (line_text h) x 0

  number_read : (i : ℕ) → i < 4 → number_at whole (0 + i * field_width) ≡ entry_of head i
  number_read = printed_numbers whole 0 head lc first

  m_read : (sheet_parameters whole).m ≡ c.m
  m_read = number_read 0 (lit< tt)

  n_read : sheet_n whole ≡ c.n
  n_read = number_read 1 (lit< tt)

  t_read : (sheet_parameters whole).t ≡ c.t
  t_read = number_read 2 (lit< tt)

  ω_read : (sheet_parameters whole).omega ≡ c.omega
  ω_read = number_read 3 (lit< tt)

  length_whole : length whole ≡ second + line_length (sheet_n whole)
  length_whole =
      length-append (line_text head) (line_text h) ∙ ap₂ (λ (x y : ℕ). x + y) (length_line head) (length_line h ∙ ap line_length (long ∙ sym n_read))

  pub sheet_read : Reads c h (sheet_text c h)
  unfolding sheet_text is_sheet
  sheet_read =
      record {
        sheet = both_hold (le-leb (sheet_n whole) longest (subst (λ (k : ℕ). k ≤ longest) (sym n_read) short))
            (both_hold (eq-eqb (length whole) (second + line_length (sheet_n whole)) length_whole)
            (both_hold (printed_is_line whole 0 head lc first)
            (ap (is_line whole second) (n_read ∙ sym long) ∙ printed_is_line whole second h lh rest)));
        numbers = parameters_are m_read n_read t_read ω_read;
        signature = ap (numbers_at whole second) (n_read ∙ sym long) ∙ printed_line whole second h lh rest;
      }
