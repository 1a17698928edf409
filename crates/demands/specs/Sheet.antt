-- The bench sheet: 13 is for a text that is no printed sheet, a sheet's code is listed where there is room, whatever is printed has room in the
-- stated length, and every number of a listing fits its columns.
use Rattle.std.specs.Prelude.{◌≡◌, ◌↔◌, Bool, ℕ, zero, suc, ◌-◌, ◌*◌, ◌^◌, ◌<◌, ◌≤◌, take, drop}
use Rattle.std.proofs.Math.Path.{refl, sym, ap, ap₂, subst}
use Rattle.std.proofs.Common.{◌∙◌, zero-add, lit<, pow_mono}
use Rattle.std.proofs.Math.Bool.{true, false, cond}
use mathlib.Core.List.{List, [], ◌∷◌, ◌++◌}
use native.Mathlib.Omega.{arith}
use Rattle.std.proofs.Math.ListN.{length}
use Rattle.std.proofs.Math.Seq.{take_at}
use borrow.Author.Tests.{le-leb}
use Rattle.algebra.specs.Flags.{refuted}
use Rattle.algebra.specs.Lists.{entry_of}
use Rattle.algebra.specs.TabulateLaws.{get_d_tabulate}
use Rattle.refusals.specs.Answered.{counted_apart, same_counted, refused_due}
use Rattle.refusals.specs.Counted.{Count, Refused}
use Rattle.refusals.specs.Rules.{fault}
use Rattle.refusals.specs.RuleLaws.{fault_here, fault_past, fault_empty, refuse, given}
use Rattle.field.specs.Gf.{gf}
use Rattle.field.specs.Words.{widest}
use Rattle.slices.specs.Lengths.{longest}
use Rattle.fields.specs.Fields.{field_width, greatest, line_end, Small}
use Rattle.fields.specs.Ends.{no_earlier_end}
use Rattle.fields.specs.Reading.{length_numbers, numbers_at_lem, line_small}
use Rattle.fields.specs.Over.{over}
use Rattle.signature.specs.Signature.{support_at}
use Rattle.signature.specs.Tests.{signature_rules}
use Rattle.params.specs.declared.Parameters.{Parameters}
use Rattle.params.proofs.Accepted.{accepted_pair, n_short}
use Rattle.params.proofs.Calls.{code_leaves}
use Rattle.params.specs.Code.{Accepted, shape_rules, code_rules}
use Rattle.parity.specs.Columns.{is_message_column, roles_of, message_length}
use Rattle.parity.specs.ColumnLaws.{message_length-le}
use Rattle.parity.specs.Selected.{length_whole}
use Rattle.parity.specs.Word.{whole}
use Rattle.sheets.specs.Fault.{sheet_rules}
use Rattle.sheets.specs.Reading.{n_within, sheet_first, sheet_second, head_small, sheet_only, sheet_read}
use Rattle.sheets.specs.Sheet.{numbers_of, sheet_text, second, sheet_parameters, sheet_n, sheet_h, is_sheet}
use Rattle.lines.specs.Lengths.{length_listing}
use Rattle.lines.specs.Listing.{support_of, listing_text, listing_length, longest_listing}
use Rattle.listing.specs.Answers.{room_rules, sheet_listing, listing_fault, listing_answer, listing_after, printed_text, printed_answer}
use Rattle.listing.specs.Laws.{printed_short, printed_done}
use Rattle.demands.specs.Lowest.{fault_up_to}

-- a text that is printed for a code, whose numbers fit and whose length is within the limit
pub record PrintedSheet (text : List ℕ) : Type 0 where
  pub numbers : Parameters
  pub signature : List ℕ
  pub numbers_fit : Small (numbers_of numbers)
  pub signature_fits : Small signature
  pub short : numbers.n ≤ longest
  pub long : length signature ≡ numbers.n
  pub printed : text ≡ sheet_text numbers signature

module _ (text : List ℕ) where
  sheet_printed : is_sheet text ≡ true → PrintedSheet text
  sheet_printed s =
      record {
        numbers = sheet_parameters text;
        signature = sheet_h text;
        numbers_fit = numbers_small;
        signature_fits = λ i l.
            let li = subst (λ (k : ℕ). i < k) (length_numbers text second (sheet_n text) (sheet_second text s)) l in
            subst (λ (x : ℕ). x ≤ greatest) (sym (numbers_at_lem text second (sheet_n text) (sheet_second text s) i li))
            (line_small text second (sheet_n text) (sheet_second text s) i li);
        short = n_within text s;
        long = length_numbers text second (sheet_n text) (sheet_second text s);
        printed = sheet_only text s;
      }
    where
      numbers_small : Small (numbers_of (sheet_parameters text))
      numbers_small zero l = head_small text s 0 (lit< tt)
      numbers_small (suc zero) l = head_small text s 1 (lit< tt)
      numbers_small (suc (suc zero)) l = head_small text s 2 (lit< tt)
      numbers_small (suc (suc (suc zero))) l = head_small text s 3 (lit< tt)
      numbers_small (suc (suc (suc (suc i)))) l = absurd (omega arith)

  printed_sheet : PrintedSheet text → is_sheet text ≡ true
  printed_sheet P =
      ap is_sheet P.printed ∙ (sheet_read P.numbers P.signature P.numbers_fit P.signature_fits P.short P.long).sheet

  refused_13 : is_sheet text ≡ false → (out : List ℕ) → listing_answer text out ≡ Refused 13
  unfolding listing_answer listing_fault sheet_rules
  refused_13 none out = sym (refuse {k = 13} Refused _ (sym (fault_here 13 _ none)) (λ z. omega arith))

  -- a text is refused by 13 exactly if it is no printed sheet
  pub no_sheet_exactly : (out : List ℕ) → (listing_answer text out ≡ Refused 13) ↔ (PrintedSheet text → ⊥)
  unfolding listing_answer listing_fault sheet_rules code_rules shape_rules signature_rules room_rules
  no_sheet_exactly out = (
    λ e P.
        let more = code_rules true (sheet_parameters text) (sheet_h text) ++ room_rules (sheet_listing text) out in
        let due = (refused_due Refused _ (counted_apart _) same_counted (listing_fault text out) e).1 in
        let low = fault_up_to 7 more refl in
        let past : listing_fault text out ≡ fault more = fault_past 13 more (printed_sheet P) refl in
        absurd (omega arith),
    λ none. refused_13 (refuted (is_sheet text) (λ s. none (sheet_printed s))) out,
  )

  -- so is a text that gives an n above the longest length, whatever else it holds
  pub long_refused : longest < sheet_n text → (out : List ℕ) → listing_answer text out ≡ Refused 13
  long_refused l = refused_13 (refuted (is_sheet text) (λ s. omega (arith, n_within text s)))

  -- and one whose line one ends before the columns of four numbers do, as that of a sheet in four columns
  pub early_end_refused : (i : ℕ) → i < 4 * field_width → entry_of text i ≡ line_end → (out : List ℕ) → listing_answer text out ≡ Refused 13
  early_end_refused i l e =
      refused_13 (refuted (is_sheet text) (λ s. no_earlier_end text 0 4 (sheet_first text s) i l (ap (entry_of text) (zero-add i) ∙ e)))

  -- every text is printed, in the stated length at most
  pub always_printed : (out : List ℕ) → longest_listing ≤ length out
      → (printed_answer text out ≡ Count (length (printed_text text))) × (length (printed_text text) ≤ longest_listing)
  always_printed out room = (printed_done text out room, printed_short text)

-- ---- an accepted code

-- each of some numbers fits
abbrev Each : List ℕ → Type 0
Each [] = Unit {0}
Each (a ∷ numbers) = (a ≤ greatest) × Each numbers

small : (numbers : List ℕ) → Each numbers → Small numbers
small [] each i l = absurd (omega arith)
small (a ∷ numbers) each zero l = each.0
small (a ∷ numbers) each (suc i) l = small numbers each.1 i (omega arith)

module _ {c : Parameters} {h : List ℕ} (A : Accepted c h) where
  -- no element is greater than the numbers on a sheet
  element_small : {x : ℕ} → x < 2 ^ c.m → x ≤ greatest
  element_small l =
      let wide : 2 ^ c.m ≤ 2 ^ widest = pow_mono A.limits.width.high in
      omega arith

  -- the numbers of the listing's first line
  pub code_line_fits : Small (c.m ∷ c.n ∷ c.t ∷ c.omega ∷ (c.n - message_length c h) ∷ message_length c h ∷ [])
  code_line_fits =
      let short = n_short A.limits in
      let high = A.limits.width.high in
      let half = A.limits.t_high in
      let fewer = message_length-le c h in
      small (c.m ∷ c.n ∷ c.t ∷ c.omega ∷ (c.n - message_length c h) ∷ message_length c h ∷ [])
      (omega arith, (omega arith, (omega arith, (element_small A.ω_in, (omega arith, (omega arith, tt))))))

  -- and those of the line of each column
  pub column_line_fits : (j : ℕ) → j < c.n
      → Small (j ∷ entry_of h j ∷ entry_of (support_of c h) j ∷ entry_of (roles_of c h (whole c.n)) j ∷ [])
  unfolding roles_of
  column_line_fits j l =
      let short = n_short A.limits in
      small (j ∷ entry_of h j ∷ entry_of (support_of c h) j ∷ entry_of (roles_of c h (whole c.n)) j ∷ []) (
        omega arith,
        (
          element_small (A.limits.h_in j (subst (λ (k : ℕ). j < k) (sym A.limits.h_length) l)),
          (
            subst (λ (x : ℕ). x ≤ greatest) (sym (get_d_tabulate c.n (support_at (gf c.m) c.omega (entry_of h)) j 0 l))
                (element_small ((accepted_pair A).L_in j l)),
            (
              subst (λ (x : ℕ). x ≤ greatest)
                  (sym
                  (get_d_tabulate (length (whole c.n)) (λ p. cond (is_message_column c h (whole c.n) p) 1 0) j 0
                  (subst (λ (k : ℕ). j < k) (sym (length_whole c.n)) l)))
                  (role (is_message_column c h (whole c.n) j)),
              tt,
            ),
          ),
        ),
      )
    where
      role : (b : Bool) → cond b 1 0 ≤ greatest
      role true = omega arith
      role false = omega arith

  -- a sheet that is printed for it is read, and where there is room the buffer begins with the code's listing
  pub listed : (out : List ℕ) → listing_length c.n ≤ length out
      → (listing_answer (sheet_text c h) out ≡ Count (listing_length c.n))
      × (take (listing_length c.n) (listing_after (sheet_text c h) out) ≡ listing_text c h)
  unfolding listing_answer listing_after listing_fault sheet_listing sheet_rules room_rules over
  listed out room =
      let R = sheet_read c h (small (numbers_of c) code_numbers) signature_small (n_short A.limits) A.limits.h_length in
      let text = sheet_text c h in
      let rules = room_rules (sheet_listing text) out in
      let text_is : listing_text (sheet_parameters text) (sheet_h text) ≡ listing_text c h = ap₂ listing_text R.numbers R.signature in
      let long : length (sheet_listing text) ≡ listing_length c.n = ap length text_is ∙ length_listing c h in
      let accepts_it = subst (λ (x : List ℕ). Accepted (sheet_parameters text) x) (sym R.signature)
      (subst (λ (d : Parameters). Accepted d h) (sym R.numbers) A) in
      let fits = le-leb (length (sheet_listing text)) (length out) (subst (λ (k : ℕ). k ≤ length out) (sym long) room) in
      let none = fault_past 13 _ R.sheet (code_leaves accepts_it refl rules) ∙ fault_past 2 [] fits fault_empty in (
        given Refused _ none ∙ ap Count long,
        ap (take (listing_length c.n)) (given (λ k. out) _ none)
            ∙ take_at (sheet_listing text) (drop (length (sheet_listing text)) out) (listing_length c.n) long ∙ text_is,
      )
    where
      code_numbers : Each (numbers_of c)
      code_numbers =
          let short = n_short A.limits in
          let high = A.limits.width.high in
          (omega arith, (omega arith, (omega (arith, A.limits.t_high), (element_small A.ω_in, tt))))

      signature_small : Small h
      signature_small i l = element_small (A.limits.h_in i l)
