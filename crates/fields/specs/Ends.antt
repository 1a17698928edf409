-- A line ends where its numbers do: no byte of a number is a line's end.
use Rattle.std.specs.Prelude.{◌≡◌, ◌≢◌, true, List, [], ◌∷◌, ◌++◌, ℕ, zero, suc, ◌+◌, ◌-◌, ◌*◌, ◌/◌, ◌%◌, ◌<◌, length}
use Rattle.std.proofs.Common.{sym, ap, ◌∙◌, subst, not-suc-le-zero, arith}
use Rattle.std.proofs.Math.Decide.{dec_lt}
use Rattle.std.proofs.Math.ListN.{get_or-append}
use Rattle.std.proofs.lemmas.List.{get_or_at}
use Rattle.algebra.specs.Lists.{entry_of}
use Rattle.fields.specs.Fields.{field_width, line_end, digit_byte, lead_byte, lead_text, number_text, number_at, is_line}
use Rattle.fields.specs.Reading.{length_lead, number_printed, line_numbers}

-- one byte more, where no byte before it is a line's end
one_more : (l : List ℕ) (b n : ℕ) → length l ≡ n → ((i : ℕ) → i < n → entry_of l i ≢ line_end) → b ≢ line_end
    → (i : ℕ) → i < suc n → entry_of (l ++ b ∷ []) i ≢ line_end
one_more l b n long before last i h e = decided (dec_lt i n)
  where
    decided : Dec (i < n) → ⊥
    decided (yes li) = before i li (sym (get_or-append l (b ∷ []) 0 i (subst (λ (k : ℕ). i < k) (sym long) li)) ∙ e)
    decided (no nl) =
        let at_end : length l ≡ i = omega (arith, long) in
        last (sym (get_or_at l b [] 0 i at_end) ∙ e)

lead_byte_lem : (r : ℕ) → lead_byte r ≢ line_end
unfolding lead_byte
lead_byte_lem zero e = omega arith
lead_byte_lem (suc r) e = omega arith

lead_bytes : (c r i : ℕ) → i < c → entry_of (lead_text c r) i ≢ line_end
unfolding lead_text
lead_bytes zero r i h = absurd (not-suc-le-zero h)
lead_bytes (suc c) r i h = one_more (lead_text c (r / 10)) (lead_byte r) c (length_lead c (r / 10)) (lead_bytes c (r / 10)) (lead_byte_lem r) i h

number_bytes : (v i : ℕ) → i < field_width → entry_of (number_text v) i ≢ line_end
unfolding number_text
number_bytes v =
    one_more (lead_text (field_width - 1) (v / 10)) (digit_byte (v % 10)) (field_width - 1) (length_lead (field_width - 1) (v / 10))
    (lead_bytes (field_width - 1) (v / 10)) (λ e. omega arith)

module _ (text : List ℕ) (p k : ℕ) (line : is_line text p k ≡ true) where
  pub no_earlier_end : (x : ℕ) → x < k * field_width → entry_of text (p + x) ≢ line_end
  no_earlier_end x l e =
      let i = x / field_width in
      let c = x % field_width in
      let split : p + i * field_width + c ≡ p + x = omega arith in
      let printed = number_printed text (p + i * field_width) (line_numbers text p k line i (omega arith)) c (omega arith) in
      number_bytes (number_at text (p + i * field_width)) c (omega arith) (sym printed ∙ ap (entry_of text) split ∙ e)
