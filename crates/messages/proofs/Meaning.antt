-- What the table of an accepted code means: its free places are the message columns, and a word completed by it is the encoding of its message.
use mathlib.Core.Path.{◌≡◌, sym, ap, ◌∙◌, subst}
use mathlib.Core.Bool.{Bool, true, false, cond}
use mathlib.Core.List.{List}
use Prim.Native.Nat.{ℕ, ◌-◌, ◌*◌, ◌≤◌, ◌<◌}
use native.Mathlib.Nat.{le_of_eq}
use native.Mathlib.Omega.{arith}
use borrow.Author.Tests.{not-true, eqb-true}
use lib.ListN.{length}
use lib.Seq.{take_all}
use Rattle.algebra.specs.Bits.{bit_at}
use Rattle.algebra.specs.Gf2.{gf2}
use Rattle.algebra.specs.Gf2Laws.{gf2_laws}
use Rattle.algebra.specs.Echelon.{dot, dot_cong, entry_solves}
use Rattle.algebra.specs.Lists.{entry_of}
use Rattle.algebra.specs.Places.{count}
use Rattle.algebra.specs.PlaceLaws.{count-le, free_count_lem, count_tests, chosen_cong, chosen_placed}
use Rattle.algebra.specs.TabulateLaws.{get_d_tabulate}
use Rattle.field.specs.Gf.{Width}
use Rattle.refusals.specs.Rules.{fault}
use Rattle.refusals.specs.RuleLaws.{hold}
use Rattle.slices.specs.Lengths.{longest}
use Rattle.slices.specs.Bits.{Bits, all_bits}
use Rattle.slices.specs.BitLaws.{bits_are}
use Rattle.basis.specs.Table.{row_words, row_bit, lead_at, free_at, placed_at, parity_bit, Room, ParityBasis, Carried}
use Rattle.params.specs.declared.Parameters.{Parameters}
use Rattle.messages.specs.MessageRules.{message_rules}
use Rattle.parity.specs.Columns.{is_message_column, dimension, encoding_of}
use Rattle.messages.specs.CodeBasis.{MessageColumns, CodeBasis, message_is, counted}
use Rattle.parity.specs.Encoding.{e, e_in, code_checks, encoding_only}
use Rattle.parity.specs.Parity.{bit_row, bit_rows, entry_signature}
use Rattle.parity.specs.Selected.{OnColumns, columns_short}
use Rattle.parity.specs.Systematic.{Basis, sum_is_free}

-- room in the arrays of the calls
pub room : {c : Parameters} {h cols : List ℕ} → OnColumns c h cols → (rows leads : List ℕ) → longest * row_words ≤ length rows
    → length cols ≤ length leads
    → Room (length cols) rows leads
room O rows leads a b =
    let short = columns_short O in
    record { short = short; rows_long = omega arith; leads_long = b }

module _ {c : Parameters} {h cols rows leads : List ℕ} {rank : ℕ} (O : OnColumns c h cols)
    (P : ParityBasis c.m c.t h cols rows leads rank) where
  abbrev W : Width c.m
  W = O.accepted.limits.width

  -- the rows are a basis of the parity rows
  table_basis : Basis c.m (length cols) c.t (e c h cols W) (row_bit rows) (lead_at leads)
  unfolding parity_bit
  table_basis =
      record {
        echelon = P.form.echelon;
        kernel =
            λ w hw. (
              λ q. (P.solves w hw).1 (λ i b li lb. same i b li w ∙ (bit_rows W (e_in c h cols W) w hw).0 q i b li lb),
              λ s. (bit_rows W (e_in c h cols W) w hw).1 (λ i b li lb. sym (same i b li w) ∙ (P.solves w hw).0 s i b li lb),
            );
      }
    where
      same : (i b : ℕ) → i < c.t → (w : ℕ → ℕ)
          → dot gf2 (length cols) (parity_bit h cols i b) w ≡ dot gf2 (length cols) (bit_row (e c h cols W) i b) w
      same i b li w =
          dot_cong gf2 gf2_laws (length cols) w
          (λ j lj. ap (λ (x : ℕ). bit_at x b) (sym (entry_signature O.accepted O.selected i j li lj)))

  free_is_message : (p : ℕ) → p < length cols → is_message_column c h cols p ≡ free_at leads p
  unfolding is_message_column free_at
  free_is_message p l = sum_is_free W table_basis p l

  -- k = n − rank
  rest_is_dimension : length cols - rank ≡ dimension c h cols
  unfolding free_at dimension
  rest_is_dimension =
      ap (λ (k : ℕ). length cols - k) P.rank_is ∙ sym (free_count_lem (length cols) (lead_at leads))
      ∙ sym (count_tests (length cols) (is_message_column c h cols) (free_at leads) free_is_message)

  message_columns : MessageColumns c h cols leads (length cols - rank)
  message_columns = record { long = P.form.room.leads_long; number = rest_is_dimension; are = free_is_message }

  not_led : (q : ℕ) → free_at leads q ≡ true → lead_at leads q ≡ false
  unfolding free_at
  not_led q u = not-true (lead_at leads q) u

  -- a word whose free places hold the message, completed, is the message's encoding
  completed_is : (message new : List ℕ) → length message ≡ length cols - rank → Bits message → length new ≡ length cols
      → Carried (length cols) rows leads message new → new ≡ encoding_of c h cols message
  unfolding placed_at
  completed_is message new long bits new-long C =
      encoding_only c h cols W message new (long ∙ rest_is_dimension) bits (record { long = new-long; bits = C.bits })
      ((code_checks c h cols W new).1
      ((table_basis.kernel (entry_of new) C.bits).1
      (λ p l u.
      entry_solves gf2 gf2_laws (length cols) (row_bit rows) (lead_at leads) P.form.echelon (entry_of new) C.bits p l u (C.forced p l u))))
      (message_is message_columns new
      ∙ chosen_cong (length cols) (free_at leads) (entry_of new) (λ q. entry_of message (count q (free_at leads))) (λ q l u. carried q l u)
      ∙ chosen_placed (length cols) (free_at leads) message (le_of_eq (sym free))
      ∙ take_all (count (length cols) (free_at leads)) message (le_of_eq free))
    where
      free : length message ≡ count (length cols) (free_at leads)
      free = long ∙ counted message_columns

      carried : (q : ℕ) → q < length cols → free_at leads q ≡ true → entry_of new q ≡ entry_of message (count q (free_at leads))
      carried q l u =
          C.kept q l (not_led q u)
          ∙ get_d_tabulate (length cols) (λ p. cond (free_at leads p) (entry_of message (count p (free_at leads))) 0) q 0 l
          ∙ ap (λ (b : Bool). cond b (entry_of message (count q (free_at leads))) 0) u

  pub code_basis_is : CodeBasis c h cols rows leads (length cols - rank)
  code_basis_is = record { form = P.form; columns = message_columns; encodes = completed_is }

  pub rank-le : rank ≤ length cols
  rank-le = subst (λ (k : ℕ). k ≤ length cols) (sym P.rank_is) (count-le (length cols) (lead_at leads))

-- a message that is not refused has its length and its bits
pub message_fits : (k long : ℕ) (read : List ℕ) → fault (message_rules k long (all_bits read)) ≡ 0 → (long ≡ k) × Bits read
unfolding message_rules
message_fits k long read z =
    let (fits, bits) = hold (message_rules k long (all_bits read)) tt z in
    (eqb-true long k fits, (bits_are read).0 bits.0)

-- the number found with k is due for the dimension
pub message_due : {c : Parameters} {h cols leads : List ℕ} {k : ℕ} → MessageColumns c h cols leads k → {found : ℕ} (long : ℕ) (bits : Bool)
    → found ≡ fault (message_rules k long bits) → found ≡ fault (message_rules (dimension c h cols) long bits)
message_due M long bits e = e ∙ ap (λ (k : ℕ). fault (message_rules k long bits)) M.number
