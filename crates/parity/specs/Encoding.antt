-- Demand 2: "Encoding a message gives the one code word that carries it, and reading that word gives the message."
--
-- It holds for every list of columns, of every code over a field of the table.
use Rattle.std.specs.Prelude.{◌≡◌, ◌↔◌, ◌&&◌, length}
use Rattle.std.proofs.Math.Path.{sym, ap, subst}
use Rattle.std.proofs.Common.{◌∙◌, subst₂, mod-lt, div-lt_iff_lt-mul, le_of_eq, arith}
use Rattle.std.proofs.Math.Bool.{Bool, true, false, not}
use mathlib.Core.List.{List}
use Prim.Native.Nat.{ℕ, ◌+◌, ◌*◌, ◌/◌, ◌%◌, ◌^◌, ◌<◌}
use Rattle.std.proofs.Math.Arith.{digits_div, digits_mod, digits_lt}
use Rattle.std.proofs.Math.Dec.{eqb}
use Rattle.std.proofs.Math.Seq.{take_all, ext_get_or}
use borrow.Author.Tests.{eqb-true, eq-eqb, not-true}
use Rattle.algebra.specs.AllLaws.{all_is, all_true}
use Rattle.algebra.specs.Flags.{both_true, both_hold}
use Rattle.algebra.specs.Bits.{bit_at}
use Rattle.algebra.specs.BitLaws.{bit_at_lt}
use Rattle.algebra.specs.FromBits.{number_of, number_of-lt, number_of_bit}
use Rattle.algebra.specs.Gf2.{gf2}
use Rattle.algebra.specs.Gf2Laws.{gf2_laws}
use Rattle.algebra.specs.Echelon.{dot, agree, solution}
use Rattle.algebra.specs.Elimination.{echelon_form}
use Rattle.algebra.specs.SumLaws.{sum_cong}
use Rattle.algebra.specs.Tabulate.{tabulate}
use Rattle.algebra.specs.TabulateLaws.{length-tabulate, get_d_tabulate, tabulate_cong, tabulate-get_or}
use Rattle.algebra.specs.Xor.{◌⊕◌}
use Rattle.field.specs.Gf.{Width, gf}
use Rattle.field.proofs.GfLaws.{gf_laws}
use Rattle.slices.specs.Bits.{Bits, IsBits}
use Rattle.slices.specs.BitLaws.{bits_anywhere}
use Rattle.params.specs.declared.Parameters.{Parameters}
use Rattle.signature.specs.Signature.{root_at, support_at}
use Rattle.algebra.specs.Lists.{entry_of, same_list}
use Rattle.algebra.specs.ListLaws.{same_list_is}
use Rattle.parity.specs.Word.{parity_at, held, syndrome_at, is_code_word}
use Rattle.parity.specs.Columns.{word_of, is_sum, is_message_column, dimension, message_of, encoding_of}
use Rattle.algebra.specs.Places.{count, found}
use Rattle.algebra.specs.PlaceLaws.{chosen_cong, chosen_same, chosen_placed, found_passes}
use Rattle.parity.specs.Parity.{Checks, bit_row, bit_rows}
use Rattle.parity.specs.Systematic.{Basis, sum_is_free}

-- the words of numbers are the words of bits
pub word_bits : (n s : ℕ) → IsBits n (word_of n s)
unfolding word_of
word_bits n s =
    record {
      long = length-tabulate n (bit_at s);
      bits = λ j l. subst (λ (x : ℕ). x < 2) (sym (get_d_tabulate n (bit_at s) j 0 l)) (bit_at_lt s j);
    }

pub word_number : {n : ℕ} {w : List ℕ} → IsBits n w → word_of n (number_of n (entry_of w)) ≡ w
unfolding word_of
word_number {n} {w} b =
    tabulate_cong n (λ j l. number_of_bit n (entry_of w) b.bits j l) ∙ ap (λ (k : ℕ). tabulate k (entry_of w)) (sym b.long) ∙ tabulate-get_or w 0

module _ (c : Parameters) (h cols : List ℕ) (W : Width c.m) where
  abbrev pub n : ℕ
  n = length cols

  -- the entry in row i at place j
  abbrev pub e : ℕ → ℕ → ℕ
  e i j = parity_at c h i (entry_of cols j)

  pub e_in : (i j : ℕ) → i < c.t → j < n → e i j < 2 ^ c.m
  unfolding parity_at
  e_in i j li lj = (gf_laws c.m W).in_inv
      (root_at (gf c.m) c.omega (entry_of h) i ⊕ support_at (gf c.m) c.omega (entry_of h) (entry_of cols j))

  pub code_checks : (w : List ℕ) → (is_code_word c h cols w ≡ true) ↔ Checks c.m n c.t e (entry_of w)
  unfolding is_code_word syndrome_at
  code_checks w = (
    λ k i l. eqb-true (syndrome_at c h cols w i) 0 (all_is c.t (λ i. eqb (syndrome_at c h cols w i) 0) k i l),
    λ k. all_true c.t (λ i. eqb (syndrome_at c h cols w i) 0) (λ i l. eq-eqb (syndrome_at c h cols w i) 0 (k i l)),
  )

  -- the parity rows have a basis
  pub basis : (rows : ℕ → ℕ → ℕ) × (leads : ℕ → Bool) × Basis c.m n c.t e rows leads
  basis =
      let (rows, leads, E, S) =
      echelon_form gf2 gf2_laws n (c.t * c.m) (λ k. bit_row e (k / c.m) (k % c.m)) (λ k l j lj. bit_at_lt (e (k / c.m) j) (k % c.m)) in (
        rows,
        leads,
        record {
          echelon = E;
          kernel =
              λ w hw. (
                λ q. (S w).1 (λ k l. (bit_rows W e_in w hw).0 q (k / c.m) (k % c.m) ((div-lt_iff_lt-mul positive).1 l) (mod-lt k positive)),
                λ s. (bit_rows W e_in w hw).1 (λ i b li lb. at w i b lb ((S w).0 s (i * c.m + b) (digits_lt li lb))),
              );
        },
      )
    where
      positive : 0 < c.m
      positive = omega (arith, W.low)

      at : (w : ℕ → ℕ) (i b : ℕ) → b < c.m → dot gf2 n (bit_row e ((i * c.m + b) / c.m) ((i * c.m + b) % c.m)) w ≡ 0 → dot gf2 n (bit_row e i b) w
          ≡ 0
      at w i b l z =
          subst₂ (λ (x y : ℕ). dot gf2 n (bit_row e x y) w ≡ 0) (digits_div i l) (digits_mod i l) z

  -- ---- two code words with one message are the same

  pub same_message : (w v : List ℕ) → IsBits n w → IsBits n v → is_code_word c h cols w ≡ true → is_code_word c h cols v ≡ true
      → message_of c h cols w ≡ message_of c h cols v → w ≡ v
  unfolding message_of is_message_column
  same_message w v bw bv cw cv q =
      let (rows, leads, B) = basis in
      ext_get_or 0 w v (bw.long ∙ sym bv.long)
      (λ j l.
      agree gf2 gf2_laws n rows leads B.echelon (entry_of w) (entry_of v) bw.bits bv.bits
      ((B.kernel (entry_of w) bw.bits).0 ((code_checks w).0 cw)) ((B.kernel (entry_of v) bv.bits).0 ((code_checks v).0 cv)) 0
      (λ q' a m' f. chosen_same n (is_sum c.m c.t e) (entry_of w) (entry_of v) q q' m' (sum_is_free W B q' m' ∙ ap not f)) j (omega arith)
      (subst (λ (k : ℕ). j < k) bw.long l))

  -- ---- every message has a code word

  -- the word with the message at the message columns and the check columns as they are forced
  carrier : (message : List ℕ) → length message ≡ dimension c h cols → Bits message
      → (w : List ℕ) × IsBits n w × (is_code_word c h cols w ≡ true) × (message_of c h cols w ≡ message)
  unfolding message_of is_message_column dimension
  carrier message long bits =
      let (rows, leads, B) = basis in
      let (w, hw, sw, f) =
      solution gf2 gf2_laws n rows leads B.echelon (λ q. entry_of message (count q (is_sum c.m c.t e)))
      (λ q l. bits_anywhere message bits (count q (is_sum c.m c.t e))) in (
        tabulate n w,
        record { long = length-tabulate n w; bits = λ j l. subst (λ (x : ℕ). x < 2) (sym (get_d_tabulate n w j 0 l)) (hw j l) },
        (code_checks (tabulate n w)).1
            (λ i l. sum_cong (gf c.m) n (λ j lj. ap (λ (b : ℕ). held b (e i j)) (get_d_tabulate n w j 0 lj)) ∙ (B.kernel w hw).1 sw i l),
        chosen_cong n (is_sum c.m c.t e) (entry_of (tabulate n w)) (λ q. entry_of message (count q (is_sum c.m c.t e)))
            (λ q l u. get_d_tabulate n w q 0 l ∙ f q l (free rows leads B q l u))
            ∙ chosen_placed n (is_sum c.m c.t e) message (le_of_eq (sym long))
            ∙ take_all (count n (is_sum c.m c.t e)) message (le_of_eq long),
      )
    where
      free : (rows : ℕ → ℕ → ℕ) (leads : ℕ → Bool) (B : Basis c.m n c.t e rows leads) (q : ℕ) → q < n → is_sum c.m c.t e q ≡ true → leads q
          ≡ false
      free rows leads B q l u = not-true (leads q) (sym (sum_is_free W B q l) ∙ u)

  pub encoding_carries : (message : List ℕ) → length message ≡ dimension c h cols → Bits message
      → IsBits n (encoding_of c h cols message) × (is_code_word c h cols (encoding_of c h cols message) ≡ true)
      × (message_of c h cols (encoding_of c h cols message) ≡ message)
  unfolding encoding_of
  encoding_carries message long bits =
      let (w, b, k, q) = carrier message long bits in
      let (code, carries) =
      both_true (is_code_word c h cols (word_of n s)) (same_list (message_of c h cols (word_of n s)) message)
      (found_passes (2 ^ n) fits (number_of n (entry_of w)) (number_of-lt n (entry_of w) b.bits)
      (ap fits_word (word_number b)
      ∙ both_hold k ((same_list_is (message_of c h cols w) message).1 q))) in (
        word_bits n s,
        code,
        (same_list_is (message_of c h cols (word_of n s)) message).0 carries,
      )
    where
      fits_word : List ℕ → Bool
      fits_word v = is_code_word c h cols v && same_list (message_of c h cols v) message

      fits : ℕ → Bool
      fits s = fits_word (word_of n s)

      s : ℕ
      s = found (2 ^ n) fits

  -- the only one
  pub encoding_only : (message w : List ℕ) → length message ≡ dimension c h cols → Bits message → IsBits n w
      → is_code_word c h cols w ≡ true → message_of c h cols w ≡ message → w ≡ encoding_of c h cols message
  encoding_only message w long bits b k q =
      let (b', k', q') = encoding_carries message long bits in
      same_message w (encoding_of c h cols message) b b' k k' (q ∙ sym q')
