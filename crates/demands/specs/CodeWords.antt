-- A code word in plain words: bits, one for each place that is sent, whose syndrome is zero.
use Rattle.std.specs.Prelude.{◌≡◌, List, ℕ, ◌<◌}
use Rattle.std.proofs.Common.{sym, ◌∙◌, subst}
use Rattle.std.proofs.Math.Dec.{eqb}
use Rattle.std.proofs.Math.ListN.{length}
use borrow.Author.Tests.{eqb-true, eq-eqb}
use Rattle.algebra.specs.AllLaws.{all_is, all_true}
use Rattle.slices.specs.Bits.{Bits, IsBits}
use Rattle.params.specs.declared.Parameters.{Parameters}
use Rattle.parity.specs.Word.{syndrome_at, is_code_word}
use Rattle.shortened.specs.Setting.{Setting, places, columns_of}
use Rattle.shortened.proofs.SettingLaws.{length_columns}
use Rattle.nearest.specs.CodeWord.{CodeWord as CodeWordOn}

-- 01: "It is a code word if for every i below t the sum of 1/(z_i + L_j) over the places j that hold 1 is zero." The places are the sent ones of the
-- setting, whose columns stand for them.
pub record CodeWord (c : Parameters) (h : List ℕ) (s : Setting) (w : List ℕ) : Type 0 where
  pub long : length w ≡ places s
  pub bits : Bits w
  pub zero : (i : ℕ) → i < c.t → syndrome_at c h (columns_of c s) w i ≡ 0

-- a bit for each place is one for each column
pub bits_on : (c : Parameters) (s : Setting) {w : List ℕ} → IsBits (places s) w → IsBits (length (columns_of c s)) w
bits_on c s {w} b = subst (λ (k : ℕ). IsBits k w) (sym (length_columns c s)) b

pub is_bits : {n : ℕ} {w : List ℕ} → length w ≡ n → Bits w → IsBits n w
is_bits {n} {w} long bits = record { long = long; bits = λ j l. bits j (subst (λ (k : ℕ). j < k) (sym long) l) }

-- it is the code word of the definitions, for the columns of the setting
module _ (c : Parameters) (h : List ℕ) (s : Setting) (w : List ℕ) where
  pub code_word_on : CodeWord c h s w → CodeWordOn c h (columns_of c s) w
  unfolding is_code_word
  code_word_on C =
      record {
        bits = bits_on c s (is_bits C.long C.bits);
        code = all_true c.t (λ i. eqb (syndrome_at c h (columns_of c s) w i) 0)
            (λ i l. eq-eqb (syndrome_at c h (columns_of c s) w i) 0 (C.zero i l));
      }

  pub code_word_lem : CodeWordOn c h (columns_of c s) w → CodeWord c h s w
  unfolding is_code_word
  code_word_lem C =
      let long : length w ≡ places s = C.bits.long ∙ length_columns c s in
      record {
        long = long;
        bits = λ j l. C.bits.bits j (subst (λ (k : ℕ). j < k) C.bits.long l);
        zero = λ i l. eqb-true (syndrome_at c h (columns_of c s) w i) 0
            (all_is c.t (λ i. eqb (syndrome_at c h (columns_of c s) w i) 0) C.code i l);
      }
