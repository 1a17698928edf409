-- Where every column is a check column (k = 0), zero is the only code word, and the empty message encodes to it.
use Rattle.std.specs.Prelude.{◌≡◌, refl, true, List, [], ◌∷◌, ℕ, ◌<◌, length}
use Rattle.std.proofs.Common.{sym, ◌∙◌, subst, not-suc-le-zero, arith, lit<}
use Rattle.std.proofs.Math.Path.{ap}
use Rattle.algebra.specs.SumLaws.{sum-nought}
use Rattle.algebra.specs.Tabulate.{tabulate}
use Rattle.algebra.specs.TabulateLaws.{length-tabulate, get_d_tabulate}
use Rattle.field.specs.Gf.{Width, gf}
use Rattle.field.proofs.GfLaws.{gf_laws}
use Rattle.algebra.specs.Lists.{entry_of}
use Rattle.params.specs.declared.Parameters.{Parameters}
use Rattle.parity.specs.Word.{held, is_code_word}
use Rattle.parity.specs.Columns.{dimension, message_of, encoding_of}
use Rattle.algebra.specs.PlaceLaws.{length-chosen}
use Rattle.parity.specs.Encoding.{e, code_checks, same_message, encoding_only}
use Rattle.slices.specs.Bits.{IsBits}

no_entries : (l : List ℕ) → length l ≡ 0 → l ≡ []
no_entries [] z = refl
no_entries (x ∷ l) z = absurd (omega arith)

module _ (c : Parameters) (h cols : List ℕ) (W : Width c.m) where
  abbrev zeros : List ℕ
  zeros = tabulate (length cols) (λ j. 0)

  zeros_bits : IsBits (length cols) zeros
  zeros_bits =
      record {
        long = length-tabulate (length cols) (λ j. 0);
        bits = λ j l. subst (λ (x : ℕ). x < 2) (sym (get_d_tabulate (length cols) (λ j. 0) j 0 l)) (lit< tt);
      }

  pub zeros_code : is_code_word c h cols zeros ≡ true
  unfolding held
  zeros_code =
      (code_checks c h cols W zeros).1
      (λ i li.
      sum-nought (gf c.m) (gf_laws c.m W) (length cols)
      (λ j lj. ap (λ (b : ℕ). held b (e c h cols W i j)) (get_d_tabulate (length cols) (λ j. 0) j 0 lj)))

  module _ (none : dimension c h cols ≡ 0) where
    empty_message : (w : List ℕ) → message_of c h cols w ≡ []
    unfolding message_of dimension
    empty_message w = no_entries (message_of c h cols w) (length-chosen (length cols) _ (entry_of w) ∙ none)

    pub only_zeros : (w : List ℕ) → IsBits (length cols) w → is_code_word c h cols w ≡ true → w ≡ zeros
    only_zeros w b k = same_message c h cols W w zeros b zeros_bits k zeros_code (empty_message w ∙ sym (empty_message zeros))

    pub zeros_encoded : encoding_of c h cols [] ≡ zeros
    zeros_encoded =
        sym (encoding_only c h cols W [] zeros (sym none) (λ i l. absurd (not-suc-le-zero l)) zeros_bits zeros_code (empty_message zeros))
