-- All that is said of words comes from the parity check matrix: two codes, each on a list of its columns, with the same matrix have the same
-- syndromes, code words, message columns, messages and encodings.
use Rattle.std.specs.Prelude.{◌≡◌, refl, Bool, ◌&&◌, length}
use Rattle.std.proofs.Common.{sym, ◌∙◌, arith}
use Rattle.std.proofs.Math.Path.{ap, ap₂, fun_ext}
use Rattle.std.proofs.Math.Bool.{cond}
use mathlib.Core.List.{List}
use Prim.Native.Nat.{ℕ, ◌^◌, ◌<◌}
use Rattle.std.proofs.Math.Dec.{eqb}
use Rattle.algebra.specs.All.{all, some}
use Rattle.algebra.specs.AllLaws.{all_cong}
use Rattle.algebra.specs.Bits.{bit_at}
use Rattle.algebra.specs.Lists.{entry_of, same_list}
use Rattle.algebra.specs.Places.{count, chosen, found}
use Rattle.algebra.specs.PlaceLaws.{chosen_tests, count_tests}
use Rattle.algebra.specs.Sum.{sum}
use Rattle.algebra.specs.SumLaws.{sum_cong}
use Rattle.algebra.specs.Tabulate.{tabulate}
use Rattle.algebra.specs.TabulateLaws.{tabulate_cong}
use Rattle.field.specs.Gf.{gf}
use Rattle.params.specs.declared.Parameters.{Parameters}
use Rattle.params.specs.Code.{with_offset}
use Rattle.params.proofs.Accepted.{offset_accepted}
use Rattle.parity.specs.Columns.{word_of, is_sum_of, is_sum, is_message_column, roles_of, dimension, message_of, encoding_of}
use Rattle.parity.specs.SameMatrix.{SameMatrix}
use Rattle.parity.specs.Parity.{entry_signature}
use Rattle.parity.specs.Selected.{OnColumns}
use Rattle.parity.specs.Word.{parity_at, held, syndrome_at, syndrome_of, is_code_word}

-- the entries are the signature's, so the matrix is the same for every offset
pub offset_matrix : {c : Parameters} {h cols : List ℕ} → OnColumns c h cols → (ω : ℕ) → ω < 2 ^ c.m → SameMatrix c h cols (with_offset c ω) h cols
offset_matrix O ω l =
    record {
      widths = refl;
      rows = refl;
      columns = refl;
      entries = λ i j li lj.
          entry_signature O.accepted O.selected i j li lj
          ∙ sym (entry_signature (offset_accepted ω l O.accepted) O.selected i j li lj);
    }

module _ {c₁ c₂ : Parameters} {h₁ cols₁ h₂ cols₂ : List ℕ} (M : SameMatrix c₁ h₁ cols₁ c₂ h₂ cols₂) where
  syndrome_at_lem : (w : List ℕ) (i : ℕ) → i < c₂.t → syndrome_at c₁ h₁ cols₁ w i ≡ syndrome_at c₂ h₂ cols₂ w i
  unfolding syndrome_at
  syndrome_at_lem w i li =
      ap₂ (λ (m n : ℕ). sum (gf m) n (λ j. held (entry_of w j) (parity_at c₁ h₁ i (entry_of cols₁ j)))) M.widths M.columns
      ∙ sum_cong (gf c₂.m) (length cols₂) (λ j lj. ap (held (entry_of w j)) (M.entries i j li lj))

  pub same_syndrome : (w : List ℕ) → syndrome_of c₁ h₁ cols₁ w ≡ syndrome_of c₂ h₂ cols₂ w
  unfolding syndrome_of
  same_syndrome w = ap (λ (t : ℕ). tabulate t (syndrome_at c₁ h₁ cols₁ w)) M.rows ∙ tabulate_cong c₂.t (syndrome_at_lem w)

  pub same_code_words : (w : List ℕ) → is_code_word c₁ h₁ cols₁ w ≡ is_code_word c₂ h₂ cols₂ w
  unfolding is_code_word
  same_code_words w =
      ap (λ (t : ℕ). all t (λ i. eqb (syndrome_at c₁ h₁ cols₁ w i) 0)) M.rows
      ∙ all_cong c₂.t (λ i li. ap (λ (x : ℕ). eqb x 0) (syndrome_at_lem w i li))

  pub message_column : (p : ℕ) → p < length cols₂ → is_message_column c₁ h₁ cols₁ p ≡ is_message_column c₂ h₂ cols₂ p
  unfolding is_message_column is_sum is_sum_of
  message_column p lp =
      ap₂ (λ (m t : ℕ). is_sum m t (λ i q. parity_at c₁ h₁ i (entry_of cols₁ q)) p) M.widths M.rows
      ∙ ap (some (2 ^ p))
      (fun_ext
      (λ s.
      all_cong c₂.t
      (λ i li.
      ap₂ (λ (x y : ℕ). eqb x y) (sum_cong (gf c₂.m) p (λ q lq. ap (held (bit_at s q)) (M.entries i q li (omega arith)))) (M.entries i p li lp))))

  pub same_roles : roles_of c₁ h₁ cols₁ ≡ roles_of c₂ h₂ cols₂
  unfolding roles_of
  same_roles =
      ap (λ (n : ℕ). tabulate n (λ p. cond (is_message_column c₁ h₁ cols₁ p) 1 0)) M.columns
      ∙ tabulate_cong (length cols₂) (λ p l. ap (λ (b : Bool). cond b 1 0) (message_column p l))

  pub same_dimension : dimension c₁ h₁ cols₁ ≡ dimension c₂ h₂ cols₂
  unfolding dimension
  same_dimension =
      ap (λ (n : ℕ). count n (is_message_column c₁ h₁ cols₁)) M.columns
      ∙ count_tests (length cols₂) (is_message_column c₁ h₁ cols₁) (is_message_column c₂ h₂ cols₂) message_column

  pub same_messages : (w : List ℕ) → message_of c₁ h₁ cols₁ w ≡ message_of c₂ h₂ cols₂ w
  unfolding message_of
  same_messages w =
      ap (λ (n : ℕ). chosen n (is_message_column c₁ h₁ cols₁) (entry_of w)) M.columns
      ∙ chosen_tests (length cols₂) (is_message_column c₁ h₁ cols₁) (is_message_column c₂ h₂ cols₂) (entry_of w) message_column

  pub same_encoding : (message : List ℕ) → encoding_of c₁ h₁ cols₁ message ≡ encoding_of c₂ h₂ cols₂ message
  unfolding encoding_of
  same_encoding message =
      ap₂ (λ (n : ℕ) (p : List ℕ → Bool). word_of n (found (2 ^ n) (λ s. p (word_of n s)))) M.columns
      (fun_ext (λ w. ap₂ (λ (x y : Bool). x && y) (same_code_words w) (ap (λ (l : List ℕ). same_list l message) (same_messages w))))
