-- Two codes with the same parity check matrix, shortened at the same places: the same marks are refused, and the matrix is the same again.
use Rattle.std.specs.Prelude.{◌≡◌, Bool, ◌&&◌, ◌||◌, List, [], ◌∷◌, ℕ, ◌<◌, length}
use Rattle.std.proofs.Common.{sym, ◌∙◌, subst}
use Rattle.std.proofs.Math.Path.{ap}
use Rattle.algebra.specs.AllLaws.{all_cong}
use Rattle.algebra.specs.PlaceLaws.{count_tests}
use Rattle.refusals.specs.Rules.{◌unless◌}
use Rattle.slices.specs.Bits.{all_bits}
use Rattle.params.specs.declared.Parameters.{Parameters}
use Rattle.parity.specs.Columns.{is_message_column}
use Rattle.parity.specs.SameMatrix.{SameMatrix}
use Rattle.parity.specs.SameMatrixLaws.{message_column}
use Rattle.parity.specs.Word.{parity_at}
use Rattle.shortened.specs.Marks.{is_sent, sent_of, hidden_pass, hides_messages, sent_dimension, mark_rules}
use Rattle.shortened.specs.MarkLaws.{length_sent, from, sent_from}

module _ {c₁ c₂ : Parameters} {h₁ h₂ cols₁ cols₂ : List ℕ} (M : SameMatrix c₁ h₁ cols₁ c₂ h₂ cols₂)
    (hidden : List ℕ) (long : length hidden ≡ length cols₂) where
  column_alike : (p : ℕ) → p < length hidden → is_message_column c₁ h₁ cols₁ p ≡ is_message_column c₂ h₂ cols₂ p
  column_alike p l = message_column M p (subst (λ (k : ℕ). p < k) long l)

  pub same_marks : (words : Bool) → mark_rules c₁ h₁ cols₁ hidden words ≡ mark_rules c₂ h₂ cols₂ hidden words
  unfolding mark_rules hides_messages hidden_pass
  same_marks words =
      ap (λ (test : Bool). (20 unless all_bits hidden) ∷ (20 unless test) ∷ (2 unless words) ∷ [])
      (all_cong (length hidden) (λ p l. ap (λ (b : Bool). is_sent hidden p || b) (column_alike p l)))

  pub same_sent_dimension : sent_dimension c₁ h₁ cols₁ hidden ≡ sent_dimension c₂ h₂ cols₂ hidden
  unfolding sent_dimension
  same_sent_dimension = count_tests (length hidden) _ _ (λ p l. ap (λ (b : Bool). is_sent hidden p && b) (column_alike p l))

  pub short_matrix : SameMatrix c₁ h₁ (sent_of hidden cols₁) c₂ h₂ (sent_of hidden cols₂)
  short_matrix =
      record {
        widths = M.widths;
        rows = M.rows;
        columns = length_sent hidden cols₁ ∙ sym (length_sent hidden cols₂);
        entries = λ i j li lj.
            let C = from hidden j (subst (λ (k : ℕ). j < k) (length_sent hidden cols₂) lj) in
            ap (parity_at c₁ h₁ i) (sent_from hidden cols₁ j C)
            ∙ M.entries i C.place li (subst (λ (k : ℕ). C.place < k) long C.inside)
            ∙ ap (parity_at c₂ h₂ i) (sym (sent_from hidden cols₂ j C));
      }
