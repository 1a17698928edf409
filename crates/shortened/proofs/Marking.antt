-- What the marks are tested by: nothing is hidden, or the free places of a basis are the message columns.
use mathlib.Core.Path.{◌≡◌, sym, ap, ◌∙◌, subst}
use mathlib.Core.Bool.{Bool, true, ◌||◌, false≢true}
use mathlib.Core.List.{List}
use Prim.Native.Nat.{ℕ, ◌<◌}
use native.Mathlib.Nat.{le_of_eq}
use lib.ListN.{length}
use Rattle.algebra.specs.AllLaws.{all_cong}
use Rattle.algebra.specs.PlaceLaws.{count_full}
use Rattle.basis.specs.Table.{free_at}
use Rattle.messages.specs.CodeBasis.{MessageColumns}
use Rattle.params.specs.declared.Parameters.{Parameters}
use Rattle.parity.specs.Columns.{is_message_column}
use Rattle.shortened.specs.Marks.{is_sent, sent_count, hidden_pass, hides_messages}
use Rattle.shortened.proofs.SettingLaws.{hidden_pass_lem}

module _ (c : Parameters) (h cols hidden : List ℕ) where
  -- where every place is sent there is nothing to test
  pub nothing_hidden : sent_count hidden ≡ length hidden → true ≡ hides_messages c h cols hidden
  unfolding sent_count hides_messages
  nothing_hidden e =
      sym
      ((hidden_pass_lem hidden (is_message_column c h cols)).1
      (λ p l f. absurd (false≢true (sym f ∙ count_full (length hidden) (is_sent hidden) (le_of_eq (sym e)) p l))))

  pub hides_by_leads : {leads : List ℕ} {k : ℕ} → MessageColumns c h cols leads k → length hidden ≡ length cols
      → hidden_pass hidden (free_at leads) ≡ hides_messages c h cols hidden
  unfolding hides_messages hidden_pass
  hides_by_leads M long =
      all_cong (length hidden) (λ p l. ap (λ (b : Bool). is_sent hidden p || b) (sym (M.are p (subst (λ (k : ℕ). p < k) long l))))
