-- An accepted code with another offset: for every choice of columns the same number is due, and the parity check matrix is the same.
use Rattle.std.specs.Prelude.{◌≡◌, refl, ◌&&◌, List, ℕ, ◌*◌, ◌^◌, ◌<◌, length}
use Rattle.std.proofs.Math.Bool.{Bool}
use Rattle.refusals.specs.Rules.{fault}
use Rattle.refusals.specs.RuleLaws.{fault_alike}
use Rattle.params.specs.declared.Parameters.{Parameters}
use Rattle.params.proofs.Accepted.{code_numbered, accepted_fault, offset_accepted}
use Rattle.params.specs.Code.{Accepted, code_rules, with_offset}
use Rattle.parity.specs.SameMatrix.{SameMatrix}
use Rattle.parity.specs.SameMatrixLaws.{offset_matrix}
use Rattle.columns.specs.Fits.{ChoiceFits}
use Rattle.columns.specs.Choice.{Choice, Choice.whole_code, Choice.selection, all_places, all_columns}
use Rattle.columns.specs.Choice.{has_lengths, selection_rules, choice_rules}
use Rattle.columns.proofs.ChoiceLaws.{all_on_columns}

module _ {c : Parameters} {h : List ℕ} (A : Accepted c h) (ω : ℕ) (l : ω < 2 ^ c.m) where
  abbrev c' : Parameters
  c' = with_offset c ω

  A' : Accepted c' h
  A' = offset_accepted ω l A

  -- `full` tests the lengths of what has an entry for each place
  pub choice_offset : (s : Choice) (others : Bool) (full : ℕ → Bool)
      → fault (choice_rules c h s others (full (all_places c s))) ≡ fault (choice_rules c' h s others (full (all_places c' s)))
  unfolding choice_rules selection_rules has_lengths
  choice_offset whole_code others full = accepted_fault A A' (others && full c.n)
  choice_offset (selection blocks shifts) others full =
      let tested : Bool = full (length blocks * c.t) in
      fault_alike (code_rules others c h) (code_rules others c' h) (selection_rules c blocks shifts tested) (selection_rules c' blocks shifts tested)
      (code_numbered others c h) (code_numbered others c' h) (accepted_fault A A' others) (λ none. refl)

  pub matrix_offset : (s : Choice) → ChoiceFits c s → SameMatrix c h (all_columns c s) c' h (all_columns c' s)
  unfolding all_columns
  matrix_offset whole_code F = offset_matrix (all_on_columns A whole_code F) ω l
  matrix_offset (selection blocks shifts) F = offset_matrix (all_on_columns A (selection blocks shifts) F) ω l
