-- The selection of all blocks in their order with no shifts: of an accepted code it answers as the whole code does with the same places hidden, and
-- leaves the same in the buffers, whatever is lent. Of a code that is not accepted both refuse every call.
use Rattle.std.specs.Prelude.{◌≡◌, refl, Bool, cond, ◌&&◌, List, ℕ}
use Rattle.std.proofs.Common.{sym, ap, ◌∙◌, subst}
use Rattle.refusals.specs.Rules.{fault}
use Rattle.params.specs.declared.Parameters.{Parameters}
use Rattle.params.specs.Code.{Accepted}
use Rattle.parity.specs.SameMatrix.{SameMatrix}
use Rattle.columns.specs.AllOf.{all_blocks}
use Rattle.columns.specs.AllBlocks.{all_fit, all_places_lem, all_columns_lem}
use Rattle.columns.specs.Choice.{Choice.whole_code, all_places, all_columns, choice_rules}
use Rattle.columns.proofs.ChoiceLaws.{choice_fault}
use Rattle.shortened.specs.Setting.{shortened, short_code}
use Rattle.demands.specs.Alike.{Alike}
use Rattle.demands.specs.SameMatrix.{answered_alike}

module _ {c : Parameters} {h : List ℕ} (A : Accepted c h) where
  -- the same number is due: `full` tests the lengths of what has an entry for each place
  same_due : (others : Bool) (full : ℕ → Bool)
      → fault (choice_rules c h (all_blocks c) others (full (all_places c (all_blocks c)))) ≡ fault (choice_rules c h whole_code others (full c.n))
  same_due others full =
      choice_fault A (all_blocks c) (all_fit A) others (full (all_places c (all_blocks c)))
      ∙ ap (λ (n : ℕ). cond (others && full n) 0 2) (all_places_lem A)
      ∙ sym (choice_fault A whole_code tt others (full c.n))

  -- and the columns are the same
  same_matrix : SameMatrix c h (all_columns c (all_blocks c)) c h (all_columns c whole_code)
  same_matrix =
      subst (λ (cols : List ℕ). SameMatrix c h cols c h (all_columns c whole_code)) (sym (all_columns_lem A))
      (record { widths = refl; rows = refl; columns = refl; entries = λ i j li lj. refl })

  pub all_blocks_lem : (hidden : List ℕ) → Alike c h (shortened (all_blocks c) hidden) c h (short_code hidden)
  all_blocks_lem hidden = answered_alike (record { rows = refl; due = same_due; matrix = λ F. same_matrix }) hidden
