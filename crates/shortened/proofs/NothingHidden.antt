-- A setting with nothing hidden: the places and the columns are all of them, and of the marks' rules the length of the words alone is left.
use Rattle.std.specs.Prelude.{◌≡◌, refl, true, ◌&&◌, List, [], ◌∷◌, ◌++◌, ℕ, zero, suc, ◌+◌, ◌<◌, length}
use Rattle.std.proofs.Math.Path.{sym, ap}
use Rattle.std.proofs.Common.{◌∙◌, subst, append_assoc, add-one, lit<, eq-eqb}
use Rattle.std.proofs.Math.Bool.{Bool}
use Rattle.std.proofs.lemmas.Bool.{false≢true}
use Rattle.std.proofs.Math.Dec.{eqb}
use Rattle.algebra.specs.Lists.{entry_of}
use Rattle.algebra.specs.Places.{count, chosen}
use Rattle.algebra.specs.PlaceLaws.{count_tests, chosen_tests}
use Rattle.algebra.specs.Tabulate.{tabulate}
use Rattle.algebra.specs.TabulateLaws.{length-tabulate, get_d_tabulate, tabulate-get_or}
use Rattle.refusals.specs.Rules.{Rule, ◌unless◌, fault}
use Rattle.refusals.specs.RuleLaws.{fault_past, fault_alike}
use Rattle.slices.specs.BitLaws.{bits_are}
use Rattle.params.specs.declared.Parameters.{Parameters}
use Rattle.parity.specs.Columns.{is_message_column, dimension}
use Rattle.columns.specs.Choice.{Choice, all_places, all_columns, choice_rules}
use Rattle.columns.proofs.ChoiceLaws.{choice_numbered, length_all}
use Rattle.columns.specs.Fits.{ChoiceFits}
use Rattle.shortened.specs.Fits.{Hides, Fits}
use Rattle.shortened.specs.Marks.{is_sent, sent_count, sent_of, hides_messages, sent_dimension, mark_rules}
use Rattle.shortened.specs.Setting.{places, columns_of, setting_rules}
use Rattle.shortened.proofs.SettingLaws.{hidden_pass_lem}
use Rattle.shortened.specs.Unhidden.{unhidden}

-- every place is chosen
count_every : (n : ℕ) → count n (λ p. true) ≡ n
unfolding count
count_every zero = refl
count_every (suc n) = ap (λ (k : ℕ). k + 1) (count_every n) ∙ add-one n

chosen_every : (n : ℕ) (w : ℕ → ℕ) → chosen n (λ p. true) w ≡ tabulate n w
unfolding chosen tabulate
chosen_every zero w = refl
chosen_every (suc n) w = ap (λ (l : List ℕ). l ++ w n ∷ []) (chosen_every n w)

module _ (c : Parameters) (choice : Choice) where
  abbrev n : ℕ
  n = all_places c choice

  abbrev marks : List ℕ
  marks = tabulate (all_places c choice) (λ p. 0)

  marks_long_lem : length marks ≡ n
  marks_long_lem = length-tabulate n (λ p. 0)

  mark_zero : (p : ℕ) → p < length marks → entry_of marks p ≡ 0
  mark_zero p l = get_d_tabulate n (λ p. 0) p 0 (subst (λ (k : ℕ). p < k) marks_long_lem l)

  every_sent : (p : ℕ) → p < length marks → is_sent marks p ≡ true
  every_sent p l = eq-eqb (entry_of marks p) 0 (mark_zero p l)

  pub unhidden-places : places (unhidden c choice) ≡ all_places c choice
  unfolding sent_count
  unhidden-places = count_tests (length marks) (is_sent marks) (λ p. true) every_sent ∙ count_every (length marks) ∙ marks_long_lem

  pub unhidden_columns : columns_of c (unhidden c choice) ≡ all_columns c choice
  unfolding columns_of sent_of
  unhidden_columns =
      chosen_tests (length marks) (is_sent marks) (λ p. true) (entry_of (all_columns c choice)) every_sent
      ∙ chosen_every (length marks) (entry_of (all_columns c choice))
      ∙ ap (λ (k : ℕ). tabulate k (entry_of (all_columns c choice))) (marks_long_lem ∙ sym (length_all c choice))
      ∙ tabulate-get_or (all_columns c choice) 0

  -- such marks are in order for every code
  pub unhidden_hides : (h : List ℕ) → Hides c h (all_columns c choice) marks
  unhidden_hides h =
      record {
        long = marks_long_lem ∙ sym (length_all c choice);
        marks = λ p l. subst (λ (x : ℕ). x < 2) (sym (mark_zero p l)) (lit< tt);
        messages = λ p l f. absurd (false≢true (sym f ∙ every_sent p l));
      }

  pub unhidden_fits : {h : List ℕ} → ChoiceFits c choice → Fits c h (unhidden c choice)
  unhidden_fits {h} C = record { choice = C; hides = unhidden_hides h }

  -- every message column is sent
  pub unhidden_dimension : (h : List ℕ) → sent_dimension c h (all_columns c choice) marks ≡ dimension c h (all_columns c choice)
  unfolding sent_dimension dimension
  unhidden_dimension h =
      count_tests (length marks) _ (is_message_column c h (all_columns c choice))
      (λ p l. ap (λ (b : Bool). b && is_message_column c h (all_columns c choice) p) (every_sent p l))
      ∙ ap (λ (k : ℕ). count k (is_message_column c h (all_columns c choice))) (marks_long_lem ∙ sym (length_all c choice))

  -- the rules of a call with nothing hidden: those of the choice, then 2 for the words, then its own
  pub unhidden-fault : (h : List ℕ) (others words : Bool) (more : List Rule)
      → fault (setting_rules c h (unhidden c choice) others words ++ more)
      ≡ fault (choice_rules c h choice others true ++ (2 unless words) ∷ more)
  unfolding setting_rules mark_rules hides_messages
  unhidden-fault h others words more =
      let tested : Bool = eqb (length marks) n in
      let H = unhidden_hides h in
      ap fault (append_assoc (choice_rules c h choice others tested) (mark_rules c h (all_columns c choice) marks words) more)
      ∙ fault_alike (choice_rules c h choice others tested) (choice_rules c h choice others true)
      (mark_rules c h (all_columns c choice) marks words ++ more) ((2 unless words) ∷ more)
      (choice_numbered c h choice others tested) (choice_numbered c h choice others true)
      (ap (λ (b : Bool). fault (choice_rules c h choice others b)) (eq-eqb (length marks) n marks_long_lem))
      (λ none.
      fault_past 20 _ ((bits_are marks).1 H.marks)
      (fault_past 20 _ ((hidden_pass_lem marks (is_message_column c h (all_columns c choice))).1 H.messages) refl))
