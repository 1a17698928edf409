-- When no call on words, no ride and no dash with several senders tells two codes apart, each at a setting, where the same places are hidden.
--
-- The calls depend on the code and on the setting by the rules that are looked at before the call's own, by the number of roots, which is the length
-- of a syndrome, by the marks of hidden places, and by the parity check matrix. Where these are the same, the calls answer alike.
use Rattle.std.specs.Prelude.{◌≡◌, refl, ◌&&◌, ◌||◌}
use Rattle.std.proofs.Math.Path.{sym, ap, ap₂, fun_ext}
use Rattle.std.proofs.Common.{◌∙◌}
use Rattle.std.proofs.Math.Bool.{Bool, true, cond, not}
use mathlib.Core.List.{List, [], ◌∷◌, ◌++◌}
use Prim.Native.Nat.{ℕ}
use Rattle.std.proofs.Math.Dec.{eqb, leb}
use Rattle.std.proofs.Math.ListN.{length, set, replicate}
use borrow.Author.Tests.{eqb-true}
use Rattle.algebra.specs.Flags.{both_true}
use Rattle.algebra.specs.Lists.{entry_of}
use Rattle.algebra.specs.Parts.{part, with_part, joined}
use Rattle.algebra.specs.Places.{count}
use Rattle.algebra.specs.Tabulate.{tabulate}
use Rattle.refusals.specs.Counted.{Count, Refused as NotCounted}
use Rattle.refusals.specs.Outcome.{Done, Refused}
use Rattle.refusals.specs.Rules.{Rule, ◌unless◌, fault, unless_refused}
use Rattle.refusals.specs.RuleLaws.{fault_alike, answer_alike, first_holds}
use Rattle.slices.specs.Bits.{all_bits}
use Rattle.params.specs.declared.Parameters.{Parameters}
use Rattle.parity.specs.Columns.{roles_of, dimension, message_of, encoding_of}
use Rattle.parity.specs.SameMatrix.{SameMatrix}
use Rattle.parity.specs.SameMatrixLaws.{same_syndrome, same_code_words, same_roles, same_dimension, same_messages, same_encoding}
use Rattle.parity.specs.Word.{syndrome_of, is_code_word}
use Rattle.columns.specs.Choice.{Choice, all_places, all_columns, choice_rules}
use Rattle.columns.proofs.ChoiceLaws.{choice_numbered, choice_accepted, length_all}
use Rattle.columns.specs.Fits.{ChoiceFits}
use Rattle.shortened.specs.Marks.{sent_dimension, mark_rules}
use Rattle.shortened.specs.Setting.{Setting, shortened, places, columns_of, setting_rules}
use Rattle.shortened.proofs.SettingLaws.{setting_numbered, length_columns}
use Rattle.shortened.proofs.ShortMatrix.{same_marks, same_sent_dimension, short_matrix}
use Rattle.messages.specs.MessageRules.{message_rules}
use Rattle.words.specs.Answers.{bit_rules, roles_rules, roles_fault, roles_answer, roles_after, syndrome_fault, syndrome_answer, syndrome_after}
use Rattle.words.specs.Answers.{encode_fault, encode_answer, encode_after, message_fault, message_answer, message_after}
use Rattle.gears.specs.Rows.{is_row, row_bits, row_message, gear_in, lamp_in, is_row_message, row_of}
use Rattle.nearest.proofs.SameRepair.{same_repairable, same_repaired}
use Rattle.nearest.specs.Repair.{distance, repaired_of}
use Rattle.nearest.specs.Turned.{turned}
use Rattle.repair.specs.declared.Recovery.{Recovery}
use Rattle.repair.specs.declared.Recovery.TheVariants.{Repaired, Refused as NotRepaired}
use Rattle.repair.specs.Answers.{word_rules, turned_count, repair_fault, repair_answer, repair_after}
use Rattle.repair.specs.Decoding.{word_answer, word_after}
use Rattle.rows.specs.declared.Reading.{Reading}
use Rattle.rows.specs.declared.Reading.TheVariants.{Read, Refused as NotRead}
use Rattle.rows.specs.Answers.{write_rules, row_word, carried, read_rules, row_read, reading_answer}
use Rattle.rows.specs.Answers.{write_fault, write_answer, write_after, read_fault, read_answer, read_after}
use Rattle.simulation.specs.declared.Verdict.{Verdict}
use Rattle.simulation.specs.Steps.{Steps, step_count, gear_at, lamp_at, marks_at, steps_rules, is_made}
use Rattle.simulation.specs.Ride.{verdict_of, is_right, is_held, is_wrong, is_marked, step_word, step_verdict, verdict_at}
use Rattle.simulation.specs.Ride.{verdict_count, counts_up_to, ride_counts}
use Rattle.simulation.specs.Answers.{ride_lengths, marks_long, start_rules, ride_rules, ride_fault, ride_answer, start_fault, ride_after}
use Rattle.turns.specs.Turns.{is_tried, next_turn}
use Rattle.wire.specs.Wire.{recovery_code}
use Rattle.scheduler.specs.declared.Dash.{Dash}
use Rattle.scheduler.specs.State.{State, waits, word_at, turn, dash_rules, offer_rules, state_rules}
use Rattle.scheduler.specs.Round.{none, is_whole, is_other, leaves, answer_at, waiting_at, handed_at, round_waiting, round_next, round_answers, round_handed}
use Rattle.scheduler.specs.Answers.{start_lengths, start_fault as beganFault, start_answer, start_waiting, start_next}
use Rattle.scheduler.specs.Answers.{offer_lengths, offer_fault, offer_answer, offer_waiting, offer_words}
use Rattle.scheduler.specs.Answers.{round_lengths, round_words, round_rules, round_fault, round_answer, waiting_after, next_after, answers_after, handed_after}
use Rattle.demands.specs.Alike.{Alike}

-- ---- the calls' own rules and values come from the matrix

module _ {c₁ c₂ : Parameters} {h₁ cols₁ h₂ cols₂ : List ℕ} (M : SameMatrix c₁ h₁ cols₁ c₂ h₂ cols₂) where
  message_rules_lem : (long : ℕ) (bits : Bool) → message_rules (dimension c₁ h₁ cols₁) long bits ≡ message_rules (dimension c₂ h₂ cols₂) long bits
  message_rules_lem long bits = ap (λ (k : ℕ). message_rules k long bits) (same_dimension M)

  word_rules_lem : (received : List ℕ) → word_rules c₁ h₁ cols₁ received ≡ word_rules c₂ h₂ cols₂ received
  unfolding word_rules
  word_rules_lem received = ap (λ (b : Bool). (8 unless all_bits received) ∷ (10 unless b) ∷ []) (same_repairable M received)

  turned_count_lem : (received : List ℕ) → turned_count c₁ h₁ cols₁ received ≡ turned_count c₂ h₂ cols₂ received
  unfolding turned_count
  turned_count_lem received = ap₂ (λ (n : ℕ) (w : List ℕ). distance n received w) M.columns (same_repaired M received)

  write_rules_lem : (gear lamp : ℕ) → write_rules c₁ h₁ cols₁ gear lamp ≡ write_rules c₂ h₂ cols₂ gear lamp
  unfolding write_rules
  write_rules_lem gear lamp = ap (λ (k : ℕ). (12 unless leb row_bits k) ∷ (11 unless is_row gear lamp) ∷ []) (same_dimension M)

  row_word_lem : (gear lamp : ℕ) → row_word c₁ h₁ cols₁ gear lamp ≡ row_word c₂ h₂ cols₂ gear lamp
  unfolding row_word
  row_word_lem gear lamp =
      same_encoding M (row_message (dimension c₁ h₁ cols₁) gear lamp)
      ∙ ap (λ (k : ℕ). encoding_of c₂ h₂ cols₂ (row_message k gear lamp)) (same_dimension M)

  same_carried : (received : List ℕ) → carried c₁ h₁ cols₁ received ≡ carried c₂ h₂ cols₂ received
  unfolding carried
  same_carried received = same_messages M (repaired_of c₁ h₁ cols₁ received) ∙ ap (message_of c₂ h₂ cols₂) (same_repaired M received)

  read_rules_lem : (received : List ℕ) → read_rules c₁ h₁ cols₁ received ≡ read_rules c₂ h₂ cols₂ received
  unfolding read_rules
  read_rules_lem received =
      ap₂ (λ (k : ℕ) (rules : List Rule). (12 unless leb row_bits k) ∷ rules) (same_dimension M)
      (ap₂ (λ (rules : List Rule) (b : Bool). rules ++ (11 unless b) ∷ []) (word_rules_lem received) (ap is_row_message (same_carried received)))

  row_read_lem : (received : List ℕ) → row_read c₁ h₁ cols₁ received ≡ row_read c₂ h₂ cols₂ received
  unfolding row_read
  row_read_lem received =
      ap₂ (λ (l : List ℕ) (n : ℕ). Read (row_of (gear_in l) (lamp_in l)) n) (same_carried received) (turned_count_lem received)

  reading : (received : List ℕ) → reading_answer c₁ h₁ cols₁ received ≡ reading_answer c₂ h₂ cols₂ received
  unfolding reading_answer
  reading received =
      ap₂ (λ (rules : List Rule) (value : Reading). unless_refused (fault rules) NotRead value) (read_rules_lem received) (row_read_lem received)

  start_rules_lem : start_rules c₁ h₁ cols₁ ≡ start_rules c₂ h₂ cols₂
  unfolding start_rules
  start_rules_lem = ap (λ (k : ℕ). (12 unless leb row_bits k) ∷ []) (same_dimension M)

  ride_rules_lem : (σ : Steps) → ride_rules c₁ h₁ cols₁ σ ≡ ride_rules c₂ h₂ cols₂ σ
  unfolding ride_rules
  ride_rules_lem σ = ap₂ (λ (rules : List Rule) (n : ℕ). rules ++ steps_rules n σ (step_count σ)) start_rules_lem M.columns

  verdict : (σ : Steps) (i : ℕ) → verdict_at c₁ h₁ cols₁ σ i ≡ verdict_at c₂ h₂ cols₂ σ i
  unfolding verdict_at step_verdict step_word
  verdict σ i =
      ap (verdict_of (gear_at σ i) (lamp_at σ i))
      (reading (turned (length cols₁) (is_marked (marks_at (length cols₁) σ i)) (row_word c₁ h₁ cols₁ (gear_at σ i) (lamp_at σ i)))
      ∙ ap₂ (λ (n : ℕ) (w : List ℕ). reading_answer c₂ h₂ cols₂ (turned n (is_marked (marks_at n σ i)) w)) M.columns
      (row_word_lem (gear_at σ i) (lamp_at σ i)))

  ride_counts_lem : (σ : Steps) → ride_counts c₁ h₁ cols₁ σ ≡ ride_counts c₂ h₂ cols₂ σ
  unfolding ride_counts counts_up_to verdict_count
  ride_counts_lem σ = ap₂ counted M.columns (fun_ext (verdict σ))
    where
      ended : (Verdict → Bool) → ℕ → (ℕ → Verdict) → ℕ
      ended p n v = count (step_count σ) (λ i. is_made n σ i && p (v i))

      counted : ℕ → (ℕ → Verdict) → List ℕ
      counted n v = count (step_count σ) (is_made n σ) ∷ ended is_right n v ∷ ended is_held n v ∷ ended is_wrong n v ∷ []

  -- ---- a round

  code_words : is_code_word c₁ h₁ cols₁ ≡ is_code_word c₂ h₂ cols₂
  code_words = fun_ext (same_code_words M)

  others : (d : Dash) (σ : State) → is_other c₁ h₁ cols₁ d σ ≡ is_other c₂ h₂ cols₂ d σ
  unfolding is_other
  others d σ =
      ap₂ (λ (n : ℕ) (f : List ℕ → Bool). λ (p : ℕ). waits σ p && not (f (word_at n σ p))) M.columns code_words

  leaving : (d : Dash) (σ : State) → leaves c₁ h₁ cols₁ d σ ≡ leaves c₂ h₂ cols₂ d σ
  unfolding leaves is_whole
  leaving d σ =
      ap₂ (λ (n : ℕ) (f : List ℕ → Bool).
      λ (p : ℕ). (waits σ p && f (word_at n σ p)) || is_tried d.senders (turn σ) d.repairs (is_other c₁ h₁ cols₁ d σ) p)
      M.columns code_words
      ∙ ap (λ (g : ℕ → Bool). λ (p : ℕ). is_whole c₂ h₂ cols₂ d σ p || is_tried d.senders (entry_of σ.next 0) d.repairs g p) (others d σ)

  word_answer_lem : word_answer c₁ h₁ cols₁ ≡ word_answer c₂ h₂ cols₂
  unfolding word_answer
  word_answer_lem =
      fun_ext
      (λ w. ap₂ (λ (rules : List Rule) (k : ℕ). unless_refused (fault rules) NotRepaired (Repaired k)) (word_rules_lem w) (turned_count_lem w))

  word_after_lem : word_after c₁ h₁ cols₁ ≡ word_after c₂ h₂ cols₂
  unfolding word_after
  word_after_lem =
      fun_ext
      (λ w.
      ap₂ (λ (rules : List Rule) (x : List ℕ). λ (old : List ℕ). unless_refused (fault rules) (λ k. old) x) (word_rules_lem w) (same_repaired M w))

  round_waiting_lem : (d : Dash) (σ : State) → round_waiting c₁ h₁ cols₁ d σ ≡ round_waiting c₂ h₂ cols₂ d σ
  unfolding round_waiting waiting_at
  round_waiting_lem d σ = ap (λ (g : ℕ → Bool). tabulate d.senders (λ p. cond (g p) 0 (entry_of σ.waiting p))) (leaving d σ)

  round_next_lem : (d : Dash) (σ : State) → round_next c₁ h₁ cols₁ d σ ≡ round_next c₂ h₂ cols₂ d σ
  unfolding round_next
  round_next_lem d σ = ap (λ (g : ℕ → Bool). next_turn d.senders (entry_of σ.next 0) d.repairs g ∷ []) (others d σ)

  round_answers_lem : (d : Dash) (σ : State) → round_answers c₁ h₁ cols₁ d σ ≡ round_answers c₂ h₂ cols₂ d σ
  unfolding round_answers answer_at
  round_answers_lem d σ =
      ap (λ (g : ℕ → Bool).
      tabulate d.senders (λ p. cond (g p) (recovery_code (word_answer c₁ h₁ cols₁ (word_at (length cols₁) σ p))) none)) (leaving d σ)
      ∙ ap₂ (λ (n : ℕ) (f : List ℕ → Recovery).
      tabulate d.senders (λ p. cond (leaves c₂ h₂ cols₂ d σ p) (recovery_code (f (word_at n σ p))) none)) M.columns word_answer_lem

  round_handed_lem : (d : Dash) (σ : State) (handed : List ℕ) → round_handed c₁ h₁ cols₁ d σ handed ≡ round_handed c₂ h₂ cols₂ d σ handed
  unfolding round_handed handed_at
  round_handed_lem d σ handed =
      ap (λ (g : ℕ → Bool).
      joined d.senders
      (λ p. cond (g p) (word_after c₁ h₁ cols₁ (word_at (length cols₁) σ p) (part (length cols₁) handed p)) (part (length cols₁) handed p)))
      (leaving d σ)
      ∙ ap₂ (λ (n : ℕ) (f : List ℕ → List ℕ → List ℕ).
      joined d.senders (λ p. cond (leaves c₂ h₂ cols₂ d σ p) (f (word_at n σ p) (part n handed p)) (part n handed p)))
      M.columns word_after_lem

  round_rules_lem : (d : Dash) (σ : State) → round_rules d σ cols₁ ≡ round_rules d σ cols₂
  round_rules_lem d σ = ap (λ (n : ℕ). dash_rules d ++ state_rules d n σ) M.columns

-- ---- the calls

-- What it takes beside the same marks: as many roots; the same number from the rules of the choice, `full` being the test of the lengths of what has
-- an entry for each place; and, where the choice fits the code, the same matrix of all columns.
pub record Matched (c₁ : Parameters) (h₁ : List ℕ) (k₁ : Choice) (c₂ : Parameters) (h₂ : List ℕ) (k₂ : Choice) : Type 0 where
  pub rows : c₁.t ≡ c₂.t
  pub due : (others : Bool) (full : ℕ → Bool)
      → fault (choice_rules c₁ h₁ k₁ others (full (all_places c₁ k₁))) ≡ fault (choice_rules c₂ h₂ k₂ others (full (all_places c₂ k₂)))
  pub matrix : ChoiceFits c₁ k₁ → SameMatrix c₁ h₁ (all_columns c₁ k₁) c₂ h₂ (all_columns c₂ k₂)

-- the words after an offer, by the number of columns
by_places : (c : Parameters) (h : List ℕ) (s : Setting) (d : Dash) (sender : ℕ) (word waiting words : List ℕ)
    → offer_words c h s d sender word waiting words
    ≡ unless_refused (offer_fault c h s d sender word waiting words) (λ k. words) (with_part (length (columns_of c s)) words sender word)
unfolding offer_words
by_places c h s d sender word waiting words =
    ap (λ (n : ℕ). unless_refused (offer_fault c h s d sender word waiting words) (λ k. words) (with_part n words sender word))
    (sym (length_columns c s))

-- what a call takes from a code and its columns
abbrev Of : Type 0 → Type 0
Of B = Parameters → List ℕ → List ℕ → B

module _ {c₁ c₂ : Parameters} {h₁ h₂ : List ℕ} {k₁ k₂ : Choice} (P : Matched c₁ h₁ k₁ c₂ h₂ k₂) (hidden : List ℕ) where
  abbrev s₁ : Setting
  s₁ = shortened k₁ hidden

  abbrev s₂ : Setting
  s₂ = shortened k₂ hidden

  -- ---- what holds where the rules of the choice refuse nothing

  module _ (others : Bool) (full : ℕ → Bool) (none : fault (choice_rules c₁ h₁ k₁ others (full (all_places c₁ k₁))) ≡ 0) where
    all_matrix : SameMatrix c₁ h₁ (all_columns c₁ k₁) c₂ h₂ (all_columns c₂ k₂)
    all_matrix = P.matrix (choice_accepted c₁ h₁ k₁ others (full (all_places c₁ k₁)) none).3

    -- `full` tests the length of the marks too
    all_marked : ((n : ℕ) → full n ≡ true → length hidden ≡ n) → length hidden ≡ length (all_columns c₂ k₂)
    all_marked tests =
        tests (all_places c₁ k₁) (choice_accepted c₁ h₁ k₁ others (full (all_places c₁ k₁)) none).1 ∙ sym (length_all c₁ k₁) ∙ all_matrix.columns

  -- so that the marks are refused alike
  marks_due : (others : Bool) (full : ℕ → Bool) (words : Bool) → ((n : ℕ) → full n ≡ true → length hidden ≡ n)
      → fault (choice_rules c₁ h₁ k₁ others (full (all_places c₁ k₁)) ++ mark_rules c₁ h₁ (all_columns c₁ k₁) hidden words)
      ≡ fault (choice_rules c₂ h₂ k₂ others (full (all_places c₂ k₂)) ++ mark_rules c₂ h₂ (all_columns c₂ k₂) hidden words)
  marks_due others full words tests =
      fault_alike (choice_rules c₁ h₁ k₁ others (full (all_places c₁ k₁))) (choice_rules c₂ h₂ k₂ others (full (all_places c₂ k₂)))
      (mark_rules c₁ h₁ (all_columns c₁ k₁) hidden words) (mark_rules c₂ h₂ (all_columns c₂ k₂) hidden words)
      (choice_numbered c₁ h₁ k₁ others (full (all_places c₁ k₁))) (choice_numbered c₂ h₂ k₂ others (full (all_places c₂ k₂)))
      (P.due others full) (λ none. ap fault (same_marks (all_matrix others full none) hidden (all_marked others full none tests) words))

  -- the same number is due from the rules before a call's own
  pub setting_due : (others words : Bool) → fault (setting_rules c₁ h₁ s₁ others words) ≡ fault (setting_rules c₂ h₂ s₂ others words)
  unfolding setting_rules
  setting_due others words = marks_due others (eqb (length hidden)) words (λ n. eqb-true (length hidden) n)

  -- what a call takes from the columns that are sent is the same where the matrix is
  abbrev FromMatrix : {B : Type 0} → Of B → Type 0
  FromMatrix f = SameMatrix c₁ h₁ (columns_of c₁ s₁) c₂ h₂ (columns_of c₂ s₂) → f c₁ h₁ (columns_of c₁ s₁) ≡ f c₂ h₂ (columns_of c₂ s₂)

  matrix : (others words : Bool) → fault (setting_rules c₁ h₁ s₁ others words) ≡ 0 → SameMatrix c₁ h₁ (columns_of c₁ s₁) c₂ h₂ (columns_of c₂ s₂)
  unfolding setting_rules columns_of
  matrix others words none =
      let full : ℕ → Bool = eqb (length hidden) in
      let first = first_holds (choice_rules c₁ h₁ k₁ others (full (all_places c₁ k₁))) (mark_rules c₁ h₁ (all_columns c₁ k₁) hidden words) none in
      short_matrix (all_matrix others full first) hidden (all_marked others full first (λ n. eqb-true (length hidden) n))

  -- a call, by its own rules and its value
  call : {B : Type 0} (others words : Bool) (own : Of (List Rule)) (refused : ℕ → B) (value : Of B) → FromMatrix own → FromMatrix value
      → unless_refused (fault (setting_rules c₁ h₁ s₁ others words ++ own c₁ h₁ (columns_of c₁ s₁))) refused (value c₁ h₁ (columns_of c₁ s₁))
      ≡ unless_refused (fault (setting_rules c₂ h₂ s₂ others words ++ own c₂ h₂ (columns_of c₂ s₂))) refused (value c₂ h₂ (columns_of c₂ s₂))
  call others words own refused value same_own same_value_lem =
      let rules₁ : List Rule = setting_rules c₁ h₁ s₁ others words in
      let rules₂ : List Rule = setting_rules c₂ h₂ s₂ others words in
      let own₁ : List Rule = own c₁ h₁ (columns_of c₁ s₁) in
      let own₂ : List Rule = own c₂ h₂ (columns_of c₂ s₂) in
      answer_alike refused (value c₁ h₁ (columns_of c₁ s₁)) (value c₂ h₂ (columns_of c₂ s₂))
      (fault_alike rules₁ rules₂ own₁ own₂ (setting_numbered c₁ h₁ s₁ others words) (setting_numbered c₂ h₂ s₂ others words)
      (setting_due others words) (λ none. ap fault (same_own (matrix others words none))))
      (λ none. same_value_lem (matrix others words (first_holds rules₁ own₁ none)))

  -- roles are those of all columns, and have no rules of their own
  roles_call : {B : Type 0} (out : List ℕ) (refused : ℕ → B) (value : Of B)
      → (SameMatrix c₁ h₁ (all_columns c₁ k₁) c₂ h₂ (all_columns c₂ k₂) → length hidden ≡ length (all_columns c₂ k₂)
      → value c₁ h₁ (all_columns c₁ k₁) ≡ value c₂ h₂ (all_columns c₂ k₂))
      → unless_refused (roles_fault c₁ h₁ s₁ out) refused (value c₁ h₁ (all_columns c₁ k₁))
      ≡ unless_refused (roles_fault c₂ h₂ s₂ out) refused (value c₂ h₂ (all_columns c₂ k₂))
  unfolding roles_fault roles_rules
  roles_call out refused value same_value_lem =
      let full : ℕ → Bool = λ n. eqb (length hidden) n && eqb (length out) n in
      let tests : (n : ℕ) → full n ≡ true → length hidden ≡ n =
      λ n t. eqb-true (length hidden) n (both_true (eqb (length hidden) n) (eqb (length out) n) t).0 in
      answer_alike refused (value c₁ h₁ (all_columns c₁ k₁)) (value c₂ h₂ (all_columns c₂ k₂)) (marks_due true full true tests)
      (λ none.
      let first =
      first_holds (choice_rules c₁ h₁ k₁ true (full (all_places c₁ k₁))) (mark_rules c₁ h₁ (all_columns c₁ k₁) hidden true) none in
      same_value_lem (all_matrix true full first) (all_marked true full first tests))

  -- the syndrome's buffer of t is tested with the code
  syndrome_call : {B : Type 0} (word out : List ℕ) (refused : ℕ → B) (value : Of B) → FromMatrix value
      → unless_refused (syndrome_fault c₁ h₁ s₁ word out) refused (value c₁ h₁ (columns_of c₁ s₁))
      ≡ unless_refused (syndrome_fault c₂ h₂ s₂ word out) refused (value c₂ h₂ (columns_of c₂ s₂))
  unfolding syndrome_fault
  syndrome_call word out refused value same_value_lem =
      ap (λ (t : ℕ).
      unless_refused (fault (setting_rules c₁ h₁ s₁ (eqb (length out) t) (eqb (length word) (places s₁)) ++ bit_rules word)) refused
      (value c₁ h₁ (columns_of c₁ s₁))) P.rows
      ∙ call (eqb (length out) c₂.t) (eqb (length word) (places s₂)) (λ c h cols. bit_rules word) refused value (λ M. refl) same_value_lem

  -- the length of a word
  abbrev n : ℕ
  n = places s₁

  pub answered_alike : Alike c₁ h₁ (shortened k₁ hidden) c₂ h₂ (shortened k₂ hidden)
  unfolding roles_answer roles_after syndrome_answer syndrome_after encode_fault encode_answer encode_after message_fault message_answer message_after
      repair_fault repair_answer repair_after write_fault write_answer write_after read_fault read_answer read_after ride_fault ride_answer start_fault ride_after
      beganFault start_answer start_waiting start_next offer_fault offer_answer offer_waiting offer_words
      round_fault round_answer waiting_after next_after answers_after handed_after
  answered_alike =
      record {
        roles = λ out. (
          roles_call out NotCounted (λ c h cols. Count (sent_dimension c h cols hidden)) (λ M long. ap Count (same_sent_dimension M hidden long)),
          roles_call out (λ k. out) roles_of (λ M long. same_roles M),
        );
        syndrome = λ word out. (
          syndrome_call word out Refused (λ c h cols. Done) (λ M. refl),
          syndrome_call word out (λ k. out) (λ c h cols. syndrome_of c h cols word) (λ M. same_syndrome M word),
        );
        encode = λ message word.
            let own : Of (List Rule) = λ c h cols. message_rules (dimension c h cols) (length message) (all_bits message) in
            let same_own : FromMatrix own = λ M. message_rules_lem M (length message) (all_bits message) in (
              call true (eqb (length word) n) own Refused (λ c h cols. Done) same_own (λ M. refl),
              call true (eqb (length word) n) own (λ k. word) (λ c h cols. encoding_of c h cols message) same_own (λ M. same_encoding M message),
            );
        message = λ word out.
            let own : Of (List Rule) = λ c h cols. message_rules (dimension c h cols) (length out) (all_bits word) in
            let same_own : FromMatrix own = λ M. message_rules_lem M (length out) (all_bits word) in (
              call true (eqb (length word) n) own Refused (λ c h cols. Done) same_own (λ M. refl),
              call true (eqb (length word) n) own (λ k. out) (λ c h cols. message_of c h cols word) same_own (λ M. same_messages M word),
            );
        repair = λ received repaired.
            let words : Bool = eqb (length received) n && eqb (length repaired) n in
            let own : Of (List Rule) = λ c h cols. word_rules c h cols received in
            let same_own : FromMatrix own = λ M. word_rules_lem M received in (
              call true words own NotRepaired (λ c h cols. Repaired (turned_count c h cols received)) same_own
                  (λ M. ap Repaired (turned_count_lem M received)),
              call true words own (λ k. repaired) (λ c h cols. repaired_of c h cols received) same_own (λ M. same_repaired M received),
            );
        write_row = λ gear lamp word.
            let own : Of (List Rule) = λ c h cols. write_rules c h cols gear lamp in
            let same_own : FromMatrix own = λ M. write_rules_lem M gear lamp in (
              call true (eqb (length word) n) own Refused (λ c h cols. Done) same_own (λ M. refl),
              call true (eqb (length word) n) own (λ k. word) (λ c h cols. row_word c h cols gear lamp) same_own (λ M. row_word_lem M gear lamp),
            );
        read_row = λ received repaired.
            let words : Bool = eqb (length received) n && eqb (length repaired) n in
            let own : Of (List Rule) = λ c h cols. read_rules c h cols received in
            let same_own : FromMatrix own = λ M. read_rules_lem M received in (
              call true words own NotRead (λ c h cols. row_read c h cols received) same_own (λ M. row_read_lem M received),
              call true words own (λ k. repaired) (λ c h cols. repaired_of c h cols received) same_own (λ M. same_repaired M received),
            );
        ride = λ σ counts. (
          call (ride_lengths σ counts) (marks_long σ n) (λ c h cols. ride_rules c h cols σ) Refused (λ c h cols. Done) (λ M. ride_rules_lem M σ) (λ M. refl),
          call (ride_lengths σ counts) (marks_long σ n) start_rules (λ k. counts) (λ c h cols. ride_counts c h cols σ) start_rules_lem (λ M. ride_counts_lem M σ),
        );
        start = λ d waiting next.
            let lengths : Bool = start_lengths d waiting next in
            let own : Of (List Rule) = λ c h cols. dash_rules d in (
              call lengths true own Refused (λ c h cols. Done) (λ M. refl) (λ M. refl),
              call lengths true own (λ k. waiting) (λ c h cols. replicate d.senders 0) (λ M. refl) (λ M. refl),
              call lengths true own (λ k. next) (λ c h cols. 0 ∷ []) (λ M. refl) (λ M. refl),
            );
        offer = λ d sender word waiting words.
            let others : Bool = eqb (length waiting) d.senders in
            let lengths : Bool = offer_lengths d word words n in
            let own : Of (List Rule) = λ c h cols. dash_rules d ++ offer_rules d sender word waiting in (
              call others lengths own Refused (λ c h cols. Done) (λ M. refl) (λ M. refl),
              call others lengths own (λ k. waiting) (λ c h cols. set waiting sender 1) (λ M. refl) (λ M. refl),
              by_places c₁ h₁ s₁ d sender word waiting words
                  ∙ call others lengths own (λ k. words) (λ c h cols. with_part (length cols) words sender word) (λ M. refl)
                  (λ M. ap (λ (n : ℕ). with_part n words sender word) M.columns)
                  ∙ sym (by_places c₂ h₂ s₂ d sender word waiting words),
            );
        round = λ d σ answers handed.
            let others : Bool = round_lengths d σ answers in
            let lengths : Bool = round_words d σ handed n in
            let own : Of (List Rule) = λ c h cols. round_rules d σ cols in
            let same_own : FromMatrix own = λ M. round_rules_lem M d σ in (
              call others lengths own Refused (λ c h cols. Done) same_own (λ M. refl),
              call others lengths own (λ k. σ.waiting) (λ c h cols. round_waiting c h cols d σ) same_own (λ M. round_waiting_lem M d σ),
              call others lengths own (λ k. σ.next) (λ c h cols. round_next c h cols d σ) same_own (λ M. round_next_lem M d σ),
              call others lengths own (λ k. answers) (λ c h cols. round_answers c h cols d σ) same_own (λ M. round_answers_lem M d σ),
              call others lengths own (λ k. handed) (λ c h cols. round_handed c h cols d σ handed) same_own (λ M. round_handed_lem M d σ handed),
            );
      }
