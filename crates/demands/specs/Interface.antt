-- The C interface: every value is below 2^31, and every refusal is 2^31 or more, so that C tells them apart by the sign. One law for each function of
-- include/zovunelith.h, under its name.
use Rattle.std.specs.Prelude.{◌≡◌, ◌≢◌, Bool, false, ◌&&◌, ℕ, zero, suc, ◌-◌, ◌%◌, ◌^◌, ◌<◌, ◌≤◌}
use Rattle.std.proofs.Math.Path.{refl, subst}
use Rattle.std.proofs.Common.{sym, ap, ◌∙◌, mod-eq_of_lt, arith, pow_mono}
use Rattle.std.proofs.Math.Bool.{true}
use mathlib.Core.List.{List, [], ◌∷◌, ◌++◌, append-nil}
use Rattle.std.proofs.Math.Dec.{eqb}
use Rattle.std.proofs.Math.ListN.{length}
use borrow.Author.Tests.{eqb-true}
use Rattle.algebra.specs.Flags.{both_true}
use Rattle.algebra.specs.PlaceLaws.{count-le}
use Rattle.algebra.specs.Xor.{◌⊕◌}
use Rattle.algebra.specs.XorLaws.{⊕-lt}
use Rattle.refusals.specs.Answered.{value_none, refused_due, done_apart, same_outcome, counted_apart, same_counted}
use Rattle.refusals.specs.Counted.{Count, Refused as NotCounted}
use Rattle.refusals.specs.Outcome.{Done, Refused}
use Rattle.refusals.specs.Rules.{Rule, ◌unless◌, fault, unless_refused}
use Rattle.refusals.specs.RuleLaws.{first_holds, hold}
use Rattle.field.specs.Found.{Element, Refused as NoElement}
use Rattle.field.specs.Answers.{element_rules, element_fault, pair_fault, sum_answer, product_answer, inverse_answer}
use Rattle.field.proofs.GfLaws.{gf_is_field, gf_laws}
use Rattle.field.specs.Product.{product, inverse}
use Rattle.field.specs.Range.{is_width, is_element}
use Rattle.field.specs.RangeLaws.{width_is, element_is}
use Rattle.field.specs.Ring.{product_lt}
use Rattle.field.specs.Words.{widest, word}
use Rattle.slices.specs.Bits.{all_bits}
use Rattle.blocks.specs.Answers.{size_rules, block_rules, pair_rules, inverse_rules, pair_fault as blockPairFault, inverse_fault as blockInverseFault}
use Rattle.blocks.specs.Answers.{sum_answer as blockSumAnswer, product_answer as blockProductAnswer, inverse_answer as blockInverseAnswer}
use Rattle.formula.specs.Letters.{Lent}
use Rattle.formula.specs.Reading.{TextReading}
use Rattle.formula.specs.Answers.{lent_rules, reading_rules, formula_rules, formula_fault, formula_answer}
use Rattle.signature.specs.Tests.{signature_rules}
use Rattle.params.specs.declared.Parameters.{Parameters}
use Rattle.params.proofs.Accepted.{n_short}
use Rattle.params.specs.Code.{Accepted, shape_rules, code_rules}
use Rattle.essence.specs.Answers.{shape_rules as essenceShapeRules, essence_rules, essence_fault, essence_answer}
use Rattle.essence.specs.Answers.{value_rules, signature_fault, signature_answer}
use Rattle.codes.specs.Sameness.{Refused as NotCompared}
use Rattle.codes.specs.Answers.{check_fault, check_answer, lowest, compared, card_rules, same_fault, same_answer}
use Rattle.codes.specs.Lowest.{lowest-le}
use Rattle.codes.specs.Same.{same_code}
use Rattle.parity.specs.Columns.{is_message_column, dimension}
use Rattle.columns.specs.Choice.{Choice, Choice.whole_code, Choice.selection, all_places, all_columns, selection_rules, choice_rules}
use Rattle.columns.proofs.ChoiceLaws.{choice_accepted, all_short}
use Rattle.shortened.specs.Fits.{Fits}
use Rattle.shortened.specs.Marks.{is_sent, sent_dimension, mark_rules}
use Rattle.shortened.specs.Setting.{Setting, short_code, short_selection, places, columns_of, is_marked, setting_rules}
use Rattle.shortened.proofs.SettingLaws.{setting_accepted, length_columns, places_short, fits_columns}
use Rattle.messages.specs.MessageRules.{message_rules}
use Rattle.words.specs.Answers.{bit_rules, roles_rules, roles_fault, roles_answer, syndrome_fault, syndrome_answer}
use Rattle.words.specs.Answers.{encode_fault, encode_answer, message_fault, message_answer}
use Rattle.nearest.specs.Repair.{differs, distance, repaired_of}
use Rattle.repair.specs.declared.Recovery.TheVariants.{Repaired, Refused as NotRepaired}
use Rattle.repair.specs.Answers.{word_rules, turned_count, repair_fault, repair_answer}
use Rattle.gears.specs.declared.Row.{Row}
use Rattle.rows.specs.declared.Reading.TheVariants.{Read, Refused as NotRead}
use Rattle.rows.specs.Answers.{write_rules, read_rules, row_read, write_fault, write_answer, read_fault, read_answer}
use Rattle.rows.proofs.Laws.{read_apart, same_reading}
use Rattle.simulation.specs.Steps.{Steps, step_count, step_rules, rules_at, steps_rules}
use Rattle.simulation.specs.Answers.{ride_lengths, marks_long, start_rules, ride_rules, ride_fault, ride_answer}
use Rattle.sheets.specs.Sheet.{sheet_parameters, sheet_h}
use Rattle.sheets.specs.Fault.{sheet_rules, sheet_fault}
use Rattle.sheets.specs.Laws.{sheet_accepted}
use Rattle.lines.specs.Lengths.{length_listing}
use Rattle.listing.specs.Answers.{room_rules, sheet_listing, listing_fault, listing_answer}
use Rattle.wire.specs.Wire.{minus, element_code, outcome_code, sameness_code, counted_code, recovery_code, reading_code}
use Rattle.wire.specs.Readings.{reading_whole}
use Rattle.parity.specs.Selected.{columns_short}
use Rattle.repair.specs.Decoding.{word_answer}
use Rattle.scheduler.specs.declared.Dash.{Dash}
use Rattle.scheduler.specs.State.{State, dash_rules, offer_rules, state_rules}
use Rattle.scheduler.specs.Round.{none}
use Rattle.scheduler.specs.Answers.{start_lengths, start_fault, start_answer, offer_lengths, offer_fault, offer_answer}
use Rattle.scheduler.specs.Answers.{round_lengths, round_words, round_rules, round_fault, round_answer}
use Rattle.demands.specs.Lowest.{up_to, fault_up_to, up_to_both}
use Rattle.demands.specs.Outcomes.{element_apart, same_element, repaired_apart, same_recovery}
use Rattle.demands.specs.Outcomes.{compared_apart, same_sameness}

-- the greatest number of 01's table
abbrev pub greatest_number : ℕ
greatest_number = 20

-- C reads a value as it is, and a refusal as a negative number
abbrev pub IsValue : ℕ → Type 0
IsValue x = x < 2 ^ 31

abbrev pub IsRefusal : ℕ → Type 0
IsRefusal x = (2 ^ 31 ≤ x) × (x < 2 ^ 32)

pub minus_refuses : (k : ℕ) → k ≢ 0 → k ≤ greatest_number → IsRefusal (minus k)
minus_refuses k ne l =
    let whole : (2 ^ 32 - k) % 2 ^ 32 ≡ 2 ^ 32 - k = mod-eq_of_lt (below k ne) in
    (subst (λ (x : ℕ). 2 ^ 31 ≤ x) (sym whole) (omega arith), subst (λ (x : ℕ). x < 2 ^ 32) (sym whole) (below k ne))
  where
    below : (k : ℕ) → k ≢ 0 → 2 ^ 32 - k < 2 ^ 32
    below zero ne = absurd (ne refl)
    below (suc k) ne = omega arith

-- ---- a call whose answer crosses by `code`

abbrev pub ToldApart : {A : Type 0} → (A → ℕ) → A → (ℕ → A) → A → Type 0
ToldApart code answer refused value = (answer ≡ value → IsValue (code answer)) × ((k : ℕ) → answer ≡ refused k → IsRefusal (code answer))

module _ {A : Type 0} (code : A → ℕ) (refused : ℕ → A) (value : A) (apart : (k : ℕ) → refused k ≢ value)
    (same : (i j : ℕ) → refused i ≡ refused j → i ≡ j) (crosses : (k : ℕ) → code (refused k) ≡ minus k) (number : ℕ)
    (in_table : number ≤ greatest_number) (small : number ≡ 0 → IsValue (code value)) where
  told_apart : ToldApart code (unless_refused number refused value) refused value
  told_apart = (
    λ e. subst IsValue (ap code (sym e)) (small (value_none refused value apart number e)),
    λ k e.
        let (ne, is) = refused_due refused value apart same number e in
        subst IsRefusal (sym (crosses k) ∙ ap code (sym e))
        (minus_refuses k (λ z. ne (is ∙ z)) (subst (λ (i : ℕ). i ≤ greatest_number) is in_table)),
  )

-- ---- outcomes

outcome_told : (rules : List Rule) → up_to greatest_number rules ≡ true → ToldApart outcome_code (unless_refused (fault rules) Refused Done) Refused Done
outcome_told rules f =
    told_apart outcome_code Refused Done done_apart same_outcome (λ k. refl) (fault rules) (fault_up_to greatest_number rules f) (λ z. omega arith)

module _ (m : ℕ) (a b out : List ℕ) where
  pub zov_block_sum : ToldApart outcome_code (blockSumAnswer m a b out) Refused Done
  unfolding blockSumAnswer blockPairFault pair_rules size_rules
  zov_block_sum = outcome_told (pair_rules m a b (length out)) refl

  pub zov_block_product : ToldApart outcome_code (blockProductAnswer m a b out) Refused Done
  unfolding blockProductAnswer blockPairFault pair_rules size_rules
  zov_block_product = outcome_told (pair_rules m a b (length out)) refl

pub zov_block_inverse : (m : ℕ) (a out : List ℕ) → ToldApart outcome_code (blockInverseAnswer m a out) Refused Done
unfolding blockInverseAnswer blockInverseFault inverse_rules block_rules size_rules
zov_block_inverse m a out = outcome_told (inverse_rules m a (length out)) refl

-- at whatever the text reads as
pub zov_formula : (m : ℕ) (β : Lent) (reading : TextReading) (out : List ℕ) → ToldApart outcome_code (formula_answer m β reading out) Refused Done
unfolding formula_answer formula_fault formula_rules lent_rules reading_rules
zov_formula m β reading out = outcome_told (formula_rules m β reading (length out)) refl

pub zov_essence : (m : ℕ) (h out : List ℕ) → ToldApart outcome_code (essence_answer m h out) Refused Done
unfolding essence_answer essence_fault essence_rules essenceShapeRules signature_rules
zov_essence m h out = outcome_told (essence_rules m h (length out)) refl

pub zov_signature : (m : ℕ) (v out : List ℕ) → ToldApart outcome_code (signature_answer m v out) Refused Done
unfolding signature_answer signature_fault value_rules essenceShapeRules
zov_signature m v out = outcome_told (value_rules m v (length out)) refl

-- ---- calls on codes and on words, at any setting: the functions for the whole code and those for a selection

marked_in_table : (c : Parameters) (h : List ℕ) (k : Choice) (hidden : List ℕ) (others full words : Bool) (more : List Rule)
    → up_to greatest_number more ≡ true
    → up_to greatest_number ((choice_rules c h k others full ++ mark_rules c h (all_columns c k) hidden words) ++ more) ≡ true
unfolding choice_rules code_rules shape_rules signature_rules selection_rules mark_rules
marked_in_table c h whole_code hidden others full words more u = u
marked_in_table c h (selection blocks shifts) hidden others full words more u = u

in_table : (c : Parameters) (h : List ℕ) (s : Setting) (others words : Bool) (more : List Rule) → up_to greatest_number more ≡ true
    → up_to greatest_number (setting_rules c h s others words ++ more) ≡ true
unfolding setting_rules
in_table c h s others words more u = marked_in_table c h s.choice s.hidden others (is_marked c s) words more u

-- with no rules of its own
card_in_table : (c : Parameters) (h hidden : List ℕ) (others : Bool) → up_to greatest_number (setting_rules c h (short_code hidden) others true) ≡ true
card_in_table c h hidden others =
    subst (λ (rules : List Rule). up_to greatest_number rules ≡ true) (append-nil (setting_rules c h (short_code hidden) others true))
    (in_table c h (short_code hidden) others true [] refl)

pub zov_check : (c : Parameters) (h hidden roots support : List ℕ) → ToldApart outcome_code (check_answer c h hidden roots support) Refused Done
unfolding check_answer check_fault
zov_check c h hidden roots support =
    let lent = eqb (length roots) c.n && eqb (length support) c.n in
    outcome_told (setting_rules c h (short_code hidden) lent true) (card_in_table c h hidden lent)

steps_in_table : (n : ℕ) (σ : Steps) (k : ℕ) → up_to greatest_number (steps_rules n σ k) ≡ true
unfolding steps_rules rules_at step_rules
steps_in_table n σ zero = refl
steps_in_table n σ (suc k) = up_to_both greatest_number (steps_rules n σ k) (rules_at n σ k) (steps_in_table n σ k) refl

module _ (c : Parameters) (h : List ℕ) (s : Setting) where
  syndrome_told : (word out : List ℕ) → ToldApart outcome_code (syndrome_answer c h s word out) Refused Done
  unfolding syndrome_answer syndrome_fault bit_rules
  syndrome_told word out =
      outcome_told (setting_rules c h s (eqb (length out) c.t) (eqb (length word) (places s)) ++ bit_rules word)
      (in_table c h s _ _ (bit_rules word) refl)

  encode_told : (message word : List ℕ) → ToldApart outcome_code (encode_answer c h s message word) Refused Done
  unfolding encode_answer encode_fault message_rules
  encode_told message word =
      let own = message_rules (dimension c h (columns_of c s)) (length message) (all_bits message) in
      outcome_told (setting_rules c h s true (eqb (length word) (places s)) ++ own) (in_table c h s _ _ own refl)

  message_told : (word message : List ℕ) → ToldApart outcome_code (message_answer c h s word message) Refused Done
  unfolding message_answer message_fault message_rules
  message_told word message =
      let own = message_rules (dimension c h (columns_of c s)) (length message) (all_bits word) in
      outcome_told (setting_rules c h s true (eqb (length word) (places s)) ++ own) (in_table c h s _ _ own refl)

  write_row_told : (gear lamp : ℕ) (word : List ℕ) → ToldApart outcome_code (write_answer c h s gear lamp word) Refused Done
  unfolding write_answer write_fault write_rules
  write_row_told gear lamp word =
      let own = write_rules c h (columns_of c s) gear lamp in
      outcome_told (setting_rules c h s true (eqb (length word) (places s)) ++ own) (in_table c h s _ _ own refl)

  ride_told : (σ : Steps) (counts : List ℕ) → ToldApart outcome_code (ride_answer c h s σ counts) Refused Done
  unfolding ride_answer ride_fault ride_rules start_rules
  ride_told σ counts =
      let own = ride_rules c h (columns_of c s) σ in
      outcome_told (setting_rules c h s (ride_lengths σ counts) (marks_long σ (places s)) ++ own)
      (in_table c h s _ _ own (steps_in_table (length (columns_of c s)) σ (step_count σ)))

  -- what is no more than the places of a word, of a call that is not refused
  count_value : (others words : Bool) (more : List Rule) → fault (setting_rules c h s others words ++ more) ≡ 0 → {x : ℕ} → x ≤ places s → IsValue x
  count_value others words more none l =
      let (o, w, A, F) = setting_accepted c h s others words (first_holds (setting_rules c h s others words) more none) in
      let short = places_short A s F in
      omega arith

  -- k is no more than the places, those that are hidden counted
  roles_value : (out : List ℕ) → roles_fault c h s out ≡ 0 → IsValue (sent_dimension c h (all_columns c s.choice) s.hidden)
  unfolding roles_fault roles_rules sent_dimension
  roles_value out none =
      let full = (is_marked c s && eqb (length out) (all_places c s.choice)) in
      let first = first_holds (choice_rules c h s.choice true full) (mark_rules c h (all_columns c s.choice) s.hidden true) none in
      let (o, lent, A, F) = choice_accepted c h s.choice true full first in
      let (marked, room) = both_true (eqb (length s.hidden) (all_places c s.choice)) (eqb (length out) (all_places c s.choice)) lent in
      let long : length s.hidden ≡ all_places c s.choice = eqb-true (length s.hidden) (all_places c s.choice) marked in
      let few = count-le (length s.hidden) (λ p. is_sent s.hidden p && is_message_column c h (all_columns c s.choice) p) in
      let short = all_short A s.choice F in
      omega (arith, few, long, short)

  roles_told : (out : List ℕ)
      → ToldApart counted_code (roles_answer c h s out) NotCounted (Count (sent_dimension c h (all_columns c s.choice) s.hidden))
  unfolding roles_answer roles_fault roles_rules
  roles_told out =
      let full = (is_marked c s && eqb (length out) (all_places c s.choice)) in
      let rules = choice_rules c h s.choice true full ++ mark_rules c h (all_columns c s.choice) s.hidden true in
      told_apart counted_code NotCounted (Count (sent_dimension c h (all_columns c s.choice) s.hidden)) (counted_apart _) same_counted (λ k. refl)
      (fault rules)
      (fault_up_to greatest_number rules
      (subst (λ (all : List Rule). up_to greatest_number all ≡ true) (append-nil rules)
      (marked_in_table c h s.choice s.hidden true full true [] refl)))
      (roles_value out)

  repair_told : (received repaired : List ℕ)
      → ToldApart recovery_code (repair_answer c h s received repaired) NotRepaired (Repaired (turned_count c h (columns_of c s) received))
  unfolding repair_answer repair_fault word_rules turned_count distance
  repair_told received repaired =
      let words = (eqb (length received) (places s) && eqb (length repaired) (places s)) in
      let own = word_rules c h (columns_of c s) received in
      let rules = setting_rules c h s true words ++ own in
      told_apart recovery_code NotRepaired (Repaired (turned_count c h (columns_of c s) received)) (repaired_apart _) same_recovery (λ k. refl)
      (fault rules) (fault_up_to greatest_number rules (in_table c h s true words own refl))
      (λ none.
      count_value true words own none
      (subst (λ (k : ℕ). turned_count c h (columns_of c s) received ≤ k) (length_columns c s)
      (count-le (length (columns_of c s)) (differs received (repaired_of c h (columns_of c s) received)))))

  -- ---- several senders

  senders_start_told : (d : Dash) (waiting next : List ℕ) → ToldApart outcome_code (start_answer c h s d waiting next) Refused Done
  unfolding start_answer start_fault dash_rules
  senders_start_told d waiting next =
      outcome_told (setting_rules c h s (start_lengths d waiting next) true ++ dash_rules d) (in_table c h s _ _ (dash_rules d) refl)

  senders_offer_told : (d : Dash) (sender : ℕ) (word waiting words : List ℕ)
      → ToldApart outcome_code (offer_answer c h s d sender word waiting words) Refused Done
  unfolding offer_answer offer_fault dash_rules offer_rules
  senders_offer_told d sender word waiting words =
      let own = dash_rules d ++ offer_rules d sender word waiting in
      outcome_told (setting_rules c h s (eqb (length waiting) d.senders) (offer_lengths d word words (places s)) ++ own)
      (in_table c h s _ _ own refl)

  senders_round_told : (d : Dash) (σ : State) (answers handed : List ℕ) → ToldApart outcome_code (round_answer c h s d σ answers handed) Refused Done
  unfolding round_answer round_fault dash_rules state_rules
  senders_round_told d σ answers handed =
      let own = round_rules d σ (columns_of c s) in
      outcome_told (setting_rules c h s (round_lengths d σ answers) (round_words d σ handed (places s)) ++ own) (in_table c h s _ _ own refl)

  -- a row that is read, and a refusal
  abbrev ReadToldApart : List ℕ → List ℕ → Type 0
  ReadToldApart received repaired =
      ((row : Row) (count : ℕ) → read_answer c h s received repaired ≡ Read row count → IsValue (reading_code (read_answer c h s received repaired)))
      × ((k : ℕ) → read_answer c h s received repaired ≡ NotRead k → IsRefusal (reading_code (read_answer c h s received repaired)))

  read_row_told : (received repaired : List ℕ) → ReadToldApart received repaired
  unfolding read_answer read_fault row_read read_rules word_rules
  read_row_told received repaired = (
    λ row count e. subst IsValue (ap reading_code (sym e)) (reading_whole c h s received repaired row count e).1,
    λ k e.
        let words = (eqb (length received) (places s) && eqb (length repaired) (places s)) in
        let own = read_rules c h (columns_of c s) received in
        let rules = setting_rules c h s true words ++ own in
        let (ne, is) = refused_due NotRead _ (read_apart _ _) same_reading (fault rules) e in
        subst IsRefusal (ap reading_code (sym e))
        (minus_refuses k (λ z. ne (is ∙ z))
        (subst (λ (i : ℕ). i ≤ greatest_number) is (fault_up_to greatest_number rules (in_table c h s true words own refl)))),
  )

module _ (c : Parameters) (h hidden : List ℕ) where
  pub zov_roles : (out : List ℕ)
      → ToldApart counted_code (roles_answer c h (short_code hidden) out) NotCounted (Count (sent_dimension c h (all_columns c whole_code) hidden))
  zov_roles = roles_told c h (short_code hidden)

  pub zov_syndrome : (word out : List ℕ) → ToldApart outcome_code (syndrome_answer c h (short_code hidden) word out) Refused Done
  zov_syndrome = syndrome_told c h (short_code hidden)

  pub zov_encode : (message word : List ℕ) → ToldApart outcome_code (encode_answer c h (short_code hidden) message word) Refused Done
  zov_encode = encode_told c h (short_code hidden)

  pub zov_message : (word message : List ℕ) → ToldApart outcome_code (message_answer c h (short_code hidden) word message) Refused Done
  zov_message = message_told c h (short_code hidden)

  pub zov_repair : (received repaired : List ℕ)
      → ToldApart recovery_code (repair_answer c h (short_code hidden) received repaired) NotRepaired
      (Repaired (turned_count c h (columns_of c (short_code hidden)) received))
  zov_repair = repair_told c h (short_code hidden)

  pub zov_write_row : (gear lamp : ℕ) (word : List ℕ) → ToldApart outcome_code (write_answer c h (short_code hidden) gear lamp word) Refused Done
  zov_write_row = write_row_told c h (short_code hidden)

  pub zov_read_row : (received repaired : List ℕ) → ReadToldApart c h (short_code hidden) received repaired
  zov_read_row = read_row_told c h (short_code hidden)

  pub zov_ride : (σ : Steps) (counts : List ℕ) → ToldApart outcome_code (ride_answer c h (short_code hidden) σ counts) Refused Done
  zov_ride = ride_told c h (short_code hidden)

  pub zov_senders_start : (d : Dash) (waiting next : List ℕ) → ToldApart outcome_code (start_answer c h (short_code hidden) d waiting next) Refused Done
  zov_senders_start = senders_start_told c h (short_code hidden)

  pub zov_senders_offer : (d : Dash) (sender : ℕ) (word waiting words : List ℕ)
      → ToldApart outcome_code (offer_answer c h (short_code hidden) d sender word waiting words) Refused Done
  zov_senders_offer = senders_offer_told c h (short_code hidden)

  pub zov_senders_round : (d : Dash) (σ : State) (answers handed : List ℕ)
      → ToldApart outcome_code (round_answer c h (short_code hidden) d σ answers handed) Refused Done
  zov_senders_round = senders_round_told c h (short_code hidden)

module _ (c : Parameters) (h blocks shifts hidden : List ℕ) where
  abbrev chosen : Setting
  chosen = short_selection blocks shifts hidden

  pub zov_selection_roles : (out : List ℕ)
      → ToldApart counted_code (roles_answer c h chosen out) NotCounted
      (Count (sent_dimension c h (all_columns c (selection blocks shifts)) hidden))
  zov_selection_roles = roles_told c h chosen

  pub zov_selection_syndrome : (word out : List ℕ) → ToldApart outcome_code (syndrome_answer c h chosen word out) Refused Done
  zov_selection_syndrome = syndrome_told c h chosen

  pub zov_selection_encode : (message word : List ℕ) → ToldApart outcome_code (encode_answer c h chosen message word) Refused Done
  zov_selection_encode = encode_told c h chosen

  pub zov_selection_message : (word message : List ℕ) → ToldApart outcome_code (message_answer c h chosen word message) Refused Done
  zov_selection_message = message_told c h chosen

  pub zov_selection_repair : (received repaired : List ℕ)
      → ToldApart recovery_code (repair_answer c h chosen received repaired) NotRepaired (Repaired (turned_count c h (columns_of c chosen) received))
  zov_selection_repair = repair_told c h chosen

  pub zov_selection_write_row : (gear lamp : ℕ) (word : List ℕ) → ToldApart outcome_code (write_answer c h chosen gear lamp word) Refused Done
  zov_selection_write_row = write_row_told c h chosen

  pub zov_selection_read_row : (received repaired : List ℕ) → ReadToldApart c h chosen received repaired
  zov_selection_read_row = read_row_told c h chosen

-- ---- answers by sender: what repair answers is never taken for "no word left"

pub recovery_apart : {c : Parameters} {h : List ℕ} → Accepted c h → (s : Setting) → Fits c h s → (received : List ℕ)
    → recovery_code (word_answer c h (columns_of c s) received) ≢ none
unfolding word_answer turned_count distance word_rules unless_refused
recovery_apart {c} {h} A s F received =
    let cols = columns_of c s in
    told (fault (word_rules c h cols received)) (fault_up_to greatest_number (word_rules c h cols received) refl)
    (count-le (length cols) (differs received (repaired_of c h cols received)))
  where
    told : (k : ℕ) → k ≤ greatest_number → {x : ℕ} → x ≤ length (columns_of c s) → recovery_code (unless_refused k NotRepaired (Repaired x)) ≢ none
    told zero small few e = absurd (omega (arith, columns_short (fits_columns A s F)))
    told (suc k) small few e = absurd (below (minus_refused k small) e)
      where
        minus_refused : (k : ℕ) → suc k ≤ greatest_number → minus (suc k) ≡ 2 ^ 32 - suc k
        minus_refused k l = mod-eq_of_lt (omega arith)

        below : {x : ℕ} → x ≡ 2 ^ 32 - suc k → x ≡ none → ⊥
        below p q = omega arith

-- ---- elements

module _ (m : ℕ) where
  -- an element of a field of the table
  element_value : is_width m ≡ true → (x : ℕ) → x < 2 ^ m → IsValue x
  element_value w x l =
      let W = width_is m w in
      let wide : 2 ^ m ≤ 2 ^ widest = pow_mono W.high in
      omega arith

  pub zov_field_sum : (a b : ℕ) → ToldApart element_code (sum_answer m a b) NoElement (Element (a ⊕ b))
  unfolding sum_answer pair_fault element_rules
  zov_field_sum a b =
      let rules = element_rules m a ++ (3 unless is_element m b) ∷ [] in
      told_apart element_code NoElement (Element (a ⊕ b)) (element_apart _) same_element (λ k. refl) (fault rules)
      (fault_up_to greatest_number rules refl)
      (λ none.
      let held = hold rules tt none in
      element_value held.0 (a ⊕ b) (⊕-lt m a b (element_is m a held.1.0) (element_is m b held.1.1.0)))

  pub zov_field_product : (a b : ℕ) → ToldApart element_code (product_answer m a b) NoElement (Element (product m (word m) a b))
  unfolding product_answer pair_fault element_rules
  zov_field_product a b =
      let rules = element_rules m a ++ (3 unless is_element m b) ∷ [] in
      told_apart element_code NoElement (Element (product m (word m) a b)) (element_apart _) same_element (λ k. refl) (fault rules)
      (fault_up_to greatest_number rules refl)
      (λ none.
      let held = hold rules tt none in
      element_value held.0 (product m (word m) a b) (product_lt m (word m) (gf_is_field m (width_is m held.0)).degree a b))

  pub zov_field_inverse : (a : ℕ) → ToldApart element_code (inverse_answer m a) NoElement (Element (inverse m (word m) a))
  unfolding inverse_answer element_fault element_rules
  zov_field_inverse a =
      let rules = element_rules m a in
      told_apart element_code NoElement (Element (inverse m (word m) a)) (element_apart _) same_element (λ k. refl) (fault rules)
      (fault_up_to greatest_number rules refl)
      (λ none.
      let held = hold rules tt none in
      element_value held.0 (inverse m (word m) a) ((gf_laws m (width_is m held.0)).in_inv a))

-- ---- sheets

pub zov_sheet : (text out : List ℕ) → ToldApart counted_code (listing_answer text out) NotCounted (Count (length (sheet_listing text)))
unfolding listing_answer listing_fault sheet_listing sheet_fault sheet_rules code_rules shape_rules signature_rules room_rules
zov_sheet text out =
    let rules = sheet_rules text ++ room_rules (sheet_listing text) out in
    told_apart counted_code NotCounted (Count (length (sheet_listing text))) (counted_apart _) same_counted (λ k. refl) (fault rules)
    (fault_up_to greatest_number rules refl)
    (λ none.
    let short = n_short (sheet_accepted text (first_holds (sheet_rules text) (room_rules (sheet_listing text) out) none)).limits in
    omega (arith, length_listing (sheet_parameters text) (sheet_h text)))

-- ---- same: 1 and 0 are values

compared_small : (b : Bool) → IsValue (sameness_code (compared b))
unfolding compared
compared_small true = omega arith
compared_small false = omega arith

pub zov_same : (c₁ : Parameters) (h₁ hidden₁ : List ℕ) (c₂ : Parameters) (h₂ hidden₂ : List ℕ)
    → ToldApart sameness_code (same_answer c₁ h₁ hidden₁ c₂ h₂ hidden₂) NotCompared (compared (same_code c₁ h₁ hidden₁ c₂ h₂ hidden₂))
unfolding same_answer same_fault
zov_same c₁ h₁ hidden₁ c₂ h₂ hidden₂ =
    let agree = same_code c₁ h₁ hidden₁ c₂ h₂ hidden₂ in
    told_apart sameness_code NotCompared (compared agree) (compared_apart agree) same_sameness (λ k. refl)
    (lowest (fault (card_rules c₁ h₁ hidden₁)) (fault (card_rules c₂ h₂ hidden₂)))
    (lowest-le greatest_number (fault (card_rules c₁ h₁ hidden₁)) (fault (card_rules c₂ h₂ hidden₂))
    (fault_up_to greatest_number (card_rules c₁ h₁ hidden₁) (card_in_table c₁ h₁ hidden₁ true))
    (fault_up_to greatest_number (card_rules c₂ h₂ hidden₂) (card_in_table c₂ h₂ hidden₂ true)))
    (λ none. compared_small agree)
