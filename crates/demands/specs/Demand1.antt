-- Demand 1: "The buffers that a caller lends are written only by a call that succeeds. Every call ends, for all inputs, and a fault in the input
-- brings back its number from the table in 01 with each buffer unchanged."
--
-- That every call ends is part of its proof. Of each call there is said here that a refusal leaves each buffer as it was (`.._unchanged`); and that
-- it gives its value exactly if all its rules hold, is refused otherwise, and by the lowest number that applies (`.._refuses`). The rules of calls on
-- words, on sheets and on formulas come in parts, since there are exceptions from the lowest number: the 2, 14 and 15 of a selection come after 7,
-- and 20 after these and before all others; the 2 of a length that follows from the marks comes after 20; 12 comes after these and before all others
-- (`write_row`, `read_row`, `ride`); the 2 of a message's length comes after that of the word's and before 8 (`encode`, `message`); the steps of a
-- ride come one after the other, each with 8 and then 11 (`ride`); 18 and 19 come after 20 and before 8 (`senders`); 16 comes before 9 (`formula`);
-- and 13 comes first, and the 2 of a short buffer last, for a sheet (`listing`). No length of `check`, `same` and `roles` follows from the marks:
-- theirs is the lowest number of all, that of `roles` for the whole code (`roles_lowest`). That of `syndrome` and `repair` is not, since the length
-- of their words is tested after 20.
--
-- The one exception to demand 1: a ride that a step ends, by 8 or 11, writes the counts up to there, without that step (`ride_exception`, and
-- `counts_up_to_there` of `Ride`). Refused by any other number, it leaves the buffer as it was (`ride_unchanged`).
use Rattle.std.specs.Prelude.{◌≡◌, ◌≢◌, ◌↔◌, ◌⊎◌, Bool, false, ◌&&◌, leb, ltb, length}
use Rattle.std.proofs.Math.Path.{refl, ap, ap₂, subst}
use Rattle.std.proofs.Common.{sym, ◌∙◌, arith}
use Rattle.std.proofs.Math.Logic.{inl, inr}
use Rattle.std.proofs.Math.Bool.{true}
use mathlib.Core.List.{List, [], ◌∷◌, ◌++◌, append-nil}
use Prim.Native.Nat.{ℕ, zero, suc}
use Rattle.std.proofs.Math.Decide.{ℕ_discrete}
use Rattle.std.proofs.Math.Dec.{eqb}
use Rattle.algebra.specs.Lists.{entry_of}
use Rattle.algebra.specs.Xor.{◌⊕◌}
use Rattle.refusals.specs.Answered.{value_or-refused, value_none, refused_leaves, refused_due, holds_given, done_apart, same_outcome}
use Rattle.refusals.specs.Answered.{counted_apart, same_counted}
use Rattle.refusals.specs.Counted.{Count, Refused as NotCounted}
use Rattle.refusals.specs.Outcome.{Done, Refused}
use Rattle.refusals.specs.Rules.{Rule, ◌unless◌, Hold, fault, unless_refused}
use Rattle.refusals.specs.RuleLaws.{fault_none, hold, given}
use Rattle.field.specs.Found.{Element, Refused as NoElement}
use Rattle.field.specs.Answers.{element_rules, element_fault, pair_fault, sum_answer, product_answer, inverse_answer}
use Rattle.field.specs.Product.{product, inverse}
use Rattle.field.specs.Range.{is_element}
use Rattle.field.specs.Words.{word}
use Rattle.slices.specs.Bits.{all_bits}
use Rattle.blocks.specs.Answers.{size_rules, block_rules, pair_rules, inverse_rules, pair_fault as blockPairFault, inverse_fault as blockInverseFault}
use Rattle.blocks.specs.Answers.{sum_answer as blockSumAnswer, sum_after, product_answer as blockProductAnswer, product_after}
use Rattle.blocks.specs.Answers.{inverse_answer as blockInverseAnswer, inverse_after}
use Rattle.formula.specs.Letters.{Lent}
use Rattle.formula.specs.Reading.{TextReading}
use Rattle.formula.specs.Answers.{is_read, reading_exists, lent_rules, reading_rules, formula_rules, formula_fault, formula_answer, formula_after}
use Rattle.params.specs.declared.Parameters.{Parameters}
use Rattle.params.specs.Code.{shape_rules, code_rules}
use Rattle.signature.specs.Tests.{signature_rules}
use Rattle.essence.specs.Answers.{shape_rules as essenceShapeRules, essence_rules, essence_fault, essence_answer, essence_after}
use Rattle.essence.specs.Answers.{value_rules, signature_fault, signature_answer, signature_after}
use Rattle.codes.specs.Sameness.{Sameness}
use Rattle.codes.specs.Sameness.{Refused as NotCompared}
use Rattle.codes.specs.Answers.{check_fault, check_answer, roots_after, support_after, lowest as lower, compared, same_fault, same_answer}
use Rattle.codes.specs.Lowest.{lowest_none, lowest_is}
use Rattle.codes.specs.Same.{same_code}
use Rattle.parity.specs.Columns.{dimension}
use Rattle.columns.specs.Choice.{Choice, Choice.whole_code, Choice.selection, all_places, all_columns, selection_rules, choice_rules}
use Rattle.shortened.specs.Marks.{hides_messages, sent_dimension, mark_rules}
use Rattle.shortened.specs.Setting.{Setting, short_code, places, columns_of, is_marked, setting_rules}
use Rattle.shortened.proofs.SettingLaws.{length_columns}
use Rattle.messages.specs.MessageRules.{message_rules}
use Rattle.words.specs.Answers.{bit_rules, roles_rules, roles_fault, roles_answer, roles_after, syndrome_fault, syndrome_answer, syndrome_after}
use Rattle.words.specs.Answers.{encode_fault, encode_answer, encode_after, message_fault, message_answer, message_after}
use Rattle.gears.specs.Rows.{is_row, row_bits, is_row_message}
use Rattle.repair.specs.declared.Recovery.TheVariants.{Repaired, Refused as NotRepaired}
use Rattle.repair.specs.Answers.{word_rules, turned_count, repair_fault, repair_answer, repair_after}
use Rattle.rows.specs.declared.Reading.TheVariants.{Refused as NotRead}
use Rattle.rows.specs.Answers.{write_rules, carried, read_rules, row_read, write_fault, write_answer, write_after, read_fault, read_answer, read_after}
use Rattle.rows.proofs.Laws.{read_apart, same_reading}
use Rattle.simulation.specs.Steps.{Steps, step_count, step_rules, rules_at, steps_rules}
use Rattle.simulation.specs.Ride.{ride_counts}
use Rattle.simulation.specs.Answers.{ride_lengths, marks_long, start_rules, ride_rules, ride_fault, ride_answer, start_fault, ride_after}
use Rattle.scheduler.specs.declared.Dash.{Dash}
use Rattle.scheduler.specs.State.{State, all_words, dash_rules, offer_rules, state_rules}
use Rattle.scheduler.specs.Answers.{start_lengths, start_fault as sendersFault, start_answer as sendersAnswer, start_waiting, start_next}
use Rattle.scheduler.specs.Answers.{offer_lengths, offer_fault, offer_answer, offer_waiting, offer_words}
use Rattle.scheduler.specs.Answers.{round_lengths, round_words, round_fault, round_answer, waiting_after, next_after, answers_after, handed_after}
use Rattle.listing.specs.Answers.{room_rules, sheet_listing, listing_fault, listing_answer, listing_after}
use Rattle.listing.specs.Answers.{stored_answer, stored_after, printed_text, printed_answer, printed_after}
use Rattle.sheets.specs.Fault.{sheet_rules}
use Rattle.sheets.specs.Sheet.{sheet_parameters, sheet_h, is_sheet}
use Rattle.demands.specs.Lowest.{rising, Fails, HoldBelow, Lowest, lowest, rising-numbered, below_fault}
use Rattle.demands.specs.Lowest.{all_rules, rising_parts, InOrder, parts-numbered, in_order, all_both, rising_both}
use Rattle.demands.specs.Outcomes.{element_apart, same_element, repaired_apart, same_recovery}
use Rattle.demands.specs.Outcomes.{compared_apart, same_sameness}
use Rattle.demands.specs.Ride.{Started, starts_exactly, unstarted, after_is, refused_started}

-- a call ends in its value or in a refusal
abbrev pub EndsIn : {A : Type 0} → A → (ℕ → A) → A → Type 0
EndsIn answer refused value = (answer ≡ value) ⊎ ((k : ℕ) × (answer ≡ refused k))

-- a call with these rules has its value exactly if they all hold, is refused otherwise, and by the lowest number that applies
abbrev pub Refuses : {A : Type 0} → A → (ℕ → A) → A → List Rule → Type 0
Refuses answer refused value rules =
    (Hold rules ↔ (answer ≡ value)) × EndsIn answer refused value × ((k : ℕ) → answer ≡ refused k → Lowest k rules)

-- the same of a call whose rules come in parts
abbrev pub RefusesInOrder : {A : Type 0} → A → (ℕ → A) → A → List (List Rule) → Type 0
RefusesInOrder answer refused value parts =
    (Hold (all_rules parts) ↔ (answer ≡ value)) × EndsIn answer refused value × ((k : ℕ) → answer ≡ refused k → InOrder k parts)

module _ {A : Type 0} (refused : ℕ → A) (value : A) (apart : (k : ℕ) → refused k ≢ value) (same : (i j : ℕ) → refused i ≡ refused j → i ≡ j) where
  refuses : (rules : List Rule) → rising 1 rules ≡ true → Refuses (unless_refused (fault rules) refused value) refused value rules
  refuses rules r = (
    (holds_given rules refused value, λ e. hold rules (rising-numbered 1 rules (omega arith) r) (value_none refused value apart (fault rules) e)),
    value_or-refused refused value (fault rules),
    λ k e.
        let (ne, is) = refused_due refused value apart same (fault rules) e in subst (λ (i : ℕ). Lowest i rules) is (lowest rules r ne),
  )

  refuses_in_order : (parts : List (List Rule)) → rising_parts parts ≡ true
      → RefusesInOrder (unless_refused (fault (all_rules parts)) refused value) refused value parts
  refuses_in_order parts r = (
    (
      holds_given (all_rules parts) refused value,
      λ e. hold (all_rules parts) (parts-numbered parts r) (value_none refused value apart (fault (all_rules parts)) e),
    ),
    value_or-refused refused value (fault (all_rules parts)),
    λ k e.
        let (ne, is) = refused_due refused value apart same (fault (all_rules parts)) e in
        subst (λ (i : ℕ). InOrder i parts) is (in_order parts r ne),
  )

-- ---- elements

module _ (m a b : ℕ) where
  pub field_sum_refuses : Refuses (sum_answer m a b) NoElement (Element (a ⊕ b)) (element_rules m a ++ (3 unless is_element m b) ∷ [])
  unfolding sum_answer pair_fault element_rules
  field_sum_refuses = refuses NoElement _ (element_apart _) same_element (element_rules m a ++ (3 unless is_element m b) ∷ []) refl

  pub field_product_refuses : Refuses (product_answer m a b) NoElement (Element (product m (word m) a b))
      (element_rules m a ++ (3 unless is_element m b) ∷ [])
  unfolding product_answer pair_fault element_rules
  field_product_refuses = refuses NoElement _ (element_apart _) same_element (element_rules m a ++ (3 unless is_element m b) ∷ []) refl

module _ (m a : ℕ) where
  pub field_inverse_refuses : Refuses (inverse_answer m a) NoElement (Element (inverse m (word m) a)) (element_rules m a)
  unfolding inverse_answer element_fault element_rules
  field_inverse_refuses = refuses NoElement _ (element_apart _) same_element (element_rules m a) refl

-- ---- blocks

module _ (m : ℕ) (a b out : List ℕ) where
  pub block_sum_unchanged : {k : ℕ} → blockSumAnswer m a b out ≡ Refused k → sum_after m a b out ≡ out
  unfolding blockSumAnswer sum_after
  block_sum_unchanged e = refused_leaves Refused Done done_apart (blockPairFault m a b (length out)) out _ e

  pub block_sum_refuses : Refuses (blockSumAnswer m a b out) Refused Done (pair_rules m a b (length out))
  unfolding blockSumAnswer blockPairFault pair_rules size_rules
  block_sum_refuses = refuses Refused Done done_apart same_outcome (pair_rules m a b (length out)) refl

  pub block_product_unchanged : {k : ℕ} → blockProductAnswer m a b out ≡ Refused k → product_after m a b out ≡ out
  unfolding blockProductAnswer product_after
  block_product_unchanged e = refused_leaves Refused Done done_apart (blockPairFault m a b (length out)) out _ e

  pub block_product_refuses : Refuses (blockProductAnswer m a b out) Refused Done (pair_rules m a b (length out))
  unfolding blockProductAnswer blockPairFault pair_rules size_rules
  block_product_refuses = refuses Refused Done done_apart same_outcome (pair_rules m a b (length out)) refl

module _ (m : ℕ) (a out : List ℕ) where
  pub block_inverse_unchanged : {k : ℕ} → blockInverseAnswer m a out ≡ Refused k → inverse_after m a out ≡ out
  unfolding blockInverseAnswer inverse_after
  block_inverse_unchanged e = refused_leaves Refused Done done_apart (blockInverseFault m a (length out)) out _ e

  pub block_inverse_refuses : Refuses (blockInverseAnswer m a out) Refused Done (inverse_rules m a (length out))
  unfolding blockInverseAnswer blockInverseFault inverse_rules block_rules size_rules
  block_inverse_refuses = refuses Refused Done done_apart same_outcome (inverse_rules m a (length out)) refl

-- ---- formulas: 16 "is looked for after 1, 2 and 3, and 9 after it"

-- at whatever the text reads as
module _ (m : ℕ) (β : Lent) (reading : TextReading) (out : List ℕ) where
  pub formula_unchanged : {k : ℕ} → formula_answer m β reading out ≡ Refused k → formula_after m β reading out ≡ out
  unfolding formula_answer formula_after
  formula_unchanged e = refused_leaves Refused Done done_apart (formula_fault m β reading (length out)) out _ e

  pub formula_refuses : RefusesInOrder (formula_answer m β reading out) Refused Done
      (lent_rules m β (length out) ∷ ((16 unless is_read reading) ∷ []) ∷ ((9 unless reading_exists m β reading) ∷ []) ∷ [])
  unfolding formula_answer formula_fault formula_rules lent_rules reading_rules
  formula_refuses =
      refuses_in_order Refused Done done_apart same_outcome
      (lent_rules m β (length out) ∷ ((16 unless is_read reading) ∷ []) ∷ ((9 unless reading_exists m β reading) ∷ []) ∷ []) refl

-- ---- signatures and their essences

module _ (m : ℕ) (h out : List ℕ) where
  pub essence_unchanged : {k : ℕ} → essence_answer m h out ≡ Refused k → essence_after m h out ≡ out
  unfolding essence_answer essence_after
  essence_unchanged e = refused_leaves Refused Done done_apart (essence_fault m h (length out)) out _ e

  pub essence_refuses : Refuses (essence_answer m h out) Refused Done (essence_rules m h (length out))
  unfolding essence_answer essence_fault essence_rules essenceShapeRules signature_rules
  essence_refuses = refuses Refused Done done_apart same_outcome (essence_rules m h (length out)) refl

module _ (m : ℕ) (v out : List ℕ) where
  pub signature_unchanged : {k : ℕ} → signature_answer m v out ≡ Refused k → signature_after m v out ≡ out
  unfolding signature_answer signature_after
  signature_unchanged e = refused_leaves Refused Done done_apart (signature_fault m v (length out)) out _ e

  pub signature_refuses : Refuses (signature_answer m v out) Refused Done (value_rules m v (length out))
  unfolding signature_answer signature_fault value_rules essenceShapeRules
  signature_refuses = refuses Refused Done done_apart same_outcome (value_rules m v (length out)) refl

-- ---- the rules of a code, of a choice of its columns, and of the marks of hidden places

-- 20
abbrev pub hidden_rules : Parameters → List ℕ → Choice → List ℕ → List Rule
hidden_rules c h choice hidden = (20 unless all_bits hidden) ∷ (20 unless hides_messages c h (all_columns c choice) hidden) ∷ []

-- 1 to 7; of a selection 2, 14 and 15, which come after 7; and 20, which comes "after 15". `full` says that what has an entry for each place, hidden
-- or sent, has its length, and `others` that what is lent beside has its.
abbrev pub marked_parts : Parameters → List ℕ → Choice → List ℕ → Bool → Bool → List (List Rule)
marked_parts c h whole_code hidden others full = (code_rules (others && full) c h ++ hidden_rules c h whole_code hidden) ∷ []
marked_parts c h (selection blocks shifts) hidden others full =
    code_rules others c h ∷ (selection_rules c blocks shifts full ++ hidden_rules c h (selection blocks shifts) hidden) ∷ []

-- a rule that asks for nothing
no_length : (rules : List Rule) → fault (rules ++ (2 unless true) ∷ []) ≡ fault rules
unfolding fault
no_length [] = refl
no_length ((n unless true) ∷ rules) = no_length rules
no_length ((n unless false) ∷ rules) = refl

module _ (c : Parameters) (h : List ℕ) where
  -- then "a length that follows from these marks is tested right after it, as 2"
  marked_are : (choice : Choice) (hidden : List ℕ) (others full words : Bool) (more : List (List Rule))
      → all_rules ((marked_parts c h choice hidden others full ++ ((2 unless words) ∷ []) ∷ []) ++ more)
      ≡ (choice_rules c h choice others full ++ mark_rules c h (all_columns c choice) hidden words) ++ all_rules more
  unfolding choice_rules code_rules shape_rules signature_rules selection_rules mark_rules
  marked_are whole_code hidden others full words more = refl
  marked_are (selection blocks shifts) hidden others full words more = refl

  marked_rise : (choice : Choice) (hidden : List ℕ) (others full : Bool) → rising_parts (marked_parts c h choice hidden others full) ≡ true
  unfolding code_rules shape_rules signature_rules selection_rules
  marked_rise whole_code hidden others full = refl
  marked_rise (selection blocks shifts) hidden others full = refl

  -- where no length follows from the marks there is no such rule
  marked_fault : (choice : Choice) (hidden : List ℕ) (others full : Bool)
      → fault (choice_rules c h choice others full ++ mark_rules c h (all_columns c choice) hidden true)
      ≡ fault (all_rules (marked_parts c h choice hidden others full))
  unfolding choice_rules code_rules shape_rules signature_rules selection_rules mark_rules
  marked_fault whole_code hidden others full = no_length (all_rules (marked_parts c h whole_code hidden others full))
  marked_fault (selection blocks shifts) hidden others full = no_length (all_rules (marked_parts c h (selection blocks shifts) hidden others full))

-- ---- codes

-- the rules of a code with a mark for each place: `others` says that what is lent beside the marks has its length
abbrev pub short_code_rules : Bool → Parameters → List ℕ → List ℕ → List Rule
short_code_rules others c h hidden = code_rules (others && eqb (length hidden) c.n) c h ++ hidden_rules c h whole_code hidden

short_code_fault : (c : Parameters) (h hidden : List ℕ) (others : Bool)
    → fault (setting_rules c h (short_code hidden) others true) ≡ fault (short_code_rules others c h hidden)
unfolding setting_rules code_rules shape_rules signature_rules
short_code_fault c h hidden others = marked_fault c h whole_code hidden others (eqb (length hidden) c.n)

module _ (c : Parameters) (h hidden roots support : List ℕ) where
  pub check_unchanged : {k : ℕ} → check_answer c h hidden roots support ≡ Refused k
      → (roots_after c h hidden roots support ≡ roots) × (support_after c h hidden roots support ≡ support)
  unfolding check_answer roots_after support_after
  check_unchanged e = (
    refused_leaves Refused Done done_apart (check_fault c h hidden roots support) roots _ e,
    refused_leaves Refused Done done_apart (check_fault c h hidden roots support) support _ e,
  )

  -- the buffers for the roots and for the support
  abbrev lent : Bool
  lent = eqb (length roots) c.n && eqb (length support) c.n

  pub check_refuses : Refuses (check_answer c h hidden roots support) Refused Done
      (short_code_rules (eqb (length roots) c.n && eqb (length support) c.n) c h hidden)
  unfolding check_answer check_fault code_rules shape_rules signature_rules
  check_refuses =
      subst (λ (k : ℕ). Refuses (unless_refused k Refused Done) Refused Done (short_code_rules lent c h hidden))
      (sym (short_code_fault c h hidden lent)) (refuses Refused Done done_apart same_outcome (short_code_rules lent c h hidden) refl)

-- `same` has two codes: its number is the lowest that applies to either, "the lowest of both cards"
module _ (c₁ : Parameters) (h₁ hidden₁ : List ℕ) (c₂ : Parameters) (h₂ hidden₂ : List ℕ) where
  abbrev rules₁ : List Rule
  rules₁ = short_code_rules true c₁ h₁ hidden₁

  abbrev rules₂ : List Rule
  rules₂ = short_code_rules true c₂ h₂ hidden₂

  abbrev same_value : Sameness
  same_value = compared (same_code c₁ h₁ hidden₁ c₂ h₂ hidden₂)

  answer_is : same_answer c₁ h₁ hidden₁ c₂ h₂ hidden₂ ≡ unless_refused (lower (fault rules₁) (fault rules₂)) NotCompared same_value
  unfolding same_answer same_fault
  answer_is =
      ap₂ (λ (j k : ℕ). unless_refused (lower j k) NotCompared same_value)
      (short_code_fault c₁ h₁ hidden₁ true) (short_code_fault c₂ h₂ hidden₂ true)

  pub same_accepts : (Hold (short_code_rules true c₁ h₁ hidden₁) × Hold (short_code_rules true c₂ h₂ hidden₂))
      ↔ (same_answer c₁ h₁ hidden₁ c₂ h₂ hidden₂ ≡ compared (same_code c₁ h₁ hidden₁ c₂ h₂ hidden₂))
  unfolding lower code_rules shape_rules signature_rules
  same_accepts = (
    λ holds. answer_is ∙ given NotCompared _ (ap₂ lower (fault_none rules₁ holds.0) (fault_none rules₂ holds.1)),
    λ e.
        let apart = compared_apart (same_code c₁ h₁ hidden₁ c₂ h₂ hidden₂) in
        let none = value_none NotCompared _ apart (lower (fault rules₁) (fault rules₂)) (sym answer_is ∙ e) in
        let (p, q) = lowest_none (fault rules₁) (fault rules₂) none in
        (hold rules₁ tt p, hold rules₂ tt q),
  )

  pub same_ends : EndsIn (same_answer c₁ h₁ hidden₁ c₂ h₂ hidden₂) NotCompared (compared (same_code c₁ h₁ hidden₁ c₂ h₂ hidden₂))
  unfolding same_answer
  same_ends = value_or-refused NotCompared (compared (same_code c₁ h₁ hidden₁ c₂ h₂ hidden₂)) (same_fault c₁ h₁ hidden₁ c₂ h₂ hidden₂)

  pub same_refuses : (k : ℕ) → same_answer c₁ h₁ hidden₁ c₂ h₂ hidden₂ ≡ NotCompared k
      → (Fails k (short_code_rules true c₁ h₁ hidden₁) ⊎ Fails k (short_code_rules true c₂ h₂ hidden₂))
      × HoldBelow k (short_code_rules true c₁ h₁ hidden₁) × HoldBelow k (short_code_rules true c₂ h₂ hidden₂)
  unfolding code_rules shape_rules signature_rules
  same_refuses k e =
      let apart = compared_apart (same_code c₁ h₁ hidden₁ c₂ h₂ hidden₂) in
      let (ne, is) = refused_due NotCompared _ apart same_sameness (lower (fault rules₁) (fault rules₂)) (sym answer_is ∙ e) in
      let (one, p, q) = lowest_is (fault rules₁) (fault rules₂) ne in
      subst (λ (i : ℕ). (Fails i rules₁ ⊎ Fails i rules₂) × HoldBelow i rules₁ × HoldBelow i rules₂) is
      (either one, below_fault rules₁ refl _ p, below_fault rules₂ refl _ q)
    where
      either : ((lower (fault rules₁) (fault rules₂) ≡ fault rules₁) × (fault rules₁ ≢ 0))
          ⊎ ((lower (fault rules₁) (fault rules₂) ≡ fault rules₂) × (fault rules₂ ≢ 0))
          → Fails (lower (fault rules₁) (fault rules₂)) rules₁ ⊎ Fails (lower (fault rules₁) (fault rules₂)) rules₂
      either (inl (is, ne)) = inl (subst (λ (i : ℕ). Fails i rules₁) (sym is) (lowest rules₁ refl ne).fails)
      either (inr (is, ne)) = inr (subst (λ (i : ℕ). Fails i rules₂) (sym is) (lowest rules₂ refl ne).fails)

-- ---- calls on words, at any setting: for the whole code, or for a selection, without the hidden places

-- what comes before the call's own rules: "a length that follows from these marks is tested right after it, as 2"
abbrev pub setting_parts : Parameters → List ℕ → Setting → Bool → Bool → List (List Rule)
setting_parts c h s others words = marked_parts c h s.choice s.hidden others (is_marked c s) ++ ((2 unless words) ∷ []) ∷ []

module _ (c : Parameters) (h : List ℕ) where
  parts_are : (s : Setting) (others words : Bool) (more : List (List Rule))
      → all_rules (setting_parts c h s others words ++ more) ≡ setting_rules c h s others words ++ all_rules more
  unfolding setting_rules
  parts_are s others words more = marked_are c h s.choice s.hidden others (is_marked c s) words more

  parts_rise : (s : Setting) (others words : Bool) (more : List (List Rule)) → rising_parts more ≡ true
      → rising_parts (setting_parts c h s others words ++ more) ≡ true
  parts_rise s others words more r =
      let marked = marked_parts c h s.choice s.hidden others (is_marked c s) in
      let rises = marked_rise c h s.choice s.hidden others (is_marked c s) in
      rising_both (marked ++ ((2 unless words) ∷ []) ∷ []) more (rising_both marked (((2 unless words) ∷ []) ∷ []) rises refl) r

  module _ {A : Type 0} (refused : ℕ → A) (value : A) (apart : (k : ℕ) → refused k ≢ value) (same : (i j : ℕ) → refused i ≡ refused j → i ≡ j) where
    setting_refuses : (s : Setting) (others words : Bool) (more : List (List Rule)) → rising_parts more ≡ true
        → RefusesInOrder (unless_refused (fault (setting_rules c h s others words ++ all_rules more)) refused value) refused value
        (setting_parts c h s others words ++ more)
    setting_refuses s others words more r =
        subst
        (λ (rules : List Rule).
        RefusesInOrder (unless_refused (fault rules) refused value) refused value (setting_parts c h s others words ++ more))
        (parts_are s others words more)
        (refuses_in_order refused value apart same (setting_parts c h s others words ++ more) (parts_rise s others words more r))

-- ---- words

module _ (c : Parameters) (h : List ℕ) (s : Setting) (out : List ℕ) where
  pub roles_unchanged : {k : ℕ} → roles_answer c h s out ≡ NotCounted k → roles_after c h s out ≡ out
  unfolding roles_answer roles_after
  roles_unchanged e = refused_leaves NotCounted _ (counted_apart _) (roles_fault c h s out) out _ e

  -- the buffer for roles has an entry for each place, as the marks have
  pub roles_refuses : RefusesInOrder (roles_answer c h s out) NotCounted (Count (sent_dimension c h (all_columns c s.choice) s.hidden))
      (marked_parts c h s.choice s.hidden true (is_marked c s && eqb (length out) (all_places c s.choice)))
  unfolding roles_answer roles_fault roles_rules
  roles_refuses =
      let value = Count (sent_dimension c h (all_columns c s.choice) s.hidden) in
      let full = (is_marked c s && eqb (length out) (all_places c s.choice)) in
      let parts = marked_parts c h s.choice s.hidden true full in
      subst (λ (k : ℕ). RefusesInOrder (unless_refused k NotCounted value) NotCounted value parts)
      (sym (marked_fault c h s.choice s.hidden true full))
      (refuses_in_order NotCounted value (counted_apart _) same_counted parts (marked_rise c h s.choice s.hidden true full))

module _ (c : Parameters) (h : List ℕ) (s : Setting) (word out : List ℕ) where
  pub syndrome_unchanged : {k : ℕ} → syndrome_answer c h s word out ≡ Refused k → syndrome_after c h s word out ≡ out
  unfolding syndrome_answer syndrome_after
  syndrome_unchanged e = refused_leaves Refused Done done_apart (syndrome_fault c h s word out) out _ e

  pub syndrome_refuses : RefusesInOrder (syndrome_answer c h s word out) Refused Done
      (setting_parts c h s (eqb (length out) c.t) (eqb (length word) (places s)) ++ bit_rules word ∷ [])
  unfolding syndrome_answer syndrome_fault bit_rules
  syndrome_refuses =
      setting_refuses c h Refused Done done_apart same_outcome s (eqb (length out) c.t) (eqb (length word) (places s)) (bit_rules word ∷ []) refl

module _ (c : Parameters) (h : List ℕ) (s : Setting) (message word : List ℕ) where
  pub encode_unchanged : {k : ℕ} → encode_answer c h s message word ≡ Refused k → encode_after c h s message word ≡ word
  unfolding encode_answer encode_after
  encode_unchanged e = refused_leaves Refused Done done_apart (encode_fault c h s message word) word _ e

  -- "a wrong one is then 2, before 8": k follows from the marks
  pub encode_refuses : RefusesInOrder (encode_answer c h s message word) Refused Done
      (setting_parts c h s true (eqb (length word) (places s))
      ++ message_rules (dimension c h (columns_of c s)) (length message) (all_bits message) ∷ [])
  unfolding encode_answer encode_fault message_rules
  encode_refuses =
      setting_refuses c h Refused Done done_apart same_outcome s true (eqb (length word) (places s))
      (message_rules (dimension c h (columns_of c s)) (length message) (all_bits message) ∷ []) refl

  pub message_unchanged : {k : ℕ} → message_answer c h s word message ≡ Refused k → message_after c h s word message ≡ message
  unfolding message_answer message_after
  message_unchanged e = refused_leaves Refused Done done_apart (message_fault c h s word message) message _ e

  pub message_refuses : RefusesInOrder (message_answer c h s word message) Refused Done
      (setting_parts c h s true (eqb (length word) (places s))
      ++ message_rules (dimension c h (columns_of c s)) (length message) (all_bits word) ∷ [])
  unfolding message_answer message_fault message_rules
  message_refuses =
      setting_refuses c h Refused Done done_apart same_outcome s true (eqb (length word) (places s))
      (message_rules (dimension c h (columns_of c s)) (length message) (all_bits word) ∷ []) refl

-- ---- repair

module _ (c : Parameters) (h : List ℕ) (s : Setting) (received repaired : List ℕ) where
  pub repair_unchanged : {k : ℕ} → repair_answer c h s received repaired ≡ NotRepaired k → repair_after c h s received repaired ≡ repaired
  unfolding repair_answer repair_after
  repair_unchanged e = refused_leaves NotRepaired _ (repaired_apart _) (repair_fault c h s received repaired) repaired _ e

  pub repair_refuses : RefusesInOrder (repair_answer c h s received repaired) NotRepaired (Repaired (turned_count c h (columns_of c s) received))
      (setting_parts c h s true (eqb (length received) (places s) && eqb (length repaired) (places s))
      ++ word_rules c h (columns_of c s) received ∷ [])
  unfolding repair_answer repair_fault word_rules
  repair_refuses =
      setting_refuses c h NotRepaired _ (repaired_apart _) same_recovery s true
      (eqb (length received) (places s) && eqb (length repaired) (places s)) (word_rules c h (columns_of c s) received ∷ []) refl

-- ---- of the whole code, roles give the lowest number that applies to any of their rules, as `check` does

pub roles_lowest : (c : Parameters) (h hidden out : List ℕ)
    → Refuses (roles_answer c h (short_code hidden) out) NotCounted (Count (sent_dimension c h (all_columns c whole_code) hidden))
    (code_rules (eqb (length hidden) c.n && eqb (length out) c.n) c h ++ hidden_rules c h whole_code hidden)
unfolding roles_answer roles_fault roles_rules code_rules shape_rules signature_rules
roles_lowest c h hidden out =
    let value = Count (sent_dimension c h (all_columns c whole_code) hidden) in
    let rules = code_rules (eqb (length hidden) c.n && eqb (length out) c.n) c h ++ hidden_rules c h whole_code hidden in
    subst (λ (k : ℕ). Refuses (unless_refused k NotCounted value) NotCounted value rules)
    (sym (marked_fault c h whole_code hidden true (eqb (length hidden) c.n && eqb (length out) c.n))) (refuses NotCounted value (counted_apart _) same_counted rules refl)

-- ---- gear rows: "12 comes after 7 and before 8", and after 20

module _ (c : Parameters) (h cols : List ℕ) where
  -- 12 alone, then the others
  abbrev pub write_parts : ℕ → ℕ → List (List Rule)
  write_parts gear lamp = ((12 unless leb row_bits (dimension c h cols)) ∷ []) ∷ ((11 unless is_row gear lamp) ∷ []) ∷ []

  abbrev pub read_parts : List ℕ → List (List Rule)
  read_parts received =
      ((12 unless leb row_bits (dimension c h cols)) ∷ [])
      ∷ (word_rules c h cols received ++ (11 unless is_row_message (carried c h cols received)) ∷ []) ∷ []

module _ (c : Parameters) (h : List ℕ) (s : Setting) (gear lamp : ℕ) (word : List ℕ) where
  pub write_row_unchanged : {k : ℕ} → write_answer c h s gear lamp word ≡ Refused k → write_after c h s gear lamp word ≡ word
  unfolding write_answer write_after
  write_row_unchanged e = refused_leaves Refused Done done_apart (write_fault c h s gear lamp word) word _ e

  pub write_row_refuses : RefusesInOrder (write_answer c h s gear lamp word) Refused Done
      (setting_parts c h s true (eqb (length word) (places s)) ++ write_parts c h (columns_of c s) gear lamp)
  unfolding write_answer write_fault write_rules
  write_row_refuses =
      setting_refuses c h Refused Done done_apart same_outcome s true (eqb (length word) (places s)) (write_parts c h (columns_of c s) gear lamp) refl

module _ (c : Parameters) (h : List ℕ) (s : Setting) (received repaired : List ℕ) where
  pub read_row_unchanged : {k : ℕ} → read_answer c h s received repaired ≡ NotRead k → read_after c h s received repaired ≡ repaired
  unfolding read_answer read_after row_read
  read_row_unchanged e = refused_leaves NotRead _ (read_apart _ _) (read_fault c h s received repaired) repaired _ e

  pub read_row_refuses : RefusesInOrder (read_answer c h s received repaired) NotRead (row_read c h (columns_of c s) received)
      (setting_parts c h s true (eqb (length received) (places s) && eqb (length repaired) (places s)) ++ read_parts c h (columns_of c s) received)
  unfolding read_answer read_fault row_read read_rules word_rules
  read_row_refuses =
      setting_refuses c h NotRead _ (read_apart _ _) same_reading s true
      (eqb (length received) (places s) && eqb (length repaired) (places s)) (read_parts c h (columns_of c s) received) refl

-- ---- rides: "12 is looked for before the ride starts", then one step after the other, and of a step 8 "goes first where one step has both"

module _ (n : ℕ) (σ : Steps) where
  -- the rules of the first k steps: a part for each
  abbrev pub step_parts : ℕ → List (List Rule)
  step_parts zero = []
  step_parts (suc k) = step_parts k ++ rules_at n σ k ∷ []

  step_parts_are : (k : ℕ) → all_rules (step_parts k) ≡ steps_rules n σ k
  unfolding steps_rules
  step_parts_are zero = refl
  step_parts_are (suc k) =
      all_both (step_parts k) (rules_at n σ k ∷ [])
      ∙ ap₂ (λ (rules more : List Rule). rules ++ more) (step_parts_are k) (append-nil (rules_at n σ k))

  step_parts_rise : (k : ℕ) → rising_parts (step_parts k) ≡ true
  unfolding rules_at step_rules
  step_parts_rise zero = refl
  step_parts_rise (suc k) = rising_both (step_parts k) (rules_at n σ k ∷ []) (step_parts_rise k) refl

module _ (c : Parameters) (h : List ℕ) (s : Setting) (σ : Steps) (counts : List ℕ) where
  pub ride_unchanged : {k : ℕ} → ride_answer c h s σ counts ≡ Refused k → k ≢ 8 → k ≢ 11 → ride_after c h s σ counts ≡ counts
  ride_unchanged {k} e ne ne' = decided (ℕ_discrete (start_fault c h s σ counts) 0)
    where
      by_step : (k ≡ 8) ⊎ (k ≡ 11) → ⊥
      by_step (inl z) = ne z
      by_step (inr z) = ne' z

      decided : Dec (start_fault c h s σ counts ≡ 0) → ride_after c h s σ counts ≡ counts
      decided (yes none) = absurd (by_step ((refused_started c h s σ counts e).0 ((starts_exactly c h s σ counts).0 none)))
      decided (no due) = (unstarted c h s σ counts due).1

  -- "In both cases the counts up to there, without that step, are written, as the one exception to demand 1": the ride has started, and `Ride` says
  -- what its counts are.
  pub ride_exception : {k : ℕ} → ride_answer c h s σ counts ≡ Refused k → (k ≡ 8) ⊎ (k ≡ 11)
      → Started c h s σ counts × (ride_after c h s σ counts ≡ ride_counts c h (columns_of c s) σ)
  ride_exception e by_step =
      let S = (refused_started c h s σ counts e).1 by_step in (S, after_is S)

  pub ride_refuses : RefusesInOrder (ride_answer c h s σ counts) Refused Done
      (setting_parts c h s (ride_lengths σ counts) (marks_long σ (places s))
      ++ start_rules c h (columns_of c s) ∷ step_parts (places s) σ (step_count σ))
  unfolding ride_answer ride_fault ride_rules start_rules
  ride_refuses =
      let steps = step_parts (places s) σ (step_count σ) in
      let start = start_rules c h (columns_of c s) in
      let parts = setting_parts c h s (ride_lengths σ counts) (marks_long σ (places s)) ++ start ∷ steps in
      subst
      (λ (rules : List Rule).
      RefusesInOrder
      (unless_refused (fault (setting_rules c h s (ride_lengths σ counts) (marks_long σ (places s)) ++ (start ++ rules))) Refused Done) Refused Done
      parts)
      (step_parts_are (places s) σ (step_count σ) ∙ ap (λ (n : ℕ). steps_rules n σ (step_count σ)) (sym (length_columns c s)))
      (setting_refuses c h Refused Done done_apart same_outcome s (ride_lengths σ counts) (marks_long σ (places s)) (start ∷ steps)
      (step_parts_rise (places s) σ (step_count σ)))

-- ---- several senders: 18 and 19 "come after 15 and before 8, 18 first", and 20 before 18

module _ (c : Parameters) (h : List ℕ) (s : Setting) (d : Dash) where
  pub senders_start_unchanged : (waiting next : List ℕ) {k : ℕ} → sendersAnswer c h s d waiting next ≡ Refused k
      → (start_waiting c h s d waiting next ≡ waiting) × (start_next c h s d waiting next ≡ next)
  unfolding sendersAnswer start_waiting start_next
  senders_start_unchanged waiting next e = (
    refused_leaves Refused Done done_apart (sendersFault c h s d waiting next) waiting _ e,
    refused_leaves Refused Done done_apart (sendersFault c h s d waiting next) next _ e,
  )

  pub senders_start_refuses : (waiting next : List ℕ) → RefusesInOrder (sendersAnswer c h s d waiting next) Refused Done
      (setting_parts c h s (start_lengths d waiting next) true ++ dash_rules d ∷ [])
  unfolding sendersAnswer sendersFault dash_rules
  senders_start_refuses waiting next =
      setting_refuses c h Refused Done done_apart same_outcome s (start_lengths d waiting next) true (dash_rules d ∷ []) refl

  module _ (sender : ℕ) (word waiting words : List ℕ) where
    -- 18 and 19, then 8
    abbrev pub offer_parts : List (List Rule)
    offer_parts =
        (dash_rules d ++ (18 unless ltb sender d.senders) ∷ (19 unless eqb (entry_of waiting sender) 0) ∷ []) ∷ ((8 unless all_bits word) ∷ []) ∷ []

    pub senders_offer_unchanged : {k : ℕ} → offer_answer c h s d sender word waiting words ≡ Refused k
        → (offer_waiting c h s d sender word waiting words ≡ waiting) × (offer_words c h s d sender word waiting words ≡ words)
    unfolding offer_answer offer_waiting offer_words
    senders_offer_unchanged e = (
      refused_leaves Refused Done done_apart (offer_fault c h s d sender word waiting words) waiting _ e,
      refused_leaves Refused Done done_apart (offer_fault c h s d sender word waiting words) words _ e,
    )

    pub senders_offer_refuses : RefusesInOrder (offer_answer c h s d sender word waiting words) Refused Done
        (setting_parts c h s (eqb (length waiting) d.senders) (offer_lengths d word words (places s)) ++ offer_parts)
    unfolding offer_answer offer_fault dash_rules offer_rules
    senders_offer_refuses =
        setting_refuses c h Refused Done done_apart same_outcome s (eqb (length waiting) d.senders) (offer_lengths d word words (places s))
        offer_parts refl

  module _ (σ : State) (answers handed : List ℕ) where
    -- 18, then 8
    abbrev pub round_parts : List (List Rule)
    round_parts =
        (dash_rules d ++ (18 unless ltb (entry_of σ.next 0) d.senders) ∷ [])
        ∷ ((8 unless all_bits σ.waiting) ∷ (8 unless all_words (length (columns_of c s)) σ.waiting σ.words d.senders) ∷ []) ∷ []

    pub senders_round_unchanged : {k : ℕ} → round_answer c h s d σ answers handed ≡ Refused k
        → (waiting_after c h s d σ answers handed ≡ σ.waiting) × (next_after c h s d σ answers handed ≡ σ.next)
        × (answers_after c h s d σ answers handed ≡ answers) × (handed_after c h s d σ answers handed ≡ handed)
    unfolding round_answer waiting_after next_after answers_after handed_after
    senders_round_unchanged e = (
      refused_leaves Refused Done done_apart (round_fault c h s d σ answers handed) σ.waiting _ e,
      refused_leaves Refused Done done_apart (round_fault c h s d σ answers handed) σ.next _ e,
      refused_leaves Refused Done done_apart (round_fault c h s d σ answers handed) answers _ e,
      refused_leaves Refused Done done_apart (round_fault c h s d σ answers handed) handed _ e,
    )

    pub senders_round_refuses : RefusesInOrder (round_answer c h s d σ answers handed) Refused Done
        (setting_parts c h s (round_lengths d σ answers) (round_words d σ handed (places s)) ++ round_parts)
    unfolding round_answer round_fault dash_rules state_rules
    senders_round_refuses =
        setting_refuses c h Refused Done done_apart same_outcome s (round_lengths d σ answers) (round_words d σ handed (places s)) round_parts refl

-- ---- sheets: 13 "comes first of all"

module _ (text out : List ℕ) where
  pub listing_unchanged : {k : ℕ} → listing_answer text out ≡ NotCounted k → listing_after text out ≡ out
  unfolding listing_answer listing_after
  listing_unchanged e = refused_leaves NotCounted _ (counted_apart _) (listing_fault text out) out _ e

  pub listing_refuses : RefusesInOrder (listing_answer text out) NotCounted (Count (length (sheet_listing text)))
      (((13 unless is_sheet text) ∷ []) ∷ code_rules true (sheet_parameters text) (sheet_h text) ∷ room_rules (sheet_listing text) out ∷ [])
  unfolding listing_answer listing_fault sheet_rules code_rules shape_rules signature_rules room_rules
  listing_refuses =
      refuses_in_order NotCounted _ (counted_apart _) same_counted
      (((13 unless is_sheet text) ∷ []) ∷ code_rules true (sheet_parameters text) (sheet_h text) ∷ room_rules (sheet_listing text) out ∷ []) refl

  pub printed_unchanged : {k : ℕ} → printed_answer text out ≡ NotCounted k → printed_after text out ≡ out
  unfolding printed_answer printed_after stored_answer stored_after
  printed_unchanged e = refused_leaves NotCounted _ (counted_apart _) (fault (room_rules (printed_text text) out)) out _ e

  pub printed_refuses : Refuses (printed_answer text out) NotCounted (Count (length (printed_text text))) (room_rules (printed_text text) out)
  unfolding printed_answer stored_answer room_rules
  printed_refuses = refuses NotCounted _ (counted_apart _) same_counted (room_rules (printed_text text) out) refl
