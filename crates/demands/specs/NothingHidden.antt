-- "A card with nothing hidden answers as before, but for the later place of 2": with a mark of 0 at every place each call goes by the rules of the
-- code and of the selection, then by 2 for the lengths that follow from the marks, then by its own rules, at the columns of all places. So the same
-- inputs are refused as before, by the same number where the words have their lengths; where they have not, 2 now comes after 3 to 7, 14 and 15.
use Rattle.std.specs.Prelude.{◌≡◌, ◌↔◌, Bool, ◌&&◌, length}
use Rattle.std.proofs.Math.Path.{refl, sym, ap, ap₂}
use Rattle.std.proofs.Common.{◌∙◌, eq-eqb}
use Rattle.std.proofs.Math.Bool.{true, and-true}
use mathlib.Core.List.{List, [], ◌∷◌, ◌++◌, append-nil}
use Prim.Native.Nat.{ℕ}
use Rattle.std.proofs.Math.Dec.{eqb}
use Rattle.std.proofs.Math.ListN.{set, replicate}
use Rattle.algebra.specs.Parts.{with_part}
use Rattle.algebra.specs.Tabulate.{tabulate}
use Rattle.algebra.specs.TabulateLaws.{length-tabulate}
use Rattle.refusals.specs.Counted.{Count, Refused as NotCounted}
use Rattle.refusals.specs.Outcome.{Done, Refused}
use Rattle.refusals.specs.Rules.{Rule, ◌unless◌, fault, unless_refused}
use Rattle.refusals.specs.RuleLaws.{fault_alike, fault_past, fault_empty}
use Rattle.slices.specs.Bits.{all_bits}
use Rattle.params.specs.declared.Parameters.{Parameters}
use Rattle.params.specs.Code.{Accepted, code_rules}
use Rattle.parity.specs.Columns.{roles_of, dimension, message_of, encoding_of}
use Rattle.parity.specs.Word.{syndrome_of}
use Rattle.columns.specs.Choice.{Choice, Choice.whole_code, all_places, all_columns, choice_rules}
use Rattle.columns.proofs.ChoiceLaws.{choice_numbered}
use Rattle.shortened.specs.Marks.{mark_rules}
use Rattle.shortened.proofs.NothingHidden.{unhidden-places, unhidden_columns, unhidden-fault, unhidden_hides, unhidden_fits, unhidden_dimension}
use Rattle.shortened.specs.Setting.{Setting, places, columns_of, setting_rules}
use Rattle.shortened.proofs.SettingLaws.{marks_pass}
use Rattle.shortened.specs.Unhidden.{unhidden}
use Rattle.codes.specs.Sameness.{Same}
use Rattle.codes.proofs.Agreement.{same_exactly}
use Rattle.codes.specs.Answers.{check_fault, lowest, same_fault, same_answer}
use Rattle.messages.specs.MessageRules.{message_rules}
use Rattle.words.specs.Answers.{bit_rules, roles_rules, roles_fault, roles_answer, roles_after, syndrome_fault, syndrome_answer, syndrome_after}
use Rattle.words.specs.Answers.{encode_fault, encode_answer, encode_after, message_fault, message_answer, message_after}
use Rattle.nearest.specs.Repair.{repaired_of}
use Rattle.repair.specs.declared.Recovery.TheVariants.{Repaired, Refused as NotRepaired}
use Rattle.repair.specs.Answers.{word_rules, turned_count, repair_fault, repair_answer, repair_after}
use Rattle.rows.specs.declared.Reading.TheVariants.{Refused as NotRead}
use Rattle.rows.specs.Answers.{write_rules, row_word, read_rules, row_read, write_fault, write_answer, write_after, read_fault, read_answer, read_after}
use Rattle.simulation.specs.Steps.{Steps}
use Rattle.simulation.specs.Ride.{ride_counts}
use Rattle.simulation.specs.Answers.{ride_lengths, marks_long, start_rules, ride_rules, ride_fault, ride_answer, start_fault, ride_after}
use Rattle.scheduler.specs.declared.Dash.{Dash}
use Rattle.scheduler.specs.State.{State, dash_rules, offer_rules}
use Rattle.scheduler.specs.Round.{round_waiting, round_next, round_answers, round_handed}
use Rattle.scheduler.specs.Answers.{start_lengths, start_fault as beganFault, start_answer, start_waiting, start_next}
use Rattle.scheduler.specs.Answers.{offer_lengths, offer_fault, offer_answer, offer_waiting, offer_words}
use Rattle.scheduler.specs.Answers.{round_lengths, round_words, round_rules, round_fault, round_answer, waiting_after, next_after, answers_after, handed_after}

module _ (c : Parameters) (h : List ℕ) (choice : Choice) where
  abbrev pub u : Setting
  u = unhidden c choice

  abbrev pub n : ℕ
  n = all_places c choice

  abbrev pub cols : List ℕ
  cols = all_columns c choice

  -- What a call gives as before, but for the later place of 2: `others` says that what is lent beside the words has its length, and `words` that the
  -- words have theirs; `own` are its own rules, and `value` what it gives where none refuses, both at the columns.
  abbrev pub AsBefore : {B : Type 0} → Bool → Bool → (List ℕ → List Rule) → (ℕ → B) → (List ℕ → B) → B
  AsBefore others words own refused value =
      unless_refused (fault (choice_rules c h choice others true ++ (2 unless words) ∷ own (all_columns c choice))) refused
      (value (all_columns c choice))

  call : {B : Type 0} (others : Bool) (words : ℕ → Bool) (own : List ℕ → List Rule) (refused : ℕ → B) (value : List ℕ → B)
      → unless_refused (fault (setting_rules c h u others (words (places u)) ++ own (columns_of c u))) refused (value (columns_of c u))
      ≡ AsBefore others (words n) own refused value
  call others words own refused value =
      ap₂ (λ (k : ℕ) (all : List ℕ). unless_refused (fault (setting_rules c h u others (words k) ++ own all)) refused (value all))
      (unhidden-places c choice) (unhidden_columns c choice)
      ∙ ap (λ (k : ℕ). unless_refused k refused (value cols)) (unhidden-fault c choice h others (words n) (own cols))

  -- ---- roles, whose buffer's length does not follow from the marks: wholly as before

  roles_fault_lem : (out : List ℕ) → roles_fault c h u out ≡ fault (choice_rules c h choice true (eqb (length out) n))
  unfolding roles_fault roles_rules
  roles_fault_lem out =
      ap (λ (b : Bool). fault (choice_rules c h choice true (b && eqb (length out) n) ++ marks)) (eq-eqb (length none) n long)
      ∙ fault_alike (rules (eqb (length out) n)) (rules (eqb (length out) n)) marks []
      (choice_numbered c h choice true (eqb (length out) n)) (choice_numbered c h choice true (eqb (length out) n)) refl
      (λ z. marks_pass c h cols none true refl (unhidden_hides c choice h) ∙ sym fault_empty)
      ∙ ap fault (append-nil (rules (eqb (length out) n)))
    where
      none : List ℕ
      none = tabulate n (λ p. 0)

      long : length none ≡ n
      long = length-tabulate n (λ p. 0)

      rules : Bool → List Rule
      rules = choice_rules c h choice true

      marks : List Rule
      marks = mark_rules c h cols none true

  pub roles_as_before : (out : List ℕ)
      → (roles_answer c h u out
      ≡ unless_refused (fault (choice_rules c h choice true (eqb (length out) n))) NotCounted (Count (dimension c h cols)))
      × (roles_after c h u out ≡ unless_refused (fault (choice_rules c h choice true (eqb (length out) n))) (λ k. out) (roles_of c h cols))
  unfolding roles_answer roles_after
  roles_as_before out = (
    ap₂ (λ (i k : ℕ). unless_refused i NotCounted (Count k)) (roles_fault_lem out) (unhidden_dimension c choice h),
    ap (λ (i : ℕ). unless_refused i (λ k. out) (roles_of c h cols)) (roles_fault_lem out),
  )

  -- ---- words

  pub syndrome_as_before : (word out : List ℕ)
      → (syndrome_answer c h u word out
      ≡ AsBefore (eqb (length out) c.t) (eqb (length word) n) (λ all. bit_rules word) Refused (λ all. Done))
      × (syndrome_after c h u word out
      ≡ AsBefore (eqb (length out) c.t) (eqb (length word) n) (λ all. bit_rules word) (λ k. out) (λ all. syndrome_of c h all word))
  unfolding syndrome_answer syndrome_after syndrome_fault
  syndrome_as_before word out = (
    call (eqb (length out) c.t) (eqb (length word)) (λ all. bit_rules word) Refused (λ all. Done),
    call (eqb (length out) c.t) (eqb (length word)) (λ all. bit_rules word) (λ k. out) (λ all. syndrome_of c h all word),
  )

  abbrev pub own_message : ℕ → Bool → List ℕ → List Rule
  own_message long bits all = message_rules (dimension c h all) long bits

  pub encode_as_before : (message word : List ℕ)
      → (encode_answer c h u message word
      ≡ AsBefore true (eqb (length word) n) (own_message (length message) (all_bits message)) Refused (λ all. Done))
      × (encode_after c h u message word
      ≡ AsBefore true (eqb (length word) n) (own_message (length message) (all_bits message)) (λ k. word) (λ all. encoding_of c h all message))
  unfolding encode_answer encode_after encode_fault
  encode_as_before message word = (
    call true (eqb (length word)) (own_message (length message) (all_bits message)) Refused (λ all. Done),
    call true (eqb (length word)) (own_message (length message) (all_bits message)) (λ k. word) (λ all. encoding_of c h all message),
  )

  pub message_as_before : (word message : List ℕ)
      → (message_answer c h u word message
      ≡ AsBefore true (eqb (length word) n) (own_message (length message) (all_bits word)) Refused (λ all. Done))
      × (message_after c h u word message
      ≡ AsBefore true (eqb (length word) n) (own_message (length message) (all_bits word)) (λ k. message) (λ all. message_of c h all word))
  unfolding message_answer message_after message_fault
  message_as_before word message = (
    call true (eqb (length word)) (own_message (length message) (all_bits word)) Refused (λ all. Done),
    call true (eqb (length word)) (own_message (length message) (all_bits word)) (λ k. message) (λ all. message_of c h all word),
  )

  -- ---- repair and rows

  module _ (received repaired : List ℕ) where
    abbrev pub both : ℕ → Bool
    both k = eqb (length received) k && eqb (length repaired) k

    pub repair_as_before : (repair_answer c h u received repaired
        ≡ AsBefore true (both n) (λ all. word_rules c h all received) NotRepaired (λ all. Repaired (turned_count c h all received)))
        × (repair_after c h u received repaired
        ≡ AsBefore true (both n) (λ all. word_rules c h all received) (λ k. repaired) (λ all. repaired_of c h all received))
    unfolding repair_answer repair_after repair_fault
    repair_as_before = (
      call true both (λ all. word_rules c h all received) NotRepaired (λ all. Repaired (turned_count c h all received)),
      call true both (λ all. word_rules c h all received) (λ k. repaired) (λ all. repaired_of c h all received),
    )

    pub read_row_as_before : (read_answer c h u received repaired
        ≡ AsBefore true (both n) (λ all. read_rules c h all received) NotRead (λ all. row_read c h all received))
        × (read_after c h u received repaired
        ≡ AsBefore true (both n) (λ all. read_rules c h all received) (λ k. repaired) (λ all. repaired_of c h all received))
    unfolding read_answer read_after read_fault
    read_row_as_before = (
      call true both (λ all. read_rules c h all received) NotRead (λ all. row_read c h all received),
      call true both (λ all. read_rules c h all received) (λ k. repaired) (λ all. repaired_of c h all received),
    )

  pub write_row_as_before : (gear lamp : ℕ) (word : List ℕ)
      → (write_answer c h u gear lamp word ≡ AsBefore true (eqb (length word) n) (λ all. write_rules c h all gear lamp) Refused (λ all. Done))
      × (write_after c h u gear lamp word
      ≡ AsBefore true (eqb (length word) n) (λ all. write_rules c h all gear lamp) (λ k. word) (λ all. row_word c h all gear lamp))
  unfolding write_answer write_after write_fault
  write_row_as_before gear lamp word = (
    call true (eqb (length word)) (λ all. write_rules c h all gear lamp) Refused (λ all. Done),
    call true (eqb (length word)) (λ all. write_rules c h all gear lamp) (λ k. word) (λ all. row_word c h all gear lamp),
  )

  -- ---- rides and senders

  pub ride_as_before : (σ : Steps) (counts : List ℕ)
      → (ride_answer c h u σ counts ≡ AsBefore (ride_lengths σ counts) (marks_long σ n) (λ all. ride_rules c h all σ) Refused (λ all. Done))
      × (ride_after c h u σ counts
      ≡ AsBefore (ride_lengths σ counts) (marks_long σ n) (start_rules c h) (λ k. counts) (λ all. ride_counts c h all σ))
  unfolding ride_answer ride_after ride_fault start_fault
  ride_as_before σ counts = (
    call (ride_lengths σ counts) (marks_long σ) (λ all. ride_rules c h all σ) Refused (λ all. Done),
    call (ride_lengths σ counts) (marks_long σ) (start_rules c h) (λ k. counts) (λ all. ride_counts c h all σ),
  )

  module _ (d : Dash) where
    pub senders_start_as_before : (waiting next : List ℕ)
        → (start_answer c h u d waiting next ≡ AsBefore (start_lengths d waiting next) true (λ all. dash_rules d) Refused (λ all. Done))
        × (start_waiting c h u d waiting next
        ≡ AsBefore (start_lengths d waiting next) true (λ all. dash_rules d) (λ k. waiting) (λ all. replicate d.senders 0))
        × (start_next c h u d waiting next ≡ AsBefore (start_lengths d waiting next) true (λ all. dash_rules d) (λ k. next) (λ all. 0 ∷ []))
    unfolding start_answer start_waiting start_next beganFault
    senders_start_as_before waiting next = (
      call (start_lengths d waiting next) (λ k. true) (λ all. dash_rules d) Refused (λ all. Done),
      call (start_lengths d waiting next) (λ k. true) (λ all. dash_rules d) (λ k. waiting) (λ all. replicate d.senders 0),
      call (start_lengths d waiting next) (λ k. true) (λ all. dash_rules d) (λ k. next) (λ all. 0 ∷ []),
    )

    module _ (sender : ℕ) (word waiting words : List ℕ) where
      abbrev pub own_offer : List ℕ → List Rule
      own_offer all = dash_rules d ++ offer_rules d sender word waiting

      abbrev pub marks_lent : Bool
      marks_lent = eqb (length waiting) d.senders

      pub senders_offer_as_before : (offer_answer c h u d sender word waiting words
          ≡ AsBefore marks_lent (offer_lengths d word words n) own_offer Refused (λ all. Done))
          × (offer_waiting c h u d sender word waiting words
          ≡ AsBefore marks_lent (offer_lengths d word words n) own_offer (λ k. waiting) (λ all. set waiting sender 1))
          × (offer_words c h u d sender word waiting words
          ≡ AsBefore marks_lent (offer_lengths d word words n) own_offer (λ k. words) (λ all. with_part n words sender word))
      unfolding offer_answer offer_waiting offer_words offer_fault
      senders_offer_as_before = (
        call marks_lent (offer_lengths d word words) own_offer Refused (λ all. Done),
        call marks_lent (offer_lengths d word words) own_offer (λ k. waiting) (λ all. set waiting sender 1),
        ap (λ (k : ℕ). unless_refused (offer_fault c h u d sender word waiting words) (λ i. words) (with_part k words sender word))
            (unhidden-places c choice)
            ∙ call marks_lent (offer_lengths d word words) own_offer (λ k. words) (λ all. with_part n words sender word),
      )

    module _ (σ : State) (answers handed : List ℕ) where
      abbrev pub own_round : List ℕ → List Rule
      own_round all = round_rules d σ all

      pub senders_round_as_before : (round_answer c h u d σ answers handed
          ≡ AsBefore (round_lengths d σ answers) (round_words d σ handed n) own_round Refused (λ all. Done))
          × (waiting_after c h u d σ answers handed
          ≡ AsBefore (round_lengths d σ answers) (round_words d σ handed n) own_round (λ k. σ.waiting) (λ all. round_waiting c h all d σ))
          × (next_after c h u d σ answers handed
          ≡ AsBefore (round_lengths d σ answers) (round_words d σ handed n) own_round (λ k. σ.next) (λ all. round_next c h all d σ))
          × (answers_after c h u d σ answers handed
          ≡ AsBefore (round_lengths d σ answers) (round_words d σ handed n) own_round (λ k. answers) (λ all. round_answers c h all d σ))
          × (handed_after c h u d σ answers handed
          ≡ AsBefore (round_lengths d σ answers) (round_words d σ handed n) own_round (λ k. handed) (λ all. round_handed c h all d σ handed))
      unfolding round_answer waiting_after next_after answers_after handed_after round_fault
      senders_round_as_before = (
        call (round_lengths d σ answers) (round_words d σ handed) own_round Refused (λ all. Done),
        call (round_lengths d σ answers) (round_words d σ handed) own_round (λ k. σ.waiting) (λ all. round_waiting c h all d σ),
        call (round_lengths d σ answers) (round_words d σ handed) own_round (λ k. σ.next) (λ all. round_next c h all d σ),
        call (round_lengths d σ answers) (round_words d σ handed) own_round (λ k. answers) (λ all. round_answers c h all d σ),
        call (round_lengths d σ answers) (round_words d σ handed) own_round (λ k. handed) (λ all. round_handed c h all d σ handed),
      )

-- ---- cards: wholly as before, since no length follows from the marks

abbrev pub no_marks : Parameters → List ℕ
no_marks c = tabulate c.n (λ p. 0)

card_fault : (c : Parameters) (h : List ℕ) (others : Bool)
    → fault (setting_rules c h (unhidden c whole_code) others true) ≡ fault (code_rules others c h)
unfolding choice_rules
card_fault c h others =
    ap fault (sym (append-nil (setting_rules c h (unhidden c whole_code) others true)))
    ∙ unhidden-fault c whole_code h others true []
    ∙ fault_alike (choice_rules c h whole_code others true) (choice_rules c h whole_code others true) ((2 unless true) ∷ []) []
    (choice_numbered c h whole_code others true) (choice_numbered c h whole_code others true) refl (λ z. fault_past 2 [] refl refl)
    ∙ ap fault (append-nil (choice_rules c h whole_code others true))
    ∙ ap (λ (b : Bool). fault (code_rules b c h)) (and-true others)

-- what refuses a card, by which `check` answers and leaves its buffers
pub check_as_before : (c : Parameters) (h roots support : List ℕ)
    → check_fault c h (no_marks c) roots support ≡ fault (code_rules (eqb (length roots) c.n && eqb (length support) c.n) c h)
unfolding check_fault
check_as_before c h roots support = card_fault c h (eqb (length roots) c.n && eqb (length support) c.n)

module _ (c₁ : Parameters) (h₁ : List ℕ) (c₂ : Parameters) (h₂ : List ℕ) where
  pub same_refused_as_before : same_fault c₁ h₁ (no_marks c₁) c₂ h₂ (no_marks c₂) ≡ lowest (fault (code_rules true c₁ h₁)) (fault (code_rules true c₂ h₂))
  unfolding same_fault
  same_refused_as_before = ap₂ lowest (card_fault c₁ h₁ true) (card_fault c₂ h₂ true)

  -- two accepted cards with nothing hidden are the same exactly if m, n, t, ω and h agree
  pub same_as_before : Accepted c₁ h₁ → Accepted c₂ h₂
      → (same_answer c₁ h₁ (no_marks c₁) c₂ h₂ (no_marks c₂) ≡ Same)
      ↔ ((c₁.m ≡ c₂.m) × (c₁.n ≡ c₂.n) × (c₁.t ≡ c₂.t) × (c₁.omega ≡ c₂.omega) × (h₁ ≡ h₂))
  same_as_before A₁ A₂ =
      let exactly = same_exactly A₁ (unhidden_fits c₁ whole_code tt) A₂ (unhidden_fits c₂ whole_code tt) in (
        λ e. let agree = exactly.0 e in (agree.m_same, agree.n_same, agree.t_same, agree.ω_same, agree.h_same),
        λ p. exactly.1
            (record {
              m_same = p.0;
              n_same = p.1;
              t_same = p.2;
              ω_same = p.3;
              h_same = p.4;
              marks_same = ap (λ (k : ℕ). tabulate k (λ p. 0)) p.1;
            }),
      )
