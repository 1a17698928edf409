-- Selections: when 14 and 15 are given, by every call on words. For an accepted code, lists of their lengths, a mark for each place, and buffers of
-- their lengths where these do not follow from the marks, 14 is given exactly if a block does not exist or is named twice, and 15 exactly if that is
-- not so and a shift is too large. What the marks hold, and the lengths of words, are looked at later.
use Rattle.std.specs.Prelude.{◌≡◌, ◌≢◌, ◌↔◌, Bool, true, false, ◌&&◌, List, ◌∷◌, ◌++◌, ℕ, ◌*◌, ◌/◌, ◌<◌, ◌≤◌, length}
use Rattle.std.proofs.Math.Path.{refl, ap}
use Rattle.std.proofs.Common.{sym, ◌∙◌, append_assoc, arith, eq-eqb, le-leb}
use Rattle.std.proofs.Math.Dec.{eqb}
use Rattle.algebra.specs.Distinct.{distinct}
use Rattle.algebra.specs.DistinctLaws.{distinct_is, repeated}
use Rattle.algebra.specs.Flags.{both_hold}
use Rattle.algebra.specs.Lists.{entry_of}
use Rattle.refusals.specs.Answered.{refused_due, done_apart, same_outcome, counted_apart, same_counted}
use Rattle.refusals.specs.Counted.{Refused as NotCounted}
use Rattle.refusals.specs.Outcome.{Done, Refused}
use Rattle.refusals.specs.Rules.{Rule, ◌unless◌, fault, unless_refused}
use Rattle.refusals.specs.RuleLaws.{fault_here, fault_past, refuse}
use Rattle.slices.specs.Bits.{all_bits}
use Rattle.params.specs.declared.Parameters.{Parameters}
use Rattle.params.proofs.Calls.{code_leaves}
use Rattle.params.specs.Code.{Accepted, code_rules}
use Rattle.parity.specs.Columns.{dimension}
use Rattle.columns.specs.Choice.{Choice.selection, all_columns, all_below, has_lengths, selection_rules, choice_rules}
use Rattle.columns.proofs.ChoiceLaws.{below_is, beyond_is}
use Rattle.shortened.specs.Marks.{mark_rules}
use Rattle.shortened.specs.Setting.{Setting, short_selection, places, columns_of, is_marked, setting_rules}
use Rattle.messages.specs.MessageRules.{message_rules}
use Rattle.words.specs.Answers.{bit_rules, roles_rules, roles_fault, roles_answer, syndrome_fault, syndrome_answer}
use Rattle.words.specs.Answers.{encode_fault, encode_answer, message_fault, message_answer}
use Rattle.repair.specs.declared.Recovery.TheVariants.{Refused as NotRepaired}
use Rattle.repair.specs.Answers.{word_rules, repair_fault, repair_answer}
use Rattle.rows.specs.declared.Reading.TheVariants.{Refused as NotRead}
use Rattle.rows.specs.Answers.{write_rules, read_rules, row_read, write_fault, write_answer, read_fault, read_answer}
use Rattle.rows.proofs.Laws.{read_apart, same_reading}
use Rattle.demands.specs.Lowest.{lacks, fault-lacks}
use Rattle.demands.specs.Outcomes.{repaired_apart, same_recovery}

-- "a block number of N/t or more, or one named twice"
pub data NoSuchBlock (c : Parameters) (blocks : List ℕ) : Type 0 where
  beyond : (b : ℕ) → b < length blocks → c.n / c.t ≤ entry_of blocks b → NoSuchBlock c blocks
  twice : (a b : ℕ) → a < b → b < length blocks → entry_of blocks a ≡ entry_of blocks b → NoSuchBlock c blocks

-- "15 shift: t or more"
pub data LargeShift (c : Parameters) (shifts : List ℕ) : Type 0 where
  large : (b : ℕ) → b < length shifts → c.t ≤ entry_of shifts b → LargeShift c shifts

-- how an answer tells them
abbrev pub Tells : {A : Type 0} → Parameters → List ℕ → List ℕ → A → (ℕ → A) → Type 0
Tells c blocks shifts answer refused =
    ((answer ≡ refused 14) ↔ NoSuchBlock c blocks) × ((answer ≡ refused 15) ↔ ((NoSuchBlock c blocks → ⊥) × LargeShift c shifts))

-- ---- for any call that comes past 1 to 7 and the selection's 2, with more rules that have other numbers

module _ (c : Parameters) (blocks shifts : List ℕ) where
  no_bad_block : all_below (c.n / c.t) blocks ≡ true → distinct blocks ≡ true → NoSuchBlock c blocks → ⊥
  no_bad_block inside once (beyond b l high) =
      let low : entry_of blocks b < c.n / c.t = (below_is (c.n / c.t) blocks).0 inside b l in omega arith
  no_bad_block inside once (twice a b l lb e) = (distinct_is blocks).0 once a b l lb e

  no_large_shift : all_below c.t shifts ≡ true → LargeShift c shifts → ⊥
  no_large_shift inside (large b l high) =
      let low : entry_of shifts b < c.t = (below_is c.t shifts).0 inside b l in omega arith

  block_beyond : all_below (c.n / c.t) blocks ≡ false → NoSuchBlock c blocks
  block_beyond f =
      let (b, l, high) = beyond_is (c.n / c.t) blocks f in beyond b l high

  block_twice : distinct blocks ≡ false → NoSuchBlock c blocks
  block_twice f =
      let (a, b, l, lb, e) = repeated blocks f in twice a b l lb e

  shift_large : all_below c.t shifts ≡ false → LargeShift c shifts
  shift_large f =
      let (b, l, high) = beyond_is c.t shifts f in large b l high

  module _ {A : Type 0} (refused : ℕ → A) (value : A) (apart : (k : ℕ) → refused k ≢ value) (same : (i j : ℕ) → refused i ≡ refused j → i ≡ j)
      (more : List Rule) (no-14 : lacks 14 more ≡ true) (no-15 : lacks 15 more ≡ true) {k : ℕ}
      (due : k ≡ fault ((14 unless all_below (c.n / c.t) blocks) ∷ (14 unless distinct blocks) ∷ (15 unless all_below c.t shifts) ∷ more)) where
    -- the number that a refusal tells is the one that is due
    is : {j : ℕ} → unless_refused k refused value ≡ refused j → k ≡ j
    is e = (refused_due refused value apart same k e).1

    by : {j : ℕ} → k ≡ j → j ≢ 0 → unless_refused k refused value ≡ refused j
    by e ne = sym (refuse refused value (sym e) ne)

    with_14 : k ≡ 14 → NoSuchBlock c blocks → Tells c blocks shifts (unless_refused k refused value) refused
    with_14 e bad = (
      (λ r. bad, λ b. by e (λ z. omega arith)),
      (λ r. let q : k ≡ 15 = is r in absurd (omega arith), λ b. absurd (b.0 bad)),
    )

    tells : Tells c blocks shifts (unless_refused k refused value) refused
    tells = decided (all_below (c.n / c.t) blocks) (distinct blocks) (all_below c.t shifts) refl refl refl
      where
        decided : (p q s : Bool) → all_below (c.n / c.t) blocks ≡ p → distinct blocks ≡ q → all_below c.t shifts ≡ s
            → Tells c blocks shifts (unless_refused k refused value) refused
        decided false q s ep eq es = with_14 (due ∙ fault_here 14 _ ep) (block_beyond ep)
        decided true false s ep eq es = with_14 (due ∙ fault_past 14 _ ep (fault_here 14 _ eq)) (block_twice eq)
        decided true true false ep eq es =
            let e : k ≡ 15 = due ∙ fault_past 14 _ ep (fault_past 14 _ eq (fault_here 15 more es)) in (
              (λ r. let q : k ≡ 14 = is r in absurd (omega arith), λ bad. absurd (no_bad_block ep eq bad)),
              (λ r. (no_bad_block ep eq, shift_large es), λ b. by e (λ z. omega arith)),
            )
        decided true true true ep eq es =
            let e : k ≡ fault more = due ∙ fault_past 14 _ ep (fault_past 14 _ eq (fault_past 15 more es refl)) in (
              (λ r. absurd (fault-lacks 14 more (λ z. omega arith) no-14 (sym e ∙ is r)), λ bad. absurd (no_bad_block ep eq bad)),
              (λ r. absurd (fault-lacks 15 more (λ z. omega arith) no-15 (sym e ∙ is r)), λ b. absurd (no_large_shift es b.1)),
            )

-- ---- the seven calls

module _ {c : Parameters} {h : List ℕ} (A : Accepted c h) (blocks shifts hidden : List ℕ) (some : 1 ≤ length blocks)
    (few : length blocks ≤ c.n / c.t) (as_many : length shifts ≡ length blocks) (marked : length hidden ≡ length blocks * c.t) where
  abbrev s : Setting
  s = short_selection blocks shifts hidden

  -- the rules of the marks, which come after 15
  abbrev marks : Bool → List Rule
  marks words = mark_rules c h (all_columns c (selection blocks shifts)) hidden words

  -- past the code's rules and the lengths
  past : {others full : Bool} → others ≡ true → full ≡ true → (more : List Rule)
      → fault (choice_rules c h (selection blocks shifts) others full ++ more)
      ≡ fault ((14 unless all_below (c.n / c.t) blocks) ∷ (14 unless distinct blocks) ∷ (15 unless all_below c.t shifts) ∷ more)
  unfolding choice_rules selection_rules has_lengths
  past {others} {full} o w more =
      ap fault (append_assoc (code_rules others c h) (selection_rules c blocks shifts full) more)
      ∙ code_leaves A o (selection_rules c blocks shifts full ++ more)
      ∙ fault_past 2 _
      (both_hold
      (both_hold (both_hold (le-leb 1 (length blocks) some) (le-leb (length blocks) (c.n / c.t) few))
      (eq-eqb (length shifts) (length blocks) as_many)) w)
      refl

  -- of a call with rules of its own
  past_lengths : {others : Bool} → others ≡ true → (words : Bool) (own : List Rule)
      → fault (setting_rules c h (short_selection blocks shifts hidden) others words ++ own)
      ≡ fault ((14 unless all_below (c.n / c.t) blocks) ∷ (14 unless distinct blocks) ∷ (15 unless all_below c.t shifts) ∷ (marks words ++ own))
  unfolding setting_rules
  past_lengths {others} o words own =
      ap fault (append_assoc (choice_rules c h (selection blocks shifts) others (is_marked c s)) (marks words) own)
      ∙ past o (eq-eqb (length hidden) (length blocks * c.t) marked) (marks words ++ own)

  pub roles_tells : (out : List ℕ) → length out ≡ length blocks * c.t
      → Tells c blocks shifts (roles_answer c h (short_selection blocks shifts hidden) out) NotCounted
  unfolding roles_answer roles_fault roles_rules mark_rules
  roles_tells out long =
      tells c blocks shifts NotCounted _ (counted_apart _) same_counted (marks true) refl refl
      (past refl (both_hold (eq-eqb (length hidden) (length blocks * c.t) marked) (eq-eqb (length out) (length blocks * c.t) long)) (marks true))

  pub syndrome_tells : (word out : List ℕ) → length out ≡ c.t
      → Tells c blocks shifts (syndrome_answer c h (short_selection blocks shifts hidden) word out) Refused
  unfolding syndrome_answer syndrome_fault bit_rules mark_rules
  syndrome_tells word out rows =
      let words = eqb (length word) (places s) in
      tells c blocks shifts Refused Done done_apart same_outcome (marks words ++ bit_rules word) refl refl
      (past_lengths (eq-eqb (length out) c.t rows) words (bit_rules word))

  pub encode_tells : (message word : List ℕ) → Tells c blocks shifts (encode_answer c h (short_selection blocks shifts hidden) message word) Refused
  unfolding encode_answer encode_fault message_rules mark_rules
  encode_tells message word =
      let words = eqb (length word) (places s) in
      let own = message_rules (dimension c h (columns_of c s)) (length message) (all_bits message) in
      tells c blocks shifts Refused Done done_apart same_outcome (marks words ++ own) refl refl (past_lengths refl words own)

  pub message_tells : (word message : List ℕ) → Tells c blocks shifts (message_answer c h (short_selection blocks shifts hidden) word message) Refused
  unfolding message_answer message_fault message_rules mark_rules
  message_tells word message =
      let words = eqb (length word) (places s) in
      let own = message_rules (dimension c h (columns_of c s)) (length message) (all_bits word) in
      tells c blocks shifts Refused Done done_apart same_outcome (marks words ++ own) refl refl (past_lengths refl words own)

  pub repair_tells : (received repaired : List ℕ)
      → Tells c blocks shifts (repair_answer c h (short_selection blocks shifts hidden) received repaired) NotRepaired
  unfolding repair_answer repair_fault word_rules mark_rules
  repair_tells received repaired =
      let words = eqb (length received) (places s) && eqb (length repaired) (places s) in
      let own = word_rules c h (columns_of c s) received in
      tells c blocks shifts NotRepaired _ (repaired_apart _) same_recovery (marks words ++ own) refl refl (past_lengths refl words own)

  pub write_row_tells : (gear lamp : ℕ) (word : List ℕ)
      → Tells c blocks shifts (write_answer c h (short_selection blocks shifts hidden) gear lamp word) Refused
  unfolding write_answer write_fault write_rules mark_rules
  write_row_tells gear lamp word =
      let words = eqb (length word) (places s) in
      let own = write_rules c h (columns_of c s) gear lamp in
      tells c blocks shifts Refused Done done_apart same_outcome (marks words ++ own) refl refl (past_lengths refl words own)

  pub read_row_tells : (received repaired : List ℕ)
      → Tells c blocks shifts (read_answer c h (short_selection blocks shifts hidden) received repaired) NotRead
  unfolding read_answer read_fault row_read read_rules word_rules mark_rules
  read_row_tells received repaired =
      let words = eqb (length received) (places s) && eqb (length repaired) (places s) in
      let own = read_rules c h (columns_of c s) received in
      tells c blocks shifts NotRead _ (read_apart _ _) same_reading (marks words ++ own) refl refl (past_lengths refl words own)
