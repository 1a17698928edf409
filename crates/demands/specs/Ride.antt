-- Rides: when one starts, how it ends, and what its four counts are.
--
-- Everything is said at any setting s, whose words have n = `places s` places, those that are sent; the public call is at `short_code hidden`. How a
-- step writes and reads its row is said by the calls on rows (`as_the_calls`).
use Rattle.std.specs.Prelude.{◌≡◌, ◌≢◌, ◌↔◌, ◌⊎◌, Bool, false, cond, ◌&&◌, ℕ, ◌+◌, ◌<◌, ◌≤◌, leb, length}
use Rattle.std.proofs.Math.Path.{refl, sym, ap, subst}
use Rattle.std.proofs.Common.{ap₂, ◌∙◌, inl, inr}
use Rattle.std.proofs.Math.Bool.{true}
use Rattle.std.proofs.lemmas.Bool.{false≢true}
use mathlib.Core.List.{List, [], ◌∷◌, ◌++◌, append_assoc}
use Rattle.std.proofs.Math.Decide.{ℕ_discrete}
use native.Mathlib.Omega.{arith}
use borrow.Author.Tests.{le-leb, leb-true, leb-false}
use Rattle.algebra.specs.Flags.{both_hold}
use Rattle.algebra.specs.Lists.{entry_of}
use Rattle.algebra.specs.Places.{count}
use Rattle.algebra.specs.Tabulate.{tabulate}
use Rattle.algebra.specs.TabulateLaws.{length-tabulate}
use Rattle.refusals.specs.Answered.{refused_due, done_apart, same_outcome}
use Rattle.refusals.specs.Outcome.{Outcome}
use Rattle.refusals.specs.Outcome.{Done, Refused}
use Rattle.refusals.specs.Rules.{Rule, ◌unless◌, fault}
use Rattle.refusals.specs.RuleLaws.{fault_here, fault_past, fault_none, fault_first, fault_rest, first_holds, hold, numbered_both}
use Rattle.refusals.specs.RuleLaws.{refuse, given}
use Rattle.slices.specs.Bits.{all_bits, IsBits}
use Rattle.params.specs.declared.Parameters.{Parameters}
use Rattle.params.specs.Code.{Accepted, shape_rules, code_rules}
use Rattle.signature.specs.Tests.{signature_rules}
use Rattle.parity.specs.Columns.{dimension}
use Rattle.columns.specs.Choice.{Choice, Choice.whole_code, Choice.selection, selection_rules, choice_rules}
use Rattle.shortened.specs.Fits.{Fits}
use Rattle.shortened.specs.Marks.{mark_rules}
use Rattle.shortened.specs.Setting.{Setting, shortened, places, columns_of, setting_rules}
use Rattle.shortened.proofs.SettingLaws.{setting_numbered, setting_accepted, setting_leaves, setting_fault, length_columns}
use Rattle.nearest.specs.Repair.{distance}
use Rattle.nearest.proofs.Search.{distance_comm}
use Rattle.nearest.specs.Turned.{turned}
use Rattle.nearest.proofs.TurnedLaws.{length-turned, turned_bits, turned-distance}
use Rattle.gears.specs.Messages.{row_lamp, lamp_number_lem}
use Rattle.gears.specs.Rows.{is_row, row_bits, row_of}
use Rattle.rows.specs.declared.Reading.TheVariants.{Refused as NotRead}
use Rattle.rows.specs.Answers.{row_read, reading_answer, write_answer, write_after, read_fault, read_answer}
use Rattle.rows.proofs.Laws.{answer_is, row_written, written_is, written_bits, turned_read, read_counted, read_within, read_repaired}
use Rattle.rows.proofs.Laws.{read_apart, same_reading}
use Rattle.simulation.specs.declared.Verdict.{Verdict}
use Rattle.simulation.specs.declared.Verdict.TheVariants.{Right}
use Rattle.simulation.specs.Steps.{Steps, step_count, gear_at, lamp_at, step_rules, marks_at, rules_at, steps_rules, is_made}
use Rattle.simulation.proofs.StepLaws.{Passes, PassBelow, first_refused, made_is, made, steps_pass, steps_stop}
use Rattle.simulation.specs.Ride.{verdict_of, is_right, is_held, is_wrong, is_marked, step_word, step_verdict, verdict_at, counts_up_to, ride_counts}
use Rattle.simulation.proofs.RideLaws.{counts_stop, counts_add, counts_made, counts_right}
use Rattle.simulation.specs.Lent.{LentSteps}
use Rattle.simulation.specs.LentLaws.{lent_exactly, lent_passes}
use Rattle.simulation.specs.Answers.{ride_lengths, marks_long, start_rules, ride_rules}
use Rattle.simulation.specs.Answers.{ride_fault, ride_answer, start_fault, ride_after}
use Rattle.demands.specs.Lowest.{lacks, fault-lacks}
use Rattle.demands.specs.Rows.{fault_is as read-fault}
use Rattle.demands.specs.Verdicts.{right_exactly}

-- ---- the steps

module _ (n : ℕ) (σ : Steps) where
  -- a step that can be made: its marks are 0 and 1, and its row can be written
  abbrev pub CanBeMade : ℕ → Type 0
  CanBeMade i = (all_bits (marks_at n σ i) ≡ true) × (is_row (gear_at σ i) (lamp_at σ i) ≡ true)

  -- "a mark other than 0 or 1"
  abbrev pub WrongMark : ℕ → Type 0
  WrongMark i = all_bits (marks_at n σ i) ≡ false

  -- "A row that can't be written", in a step without such a mark
  abbrev pub NoRow : ℕ → Type 0
  NoRow i = (all_bits (marks_at n σ i) ≡ true) × (is_row (gear_at σ i) (lamp_at σ i) ≡ false)

  -- the ride comes to step i: every step before it can be made
  abbrev pub ComesTo : ℕ → Type 0
  ComesTo i = (i < step_count σ) × ((j : ℕ) → j < i → CanBeMade j)

  passes : (i : ℕ) → Passes n σ i ↔ CanBeMade i
  unfolding rules_at step_rules
  passes i = (
    λ none. let H = hold (rules_at n σ i) tt none in (H.0, H.1.0),
    λ can. fault_none (rules_at n σ i) (can.0, (can.1, tt)),
  )

  -- a step is made if it can be, and every step before it
  pub made_exactly : (i : ℕ) → (is_made n σ i ≡ true) ↔ ((j : ℕ) → j ≤ i → CanBeMade j)
  made_exactly i = (λ t j l. (passes j).0 (made_is n σ t j (omega arith)), λ f. made n σ (λ j l. (passes j).1 (f j (omega arith))))

  pass_before : {i : ℕ} → ((j : ℕ) → j < i → CanBeMade j) → PassBelow n σ i
  pass_before f j l = (passes j).1 (f j l)

  refused_mark : (i : ℕ) → WrongMark i → fault (rules_at n σ i) ≡ 8
  unfolding rules_at step_rules
  refused_mark i wrong = fault_here 8 _ wrong

  refused_row : (i : ℕ) → NoRow i → fault (rules_at n σ i) ≡ 11
  unfolding rules_at step_rules
  refused_row i none = fault_past 8 _ none.0 (fault_here 11 [] none.1)

  step_ends : (i : ℕ) → CanBeMade i ⊎ WrongMark i ⊎ NoRow i
  step_ends i = decided (all_bits (marks_at n σ i)) (is_row (gear_at σ i) (lamp_at σ i)) refl refl
    where
      decided : (b r : Bool) → all_bits (marks_at n σ i) ≡ b → is_row (gear_at σ i) (lamp_at σ i) ≡ r → CanBeMade i ⊎ WrongMark i ⊎ NoRow i
      decided true true e q = inl (e, q)
      decided true false e q = inr (inr (e, q))
      decided false r e q = inr (inl e)

-- of two rules one fails
ten_or_eleven : (a b : Bool) {k : ℕ} → fault ((10 unless a) ∷ (11 unless b) ∷ []) ≡ k → k ≢ 0 → (k ≡ 10) ⊎ (k ≡ 11)
unfolding fault
ten_or_eleven true true e ne = absurd (ne (sym e))
ten_or_eleven true false e ne = inr (sym e)
ten_or_eleven false b e ne = inl (sym e)

-- ---- when a ride starts

-- an accepted code, a setting that fits it, and room for a row, since "12 is looked for before the ride starts"; beside it, "a list of at most 1,000
-- steps: gear, lamp, and a word of n bits" and "a lent buffer of four", which are `LentSteps`
pub record Started (c : Parameters) (h : List ℕ) (s : Setting) (σ : Steps) (counts : List ℕ) : Type 0 where
  pub accepted : Accepted c h
  pub fits : Fits c h s
  pub lent : LentSteps (places s) σ counts
  pub wide : row_bits ≤ dimension c h (columns_of c s)

module _ (c : Parameters) (h : List ℕ) (s : Setting) (σ : Steps) (counts : List ℕ) where
  abbrev before : List Rule
  before = setting_rules c h s (ride_lengths σ counts) (marks_long σ (places s))

  abbrev start : List Rule
  start = start_rules c h (columns_of c s)

  abbrev steps : List Rule
  steps = steps_rules (length (columns_of c s)) σ (step_count σ)

  pub starts_exactly : (start_fault c h s σ counts ≡ 0) ↔ Started c h s σ counts
  unfolding start_fault start_rules
  starts_exactly = (
    λ none.
        let (lists, marks, A, F) =
        setting_accepted c h s (ride_lengths σ counts) (marks_long σ (places s)) (first_holds before start none) in
        let room = hold start tt (sym (setting_leaves A s F lists marks start) ∙ none) in
        record {
          accepted = A;
          fits = F;
          lent = (lent_exactly (places s) σ counts).0 (both_hold lists marks);
          wide = leb-true row_bits (dimension c h (columns_of c s)) room.0;
        },
    λ S.
        let (lists, marks) = lent_passes (places s) σ counts S.lent in
        setting_leaves S.accepted s S.fits lists marks start
        ∙ fault_none start (le-leb row_bits (dimension c h (columns_of c s)) S.wide, tt),
  )

  fault_splits : ride_fault c h s σ counts ≡ fault ((before ++ start) ++ steps)
  unfolding ride_fault ride_rules
  fault_splits = ap fault (sym (append_assoc before start steps))

  -- past the start there are the steps
  started_fault : start_fault c h s σ counts ≡ 0 → ride_fault c h s σ counts ≡ fault (steps_rules (places s) σ (step_count σ))
  unfolding start_fault start_rules
  started_fault none =
      let are = numbered_both before start (setting_numbered c h s (ride_lengths σ counts) (marks_long σ (places s))) tt in
      fault_splits ∙ fault_rest (before ++ start) steps are none ∙ ap (λ (n : ℕ). fault (steps_rules n σ (step_count σ))) (length_columns c s)

  -- what refuses the start refuses the ride, and the buffer is left as it was
  pub unstarted : start_fault c h s σ counts ≢ 0
      → (ride_answer c h s σ counts ≡ Refused (start_fault c h s σ counts)) × (ride_after c h s σ counts ≡ counts)
  unfolding ride_answer start_fault ride_after
  unstarted ne = (
    sym (refuse Refused Done (sym (fault_splits ∙ fault_first (before ++ start) steps ne)) ne),
    sym (refuse (λ k. counts) (ride_counts c h (columns_of c s) σ) refl ne),
  )

  -- not by 8 or 11
  start-lacks : (k : Choice) (hidden : List ℕ) (others words : Bool)
      → (lacks 8 (setting_rules c h (shortened k hidden) others words ++ start) ≡ true)
      × (lacks 11 (setting_rules c h (shortened k hidden) others words ++ start) ≡ true)
  unfolding setting_rules choice_rules code_rules shape_rules signature_rules selection_rules mark_rules start_rules
  start-lacks whole_code hidden others words = (refl, refl)
  start-lacks (selection blocks shifts) hidden others words = (refl, refl)

  start_other : {k : ℕ} → (k ≡ 8) ⊎ (k ≡ 11) → start_fault c h s σ counts ≢ k
  unfolding start_fault
  start_other (inl z) e =
      fault-lacks 8 (before ++ start) (λ z. omega arith)
      (start-lacks s.choice s.hidden (ride_lengths σ counts) (marks_long σ (places s))).0 (e ∙ z)
  start_other (inr z) e =
      fault-lacks 11 (before ++ start) (λ z. omega arith)
      (start-lacks s.choice s.hidden (ride_lengths σ counts) (marks_long σ (places s))).1 (e ∙ z)

  -- ---- of an accepted code, at a setting that fits it: "A longer list, or marks of another length, is 2, and 12 is looked for before the ride
  -- starts."

  abbrev pub WrongLengths : Type 0
  WrongLengths = (ride_answer c h s σ counts ≡ Refused 2) × (LentSteps (places s) σ counts → ⊥)

  abbrev pub NoRoom : Type 0
  NoRoom = (ride_answer c h s σ counts ≡ Refused 12) × LentSteps (places s) σ counts × (dimension c h (columns_of c s) < row_bits)

  pub begins : Accepted c h → Fits c h s → WrongLengths ⊎ NoRoom ⊎ Started c h s σ counts
  unfolding start_fault start_rules
  begins A F = decided (ride_lengths σ counts && marks_long σ (places s)) (leb row_bits (dimension c h (columns_of c s))) refl refl
    where
      refused_by : {k : ℕ} → start_fault c h s σ counts ≡ k → k ≢ 0 → ride_answer c h s σ counts ≡ Refused k
      refused_by e ne = (unstarted (λ z. ne (sym e ∙ z))).0 ∙ ap Refused e

      not_none : ◌≡◌ {A = ℕ} 2 0 → ⊥
      not_none z = omega arith

      decided : (b w : Bool) → (ride_lengths σ counts && marks_long σ (places s)) ≡ b → leb row_bits (dimension c h (columns_of c s)) ≡ w
          → WrongLengths ⊎ NoRoom ⊎ Started c h s σ counts
      decided true true e q =
          inr (inr (record {
            accepted = A;
            fits = F;
            lent = (lent_exactly (places s) σ counts).0 e;
            wide = leb-true row_bits (dimension c h (columns_of c s)) q;
          }))
      decided true false e q =
          let L = (lent_exactly (places s) σ counts).0 e in
          let (lists, marks) = lent_passes (places s) σ counts L in
          inr (inl (
            refused_by (setting_leaves A s F lists marks start ∙ fault_here 12 [] q) (λ z. omega arith),
            L,
            leb-false row_bits (dimension c h (columns_of c s)) q,
          ))
      decided false w e q =
          let two : fault before ≡ 2 =
          setting_fault A s F (ride_lengths σ counts) (marks_long σ (places s)) ∙ ap (λ (b : Bool). cond b 0 2) e in
          inl (
            refused_by (fault_first before start (λ z. not_none (sym two ∙ z)) ∙ two) not_none,
            λ L. false≢true (sym e ∙ (lent_exactly (places s) σ counts).1 L),
          )

-- ---- a ride that has started

module _ {c : Parameters} {h : List ℕ} {s : Setting} {σ : Steps} {counts : List ℕ} (S : Started c h s σ counts) where
  abbrev n : ℕ
  n = places s

  abbrev answer : Outcome
  answer = ride_answer c h s σ counts

  abbrev after : List ℕ
  after = ride_after c h s σ counts

  -- what step i ends in
  abbrev verdict : ℕ → Verdict
  verdict i = verdict_at c h (columns_of c s) σ i

  -- ---- how it ends

  fault_is : ride_fault c h s σ counts ≡ fault (steps_rules n σ (step_count σ))
  fault_is = started_fault c h s σ counts ((starts_exactly c h s σ counts).1 S)

  rides : ((i : ℕ) → i < step_count σ → CanBeMade n σ i) → answer ≡ Done
  unfolding ride_answer
  rides all = given Refused Done (fault_is ∙ steps_pass n σ (step_count σ) (pass_before n σ all))

  stops : {i k : ℕ} → ComesTo n σ i → fault (rules_at n σ i) ≡ k → k ≢ 0 → answer ≡ Refused k
  unfolding ride_answer
  stops {i} {k} to e ne =
      let due = fault_is ∙ steps_stop n σ (step_count σ) to.0 (pass_before n σ to.1) (λ z. ne (sym e ∙ z)) ∙ e in
      sym (refuse Refused Done (sym due) ne)

  abbrev ToTheEnd : Type 0
  ToTheEnd = (answer ≡ Done) × ((i : ℕ) → i < step_count σ → CanBeMade n σ i)

  abbrev EndsBy8 : Type 0
  EndsBy8 = (answer ≡ Refused 8) × ((i : ℕ) × ComesTo n σ i × WrongMark n σ i)

  abbrev EndsBy11 : Type 0
  EndsBy11 = (answer ≡ Refused 11) × ((i : ℕ) × ComesTo n σ i × NoRow n σ i)

  -- there are these three ways
  pub ends : ToTheEnd ⊎ EndsBy8 ⊎ EndsBy11
  ends = by (first_refused n σ (step_count σ))
    where
      at : (i : ℕ) → ComesTo n σ i → fault (rules_at n σ i) ≢ 0 → CanBeMade n σ i ⊎ WrongMark n σ i ⊎ NoRow n σ i → ToTheEnd ⊎ EndsBy8 ⊎ EndsBy11
      at i to ne (inl can) = absurd (ne ((passes n σ i).1 can))
      at i to ne (inr (inl wrong)) = inr (inl (stops to (refused_mark n σ i wrong) (λ z. omega arith), (i, to, wrong)))
      at i to ne (inr (inr none)) = inr (inr (stops to (refused_row n σ i none) (λ z. omega arith), (i, to, none)))

      by : PassBelow n σ (step_count σ) ⊎ ((i : ℕ) × (i < step_count σ) × PassBelow n σ i × (fault (rules_at n σ i) ≢ 0))
          → ToTheEnd ⊎ EndsBy8 ⊎ EndsBy11
      by (inl pass) =
          let all : (i : ℕ) → i < step_count σ → CanBeMade n σ i = λ i l. (passes n σ i).0 (pass i l) in inl (rides all, all)
      by (inr (i, l, pass, ne)) = at i (l, λ j m. (passes n σ j).0 (pass j m)) ne (step_ends n σ i)

  apart : {i j : ℕ} → i ≢ j → answer ≡ Refused i → answer ≡ Refused j → ⊥
  apart {i} {j} ne e e' = ne (same_outcome i j (sym e ∙ e'))

  pub rides_to_the_end : (answer ≡ Done) ↔ ((i : ℕ) → i < step_count σ → CanBeMade n σ i)
  rides_to_the_end = (λ done. only done ends, rides)
    where
      only : answer ≡ Done → ToTheEnd ⊎ EndsBy8 ⊎ EndsBy11 → (i : ℕ) → i < step_count σ → CanBeMade n σ i
      only done (inl w) = w.1
      only done (inr (inl w)) = absurd (done_apart 8 (sym w.0 ∙ done))
      only done (inr (inr w)) = absurd (done_apart 11 (sym w.0 ∙ done))

  -- "a mark other than 0 or 1 ends it with 8, which goes first where one step has both": the row of that step is not asked after
  pub ends_by_8 : (answer ≡ Refused 8) ↔ ((i : ℕ) × ComesTo n σ i × WrongMark n σ i)
  ends_by_8 = (λ e. only e ends, λ w. stops w.1 (refused_mark n σ w.0 w.2) (λ z. omega arith))
    where
      only : answer ≡ Refused 8 → ToTheEnd ⊎ EndsBy8 ⊎ EndsBy11 → (i : ℕ) × ComesTo n σ i × WrongMark n σ i
      only e (inl w) = absurd (done_apart 8 (sym e ∙ w.0))
      only e (inr (inl w)) = w.1
      only e (inr (inr w)) = absurd (apart (λ z. omega arith) e w.0)

  -- "A row that can't be written ends the ride with 11"
  pub ends_by_11 : (answer ≡ Refused 11) ↔ ((i : ℕ) × ComesTo n σ i × NoRow n σ i)
  ends_by_11 = (λ e. only e ends, λ w. stops w.1 (refused_row n σ w.0 w.2) (λ z. omega arith))
    where
      only : answer ≡ Refused 11 → ToTheEnd ⊎ EndsBy8 ⊎ EndsBy11 → (i : ℕ) × ComesTo n σ i × NoRow n σ i
      only e (inl w) = absurd (done_apart 11 (sym e ∙ w.0))
      only e (inr (inl w)) = absurd (apart (λ z. omega arith) e w.0)
      only e (inr (inr w)) = w.1

  refused_by_step : {k : ℕ} → answer ≡ Refused k → (k ≡ 8) ⊎ (k ≡ 11)
  refused_by_step {k} e = only ends
    where
      only : ToTheEnd ⊎ EndsBy8 ⊎ EndsBy11 → (k ≡ 8) ⊎ (k ≡ 11)
      only (inl w) = absurd (done_apart k (sym e ∙ w.0))
      only (inr (inl w)) = inl (same_outcome k 8 (sym e ∙ w.0))
      only (inr (inr w)) = inr (same_outcome k 11 (sym e ∙ w.0))

  -- ---- its counts

  -- they are written however it ends
  pub after_is : after ≡ ride_counts c h (columns_of c s) σ
  unfolding ride_after
  after_is = given (λ k. counts) (ride_counts c h (columns_of c s) σ) ((starts_exactly c h s σ counts).1 S)

  -- of k steps: "steps, right (read as sent), held (refused on reading) and wrong (read, but not as sent), each defined from the list of steps"
  abbrev four_counts : ℕ → List ℕ
  four_counts k = k ∷ count k (λ i. is_right (verdict i)) ∷ count k (λ i. is_held (verdict i)) ∷ count k (λ i. is_wrong (verdict i)) ∷ []

  counted : {k : ℕ} → ((j : ℕ) → j < k → CanBeMade n σ j) → counts_up_to c h (columns_of c s) σ k ≡ four_counts k
  counted {k} f =
      counts_made c h (columns_of c s) σ k (subst (λ (n : ℕ). PassBelow n σ k) (sym (length_columns c s)) (pass_before n σ f))

  -- those of all steps, where the ride is not refused
  pub counts_of_all : answer ≡ Done → after ≡ four_counts (step_count σ)
  unfolding ride_counts
  counts_of_all done = after_is ∙ counted (rides_to_the_end.0 done)

  -- "In both cases the counts up to there, without that step, are written"
  pub counts_up_to_there : (i : ℕ) → ComesTo n σ i → WrongMark n σ i ⊎ NoRow n σ i
      → (after ≡ counts_up_to c h (columns_of c s) σ i) × (after ≡ four_counts i)
  unfolding ride_counts
  counts_up_to_there i to wrong =
      let stopped = subst (λ (n : ℕ). fault (rules_at n σ i) ≢ 0) (sym (length_columns c s)) (due wrong) in
      let there = after_is ∙ counts_stop c h (columns_of c s) σ (within to.0) stopped in
      (there, there ∙ counted to.1)
    where
      within : {i k : ℕ} → i < k → i ≤ k
      within l = omega arith

      due : WrongMark n σ i ⊎ NoRow n σ i → fault (rules_at n σ i) ≢ 0
      due (inl w) z =
          let e = refused_mark n σ i w in omega arith
      due (inr w) z =
          let e = refused_row n σ i w in omega arith

  -- "Steps equal the other three added up."
  pub steps_add : entry_of after 0 ≡ entry_of after 1 + entry_of after 2 + entry_of after 3
  unfolding ride_counts counts_up_to
  steps_add =
      subst (λ (l : List ℕ). entry_of l 0 ≡ entry_of l 1 + entry_of l 2 + entry_of l 3) (sym after_is) (counts_add c h (columns_of c s) σ (step_count σ))

  -- ---- its steps

  module _ (i : ℕ) (can : CanBeMade n σ i) where
    abbrev gear : ℕ
    gear = gear_at σ i

    abbrev lamp : ℕ
    lamp = lamp_at σ i

    -- the places of which the bits are turned
    abbrev is_turned : ℕ → Bool
    is_turned = is_marked (marks_at n σ i)

    module _ (word repaired : List ℕ) (long : length word ≡ n) (lent : length repaired ≡ n) where
      -- what is received of the row that is written
      abbrev received : List ℕ
      received = turned n is_turned (write_after c h s gear lamp word)

      -- "Each step writes the row, turns the bits and reads the row": as the two calls do it, in any buffers of n
      pub as_the_calls : (write_answer c h s gear lamp word ≡ Done) × (verdict i ≡ verdict_of gear lamp (read_answer c h s received repaired))
      unfolding verdict_at step_verdict step_word
      as_the_calls =
          let written = written_is S.accepted s S.fits S.wide gear lamp can.1 word long in
          let read = answer_is S.accepted s S.fits received repaired (length-turned n is_turned (write_after c h s gear lamp word)) lent in (
            row_written S.accepted s S.fits S.wide gear lamp can.1 word long,
            ap (λ (r : List ℕ). verdict_of gear lamp (reading_answer c h (columns_of c s) r))
                (ap₂ (λ (n : ℕ) (w : List ℕ). turned n (is_marked (marks_at n σ i)) w) (length_columns c s) (sym written))
                ∙ ap (verdict_of gear lamp) (sym read),
          )

      -- 10 and 11 are the numbers by which a row is held
      pub held_by : {k : ℕ} → read_answer c h s received repaired ≡ NotRead k → (k ≡ 10) ⊎ (k ≡ 11)
      unfolding read_answer row_read
      held_by {k} e =
          let sent = write_after c h s gear lamp word in
          let bits = turned_bits n is_turned sent (written_bits S.accepted s S.fits S.wide gear lamp can.1 word long).bits in
          let (ne, is) = refused_due NotRead _ (read_apart _ _) same_reading (read_fault c h s received repaired) e in
          ten_or_eleven _ _
          (sym (read-fault S.accepted s S.fits S.wide (record { long = length-turned n is_turned sent; bits = bits }) repaired lent) ∙ is)
          (λ z. ne (is ∙ z))

    -- ---- right is to turn at most t bits

    abbrev room : List ℕ
    room = tabulate n (λ j. 0)

    room_long : length room ≡ n
    room_long = length-tabulate n (λ j. 0)

    abbrev sent : List ℕ
    sent = write_after c h s gear lamp room

    abbrev arrived : List ℕ
    arrived = turned n is_turned sent

    sent_bits : IsBits n sent
    sent_bits = written_bits S.accepted s S.fits S.wide gear lamp can.1 room room_long

    turned_by : distance n arrived sent ≡ count n is_turned
    turned_by = distance_comm n arrived sent ∙ turned-distance n is_turned sent sent_bits.bits

    few_right : count n is_turned ≤ c.t → verdict i ≡ Right
    unfolding row_of
    few_right few =
        let bits : IsBits n arrived = record { long = length-turned n is_turned sent; bits = turned_bits n is_turned sent sent_bits.bits } in
        let near : distance n arrived sent ≤ c.t = subst (λ (d : ℕ). d ≤ c.t) (sym turned_by) few in
        (as_the_calls room room room_long room_long).1
        ∙ (right_exactly gear lamp (read_answer c h s arrived room)).1 (
          row_of gear lamp,
          distance n arrived sent,
          turned_read S.accepted s S.fits S.wide gear lamp can.1 room room_long bits room room_long near,
          (refl, lamp_number_lem lamp (row_lamp gear lamp can.1)),
        )

    -- what is read as sent was repaired to the word that was sent
    right_few : verdict i ≡ Right → count n is_turned ≤ c.t
    right_few right =
        let (row, repaired, e, (g, l)) =
        (right_exactly gear lamp (read_answer c h s arrived room)).0 (sym (as_the_calls room room room_long room_long).1 ∙ right) in
        let held = read_repaired c h s arrived room e room room_long ∙ ap₂ (λ (x y : ℕ). write_after c h s x y room) g l in
        subst (λ (d : ℕ). d ≤ c.t) (read_counted c h s arrived room e ∙ ap (distance n arrived) held ∙ turned_by)
        (read_within c h s arrived room e).1

    -- a step is right exactly if it turns at most t bits
    pub right_few_exactly : (verdict i ≡ Right) ↔ (count n is_turned ≤ c.t)
    right_few_exactly = (right_few, few_right)

  -- "When no step turns more than t bits, held and wrong are zero."
  pub few_turned : ((i : ℕ) → i < step_count σ → ((j : ℕ) → j ≤ i → CanBeMade n σ j) → count n (is_marked (marks_at n σ i)) ≤ c.t)
      → (entry_of after 2 ≡ 0) × (entry_of after 3 ≡ 0)
  unfolding ride_counts counts_up_to
  few_turned few =
      subst (λ (l : List ℕ). (entry_of l 2 ≡ 0) × (entry_of l 3 ≡ 0)) (sym after_is)
      (counts_right c h (columns_of c s) σ (step_count σ) (λ i l t. few_right i (can i t i (omega arith)) (few i l (can i t))))
    where
      can : (i : ℕ) → is_made (length (columns_of c s)) σ i ≡ true → (j : ℕ) → j ≤ i → CanBeMade n σ j
      can i t j l = subst (λ (n : ℕ). CanBeMade n σ j) (length_columns c s) ((made_exactly (length (columns_of c s)) σ i).0 t j l)

-- 8 and 11 are for a ride that has started, and the other numbers for one that has not
pub refused_started : (c : Parameters) (h : List ℕ) (s : Setting) (σ : Steps) (counts : List ℕ) {k : ℕ} → ride_answer c h s σ counts ≡ Refused k
    → Started c h s σ counts ↔ ((k ≡ 8) ⊎ (k ≡ 11))
refused_started c h s σ counts {k} e = (λ S. refused_by_step S e, λ step. decided step (ℕ_discrete (start_fault c h s σ counts) 0))
  where
    decided : (k ≡ 8) ⊎ (k ≡ 11) → Dec (start_fault c h s σ counts ≡ 0) → Started c h s σ counts
    decided step (yes none) = (starts_exactly c h s σ counts).0 none
    decided step (no ne) =
        absurd (start_other c h s σ counts step (same_outcome (start_fault c h s σ counts) k (sym (unstarted c h s σ counts ne).0 ∙ e)))
