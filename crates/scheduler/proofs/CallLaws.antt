-- What a call tells that was not refused, what its lists are then, and that they are as they were where it was.
use Rattle.std.specs.Prelude.{◌≡◌, ◌≢◌, Bool, false, ◌&&◌, ℕ, ◌+◌, ◌*◌, ◌<◌, ◌≤◌, set, replicate}
use Rattle.std.proofs.Math.Path.{refl, sym, ap, ap₂, subst}
use Rattle.std.proofs.Common.{◌∙◌, get_or-set_same, get_or-set_other}
use Rattle.std.proofs.Math.Bool.{true, cond}
use mathlib.Core.List.{List, [], ◌∷◌, ◌++◌}
use Rattle.std.proofs.Math.Dec.{eqb}
use Rattle.std.proofs.Math.ListN.{length}
use borrow.Author.Tests.{eqb-true, ltb-true}
use Rattle.algebra.specs.Flags.{both_true}
use Rattle.algebra.specs.Lists.{entry_of}
use Rattle.algebra.specs.Parts.{part, with_part}
use Rattle.algebra.specs.PartLaws.{part_room, length_part, length_replaced, part_replaced, part_kept, part-joined}
use Rattle.algebra.specs.TabulateLaws.{get_d_tabulate}
use Rattle.refusals.specs.Rules.{Rule, fault}
use Rattle.refusals.specs.RuleLaws.{hold, first_holds, refuse, given}
use Rattle.slices.specs.Bits.{all_bits}
use Rattle.params.specs.declared.Parameters.{Parameters}
use Rattle.params.specs.Code.{Accepted}
use Rattle.shortened.specs.Fits.{Fits}
use Rattle.shortened.specs.Setting.{Setting, places, columns_of, setting_rules}
use Rattle.shortened.proofs.SettingLaws.{setting_accepted, setting_leaves, length_columns}
use Rattle.repair.specs.Decoding.{word_answer, word_after}
use Rattle.wire.specs.Wire.{recovery_code}
use Rattle.scheduler.specs.declared.Dash.{Dash}
use Rattle.scheduler.specs.State.{State, word_at, dash_rules, offer_rules}
use Rattle.scheduler.specs.StateLaws.{lent_state}
use Rattle.scheduler.specs.Round.{none, leaves, answer_at, waiting_at, handed_at, round_waiting, round_next, round_answers, round_handed}
use Rattle.scheduler.specs.RoundLaws.{length_after}
use Rattle.scheduler.specs.Parts.{LentState}
use Rattle.scheduler.specs.Answers.{start_lengths, start_fault, start_waiting, start_next, offer_lengths, offer_fault, offer_waiting, offer_words}
use Rattle.scheduler.specs.Answers.{round_lengths, round_words, round_rules, round_fault, waiting_after, next_after, answers_after, handed_after}

-- a call whose rules all hold was begun for an accepted code, and its own rules hold
own_none : (c : Parameters) (h : List ℕ) (s : Setting) (others words : Bool) (own : List Rule) → fault (setting_rules c h s others words ++ own) ≡ 0
    → (others ≡ true) × (words ≡ true) × Accepted c h × Fits c h s × (fault own ≡ 0)
own_none c h s others words own z =
    let (o, w, A, F) = setting_accepted c h s others words (first_holds (setting_rules c h s others words) own z) in
    (o, w, A, F, sym (setting_leaves A s F o w own) ∙ z)

-- ---- the start

module _ (c : Parameters) (h : List ℕ) (s : Setting) (d : Dash) (waiting next : List ℕ) (z : start_fault c h s d waiting next ≡ 0) where
  pub start_made : Accepted c h × Fits c h s × (fault (dash_rules d) ≡ 0)
  unfolding start_fault
  start_made =
      let (o, w, A, F, own) = own_none c h s (start_lengths d waiting next) true (dash_rules d) z in (A, F, own)

  pub start_waiting_lem : start_waiting c h s d waiting next ≡ replicate d.senders 0
  unfolding start_waiting
  start_waiting_lem = given (λ k. waiting) (replicate d.senders 0) z

  pub start_next_lem : start_next c h s d waiting next ≡ 0 ∷ []
  unfolding start_next
  start_next_lem = given (λ k. next) (0 ∷ []) z

-- ---- an offer

pub record OfferMade (c : Parameters) (h : List ℕ) (s : Setting) (d : Dash) (sender : ℕ) (word waiting words : List ℕ) : Type 0 where
  pub accepted : Accepted c h
  pub fits : Fits c h s
  pub waiting_long : length waiting ≡ d.senders
  pub word_long : length word ≡ places s
  pub words_long : length words ≡ d.senders * places s
  pub known : sender < d.senders
  pub free : entry_of waiting sender ≡ 0
  pub bits : all_bits word ≡ true
  pub waiting_is : offer_waiting c h s d sender word waiting words ≡ set waiting sender 1
  pub words_are : offer_words c h s d sender word waiting words ≡ with_part (places s) words sender word

module _ (c : Parameters) (h : List ℕ) (s : Setting) (d : Dash) (sender : ℕ) (word waiting words : List ℕ) where
  pub offer_made : offer_fault c h s d sender word waiting words ≡ 0 → OfferMade c h s d sender word waiting words
  unfolding offer_fault offer_lengths offer_waiting offer_words dash_rules offer_rules
  offer_made z =
      let rules = dash_rules d ++ offer_rules d sender word waiting in
      let lengths = eqb (length word) (places s) && eqb (length words) (d.senders * places s) in
      let (o, w, A, F, own) = own_none c h s (eqb (length waiting) d.senders) lengths rules z in
      let (one, all) = both_true (eqb (length word) (places s)) (eqb (length words) (d.senders * places s)) w in
      let held = hold rules tt own in
      record {
        accepted = A;
        fits = F;
        waiting_long = eqb-true (length waiting) d.senders o;
        word_long = eqb-true (length word) (places s) one;
        words_long = eqb-true (length words) (d.senders * places s) all;
        known = ltb-true sender d.senders held.1.1.0;
        free = eqb-true (entry_of waiting sender) 0 held.1.1.1.0;
        bits = held.1.1.1.1.0;
        waiting_is = given (λ k. waiting) (set waiting sender 1) z;
        words_are = given (λ k. words) (with_part (places s) words sender word) z;
      }

  pub offer_unchanged : offer_fault c h s d sender word waiting words ≢ 0
      → (offer_waiting c h s d sender word waiting words ≡ waiting) × (offer_words c h s d sender word waiting words ≡ words)
  unfolding offer_waiting offer_words
  offer_unchanged ne = (sym (refuse (λ k. waiting) (set waiting sender 1) refl ne), sym (refuse (λ k. words) _ refl ne))

-- what it says of each sender
module _ {c : Parameters} {h : List ℕ} {s : Setting} {d : Dash} {sender : ℕ} {word waiting words : List ℕ}
    (O : OfferMade c h s d sender word waiting words) where
  inside : (p : ℕ) → p < d.senders → p * places s + places s ≤ length words
  inside p l = subst (λ (k : ℕ). p * places s + places s ≤ k) (sym O.words_long) (part_room (places s) l)

  pub offered_long : length (offer_words c h s d sender word waiting words) ≡ d.senders * places s
  offered_long = ap length O.words_are ∙ length_replaced (places s) words sender word O.word_long (inside sender O.known) ∙ O.words_long

  pub offered_mark : entry_of (offer_waiting c h s d sender word waiting words) sender ≡ 1
  offered_mark =
      ap (λ (x : List ℕ). entry_of x sender) O.waiting_is
      ∙ get_or-set_same waiting sender 1 0 (subst (λ (k : ℕ). sender < k) (sym O.waiting_long) O.known)

  pub offered_word : part (places s) (offer_words c h s d sender word waiting words) sender ≡ word
  offered_word =
      ap (λ (x : List ℕ). part (places s) x sender) O.words_are
      ∙ part_replaced (places s) words sender word O.word_long (inside sender O.known)

  module _ (p : ℕ) (ne : p ≢ sender) where
    pub kept_mark_lem : entry_of (offer_waiting c h s d sender word waiting words) p ≡ entry_of waiting p
    kept_mark_lem = ap (λ (x : List ℕ). entry_of x p) O.waiting_is ∙ get_or-set_other waiting sender p 1 0 ne

    pub kept_word : p < d.senders → part (places s) (offer_words c h s d sender word waiting words) p ≡ part (places s) words p
    kept_word l =
        ap (λ (x : List ℕ). part (places s) x p) O.words_are
        ∙ part_kept (places s) words sender word O.word_long (inside sender O.known) p ne (inside p l)

-- ---- a round

pub record RoundMade (c : Parameters) (h : List ℕ) (s : Setting) (d : Dash) (σ : State) (answers handed : List ℕ) : Type 0 where
  pub accepted : Accepted c h
  pub fits : Fits c h s
  pub lent : LentState d (length (columns_of c s)) σ answers handed
  pub none : fault (round_rules d σ (columns_of c s)) ≡ 0
  pub waiting_is : waiting_after c h s d σ answers handed ≡ round_waiting c h (columns_of c s) d σ
  pub next_is : next_after c h s d σ answers handed ≡ round_next c h (columns_of c s) d σ
  pub answers_are : answers_after c h s d σ answers handed ≡ round_answers c h (columns_of c s) d σ
  pub handed_are : handed_after c h s d σ answers handed ≡ round_handed c h (columns_of c s) d σ handed

module _ (c : Parameters) (h : List ℕ) (s : Setting) (d : Dash) (σ : State) (answers handed : List ℕ) where
  pub round_made : round_fault c h s d σ answers handed ≡ 0 → RoundMade c h s d σ answers handed
  unfolding round_fault waiting_after next_after answers_after handed_after
  round_made z =
      let (o, w, A, F, own) =
      own_none c h s (round_lengths d σ answers) (round_words d σ handed (places s)) (round_rules d σ (columns_of c s)) z in
      record {
        accepted = A;
        fits = F;
        lent =
            subst (λ (n : ℕ). LentState d n σ answers handed) (sym (length_columns c s)) (lent_state d (places s) σ answers handed o w);
        none = own;
        waiting_is = given (λ k. σ.waiting) (round_waiting c h (columns_of c s) d σ) z;
        next_is = given (λ k. σ.next) (round_next c h (columns_of c s) d σ) z;
        answers_are = given (λ k. answers) (round_answers c h (columns_of c s) d σ) z;
        handed_are = given (λ k. handed) (round_handed c h (columns_of c s) d σ handed) z;
      }

  pub round_unchanged : round_fault c h s d σ answers handed ≢ 0
      → (waiting_after c h s d σ answers handed ≡ σ.waiting) × (next_after c h s d σ answers handed ≡ σ.next)
      × (answers_after c h s d σ answers handed ≡ answers) × (handed_after c h s d σ answers handed ≡ handed)
  unfolding waiting_after next_after answers_after handed_after
  round_unchanged ne = (
    sym (refuse (λ k. σ.waiting) _ refl ne),
    sym (refuse (λ k. σ.next) _ refl ne),
    sym (refuse (λ k. answers) _ refl ne),
    sym (refuse (λ k. handed) _ refl ne),
  )

  -- ---- by sender

  module _ (M : RoundMade c h s d σ answers handed) (p : ℕ) (l : p < d.senders) where
    abbrev n : ℕ
    n = length (columns_of c s)

    answer_at_lem : entry_of (answers_after c h s d σ answers handed) p ≡ answer_at c h (columns_of c s) d σ p
    unfolding round_answers
    answer_at_lem = ap (λ (x : List ℕ). entry_of x p) M.answers_are ∙ get_d_tabulate d.senders (answer_at c h (columns_of c s) d σ) p 0 l

    pub waiting_at_lem : entry_of (waiting_after c h s d σ answers handed) p ≡ cond (leaves c h (columns_of c s) d σ p) 0 (entry_of σ.waiting p)
    unfolding round_waiting waiting_at
    waiting_at_lem = ap (λ (x : List ℕ). entry_of x p) M.waiting_is ∙ get_d_tabulate d.senders (waiting_at c h (columns_of c s) d σ) p 0 l

    handed_at_lem : part (places s) (handed_after c h s d σ answers handed) p ≡ handed_at c h (columns_of c s) d σ handed p
    unfolding round_handed handed_at
    handed_at_lem =
        ap₂ (λ (k : ℕ) (x : List ℕ). part k x p) (sym (length_columns c s)) M.handed_are
        ∙ part-joined n (handed_at c h (columns_of c s) d σ handed) d.senders (λ q lq. wide q lq (leaves c h (columns_of c s) d σ q)) p l
      where
        old : (q : ℕ) → q < d.senders → length (part n handed q) ≡ n
        old q lq = length_part n handed q (subst (λ (k : ℕ). q * n + n ≤ k) (sym M.lent.handed_long) (part_room n lq))

        wide : (q : ℕ) → q < d.senders → (b : Bool)
            → length (cond b (word_after c h (columns_of c s) (part n σ.words q) (part n handed q)) (part n handed q)) ≡ n
        wide q lq true = length_after c h (columns_of c s) (part n σ.words q) (part n handed q) (old q lq)
        wide q lq false = old q lq

    -- a word that leaves, and one that does not
    module _ (e : leaves c h (columns_of c s) d σ p ≡ true) where
      pub left_answer : entry_of (answers_after c h s d σ answers handed) p ≡ recovery_code (word_answer c h (columns_of c s) (word_at (places s) σ p))
      unfolding answer_at
      left_answer =
          answer_at_lem ∙ ap (λ (b : Bool). cond b (recovery_code (word_answer c h (columns_of c s) (word_at n σ p))) none) e
          ∙ ap (λ (k : ℕ). recovery_code (word_answer c h (columns_of c s) (word_at k σ p))) (length_columns c s)

      pub left_handed : part (places s) (handed_after c h s d σ answers handed) p
          ≡ word_after c h (columns_of c s) (word_at (places s) σ p) (part (places s) handed p)
      unfolding handed_at
      left_handed =
          handed_at_lem
          ∙ ap (λ (b : Bool). cond b (word_after c h (columns_of c s) (word_at n σ p) (part n handed p)) (part n handed p)) e
          ∙ ap (λ (k : ℕ). word_after c h (columns_of c s) (word_at k σ p) (part k handed p)) (length_columns c s)

      pub left_waiting : entry_of (waiting_after c h s d σ answers handed) p ≡ 0
      left_waiting = waiting_at_lem ∙ ap (λ (b : Bool). cond b 0 (entry_of σ.waiting p)) e

    module _ (e : leaves c h (columns_of c s) d σ p ≡ false) where
      pub stayed_answer : entry_of (answers_after c h s d σ answers handed) p ≡ none
      unfolding answer_at
      stayed_answer = answer_at_lem ∙ ap (λ (b : Bool). cond b (recovery_code (word_answer c h (columns_of c s) (word_at n σ p))) none) e

      pub stayed_handed : part (places s) (handed_after c h s d σ answers handed) p ≡ part (places s) handed p
      unfolding handed_at
      stayed_handed =
          handed_at_lem
          ∙ ap (λ (b : Bool). cond b (word_after c h (columns_of c s) (word_at n σ p) (part n handed p)) (part n handed p)) e
          ∙ ap (λ (k : ℕ). part k handed p) (length_columns c s)

      pub stayed_waiting : entry_of (waiting_after c h s d σ answers handed) p ≡ entry_of σ.waiting p
      stayed_waiting = waiting_at_lem ∙ ap (λ (b : Bool). cond b 0 (entry_of σ.waiting p)) e
