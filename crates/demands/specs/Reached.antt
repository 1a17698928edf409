-- States reached from the start by offers and rounds: nothing of the state refuses a round there, and with buffers of their lengths it is made. That
-- no sender starves is said in `Waiting`.
--
-- Everything is said at any setting s, whose words have n = `places s` places, those that are sent; the public calls are at `short_code hidden`.
use Rattle.std.specs.Prelude.{◌≡◌, ◌≢◌, Bool, ◌&&◌, ◌||◌, List, [], ◌∷◌, ◌++◌, ℕ, ◌*◌, ◌<◌, ◌≤◌, eqb}
use Rattle.std.proofs.Math.Path.{refl, ap, subst}
use Rattle.std.proofs.Common.{sym, ap₂, ◌∙◌, arith}
use Rattle.std.proofs.Math.Bool.{true, false, cond, not}
use Rattle.std.proofs.Math.Decide.{ℕ_discrete}
use Rattle.std.proofs.Math.ListN.{length, length-set}
use Rattle.std.proofs.lemmas.List.{length-replicate, get_or-replicate}
use borrow.Author.Tests.{eq-eqb, ne_eqb, lt-ltb}
use Rattle.algebra.specs.AllLaws.{all_true}
use Rattle.algebra.specs.Flags.{both_true}
use Rattle.algebra.specs.Lists.{entry_of}
use Rattle.algebra.specs.Parts.{part}
use Rattle.algebra.specs.TabulateLaws.{length-tabulate}
use Rattle.refusals.specs.Answered.{done_none, refused_due, done_apart, same_outcome}
use Rattle.refusals.specs.Outcome.{Done, Refused}
use Rattle.refusals.specs.Rules.{fault}
use Rattle.refusals.specs.RuleLaws.{hold, fault_none, fault_first, given}
use Rattle.slices.specs.Bits.{all_bits}
use Rattle.slices.specs.BitLaws.{bits_are}
use Rattle.params.specs.declared.Parameters.{Parameters}
use Rattle.params.specs.Code.{Accepted}
use Rattle.shortened.specs.Fits.{Fits}
use Rattle.shortened.specs.Setting.{Setting, places, columns_of, setting_rules}
use Rattle.shortened.proofs.SettingLaws.{setting_leaves, setting_fault, length_columns}
use Rattle.turns.specs.Turns.{next_turn}
use Rattle.turns.specs.TurnLaws.{next_below}
use Rattle.scheduler.specs.declared.Dash.{Dash}
use Rattle.scheduler.specs.State.{State, state_of, word_at, all_words, dash_rules, state_rules}
use Rattle.scheduler.specs.StateLaws.{dash_some, lengths_fit}
use Rattle.scheduler.specs.Round.{is_other, leaves, waiting_at, round_waiting, round_next}
use Rattle.scheduler.specs.Answers.{start_answer, start_fault, start_waiting, start_next, offer_fault}
use Rattle.scheduler.specs.Answers.{offer_waiting, offer_words, round_lengths, round_words, round_rules, round_fault}
use Rattle.scheduler.specs.Answers.{round_answer}
use Rattle.scheduler.proofs.CallLaws.{start_made, start_waiting_lem, start_next_lem, OfferMade, offer_made, offer_unchanged}
use Rattle.scheduler.proofs.CallLaws.{offered_long, offered_mark, offered_word, kept_mark_lem, kept_word}
use Rattle.scheduler.proofs.CallLaws.{round_made, round_unchanged, waiting_at_lem}
use Rattle.scheduler.specs.Play.{Event.offer, Event.round, after, Reached, Reached.started, Reached.offered, Reached.rounded}

-- ---- what holds in every state that is reached

pub record Sound (c : Parameters) (h : List ℕ) (s : Setting) (d : Dash) (σ : State) : Type 0 where
  pub accepted : Accepted c h
  pub fits : Fits c h s
  pub numbers : fault (dash_rules d) ≡ 0
  pub waiting_long : length σ.waiting ≡ d.senders
  pub next_long : length σ.next ≡ 1
  pub turn_is : entry_of σ.next 0 < d.senders
  pub marks : (p : ℕ) → p < d.senders → entry_of σ.waiting p < 2
  -- a word that waits was offered: there is room for it, and it is of bits
  pub words : (p : ℕ) → p < d.senders → entry_of σ.waiting p ≡ 1
      → (length σ.words ≡ d.senders * places s) × (all_bits (word_at (places s) σ p) ≡ true)

-- ---- the round's lists, one step unfolded

module _ (c : Parameters) (h cols : List ℕ) (d : Dash) (σ : State) where
  round_long : length (round_waiting c h cols d σ) ≡ d.senders
  unfolding round_waiting
  round_long = length-tabulate d.senders (waiting_at c h cols d σ)

  next_is : round_next c h cols d σ ≡ next_turn d.senders (entry_of σ.next 0) d.repairs (is_other c h cols d σ) ∷ []
  unfolding round_next
  next_is = refl

-- three lists as a state, each computed another way
states : {w w' x x' y y' : List ℕ} → w ≡ w' → x ≡ x' → y ≡ y' → state_of w x y ≡ state_of w' x' y'
states {w' = w'} {x = x} {x' = x'} {y = y} a b e =
    ap (λ (l : List ℕ). state_of l x y) a ∙ ap (λ (l : List ℕ). state_of w' l y) b ∙ ap (λ (l : List ℕ). state_of w' x' l) e

module _ (c : Parameters) (h : List ℕ) (s : Setting) (d : Dash) where
  -- the same lists
  again : (σ : State) → Sound c h s d σ → Sound c h s d (state_of σ.waiting σ.words σ.next)
  again σ T =
      record {
        accepted = T.accepted;
        fits = T.fits;
        numbers = T.numbers;
        waiting_long = T.waiting_long;
        next_long = T.next_long;
        turn_is = T.turn_is;
        marks = T.marks;
        words = T.words;
      }

  sound_start : (waiting words next : List ℕ) → start_fault c h s d waiting next ≡ 0
      → Sound c h s d (state_of (start_waiting c h s d waiting next) words (start_next c h s d waiting next))
  sound_start waiting words next z =
      let (A, F, numbers) = start_made c h s d waiting next z in
      let some : 1 ≤ d.senders = (dash_some d numbers).0 in
      subst (Sound c h s d) (sym (states (start_waiting_lem c h s d waiting next z) refl (start_next_lem c h s d waiting next z)))
      (record {
        accepted = A;
        fits = F;
        numbers = numbers;
        waiting_long = length-replicate d.senders 0;
        next_long = refl;
        turn_is = omega arith;
        marks = λ p l. subst (λ (x : ℕ). x < 2) (sym (get_or-replicate d.senders p 0 0 l)) (omega arith);
        words = λ p l e. absurd (nobody (sym (get_or-replicate d.senders p 0 0 l) ∙ e));
      })
    where
      nobody : ◌≡◌ {A = ℕ} 0 1 → ⊥
      nobody e = omega arith

  sound_offer : (σ : State) (sender : ℕ) (word : List ℕ) → Sound c h s d σ → Sound c h s d (after c h s d σ (offer sender word))
  unfolding after
  sound_offer σ sender word T = decided (ℕ_discrete (offer_fault c h s d sender word σ.waiting σ.words) 0)
    where
      decided : Dec (offer_fault c h s d sender word σ.waiting σ.words ≡ 0) → Sound c h s d (after c h s d σ (offer sender word))
      decided (no ne) =
          let (waiting, words) = offer_unchanged c h s d sender word σ.waiting σ.words ne in
          subst (Sound c h s d) (sym (states waiting words refl)) (again σ T)
      decided (yes z) =
          let O = offer_made c h s d sender word σ.waiting σ.words z in
          record {
            accepted = T.accepted;
            fits = T.fits;
            numbers = T.numbers;
            waiting_long = ap length O.waiting_is ∙ length-set σ.waiting sender 1 ∙ T.waiting_long;
            next_long = T.next_long;
            turn_is = T.turn_is;
            marks = λ p l. mark O p l (ℕ_discrete p sender);
            words = λ p l e. (offered_long O, bits O p l e (ℕ_discrete p sender));
          }
        where
          mark : OfferMade c h s d sender word σ.waiting σ.words → (p : ℕ) → p < d.senders → Dec (p ≡ sender)
              → entry_of (offer_waiting c h s d sender word σ.waiting σ.words) p < 2
          mark O p l (yes same) =
              subst (λ (x : ℕ). x < 2) (sym (ap (entry_of (offer_waiting c h s d sender word σ.waiting σ.words)) same ∙ offered_mark O))
              (omega arith)
          mark O p l (no ne) = subst (λ (x : ℕ). x < 2) (sym (kept_mark_lem O p ne)) (T.marks p l)

          bits : OfferMade c h s d sender word σ.waiting σ.words → (p : ℕ) → p < d.senders
              → entry_of (offer_waiting c h s d sender word σ.waiting σ.words) p ≡ 1 → Dec (p ≡ sender)
              → all_bits (part (places s) (offer_words c h s d sender word σ.waiting σ.words) p) ≡ true
          bits O p l e (yes same) =
              ap (λ (q : ℕ). all_bits (part (places s) (offer_words c h s d sender word σ.waiting σ.words) q)) same
              ∙ ap all_bits (offered_word O) ∙ O.bits
          bits O p l e (no ne) = ap all_bits (kept_word O p ne l) ∙ (T.words p l (sym (kept_mark_lem O p ne) ∙ e)).1

  sound_round : (σ : State) (answers handed : List ℕ) → Sound c h s d σ → Sound c h s d (after c h s d σ (round answers handed))
  unfolding after
  sound_round σ answers handed T = decided (ℕ_discrete (round_fault c h s d σ answers handed) 0)
    where
      old_mark : (b : Bool) {x : ℕ} → cond b 0 x ≡ 1 → x ≡ 1
      old_mark true e = absurd (omega arith)
      old_mark false e = e

      small : (b : Bool) {x : ℕ} → x < 2 → cond b 0 x < 2
      small true l = omega arith
      small false l = l

      decided : Dec (round_fault c h s d σ answers handed ≡ 0) → Sound c h s d (after c h s d σ (round answers handed))
      decided (no ne) =
          let (waiting, next, same, left) = round_unchanged c h s d σ answers handed ne in
          subst (Sound c h s d) (sym (states waiting refl next)) (again σ T)
      decided (yes z) =
          let M = round_made c h s d σ answers handed z in
          let leave = leaves c h (columns_of c s) d σ in
          record {
            accepted = T.accepted;
            fits = T.fits;
            numbers = T.numbers;
            waiting_long = ap length M.waiting_is ∙ waiting_length;
            next_long = ap length M.next_is ∙ one_number;
            turn_is =
                subst (λ (x : ℕ). x < d.senders) (sym (ap (λ (l : List ℕ). entry_of l 0) M.next_is ∙ the_number))
                (next_below T.turn_is d.repairs (is_other c h (columns_of c s) d σ));
            marks = λ p l.
                subst (λ (x : ℕ). x < 2) (sym (waiting_at_lem c h s d σ answers handed M p l)) (small (leave p) (T.marks p l));
            words = λ p l e. T.words p l (old_mark (leave p) (sym (waiting_at_lem c h s d σ answers handed M p l) ∙ e));
          }
        where
          waiting_length : length (round_waiting c h (columns_of c s) d σ) ≡ d.senders
          waiting_length = round_long c h (columns_of c s) d σ

          one_number : length (round_next c h (columns_of c s) d σ) ≡ 1
          one_number = ap length (next_is c h (columns_of c s) d σ)

          the_number : entry_of (round_next c h (columns_of c s) d σ) 0 ≡ next_turn d.senders (entry_of σ.next 0) d.repairs
              (is_other c h (columns_of c s) d σ)
          the_number = ap (λ (l : List ℕ). entry_of l 0) (next_is c h (columns_of c s) d σ)

  pub sound : (σ : State) → Reached c h s d σ → Sound c h s d σ
  unfolding start_answer
  sound σ (started waiting words next done) = sound_start waiting words next (done_none (start_fault c h s d waiting next) done)
  sound σ (offered τ sender word R) = sound_offer τ sender word (sound τ R)
  sound σ (rounded τ answers handed R) = sound_round τ answers handed (sound τ R)

  -- ---- a round in a state that is reached

  module _ (σ : State) (T : Sound c h s d σ) where
    state_passes : fault (round_rules d σ (columns_of c s)) ≡ 0
    unfolding dash_rules state_rules all_words
    state_passes =
        let numbers = hold (dash_rules d) tt T.numbers in
        let waiting : all_bits σ.waiting ≡ true =
        (bits_are σ.waiting).1 (λ p l. T.marks p (subst (λ (k : ℕ). p < k) T.waiting_long l)) in
        fault_none (round_rules d σ (columns_of c s)) (
          numbers.0,
          (
            numbers.1.0,
            (
              lt-ltb (entry_of σ.next 0) d.senders T.turn_is,
              (waiting, (all_true d.senders _ (λ p l. either p l (ℕ_discrete (entry_of σ.waiting p) 1)), tt)),
            ),
          ),
        )
      where
        either : (p : ℕ) → p < d.senders → Dec (entry_of σ.waiting p ≡ 1)
            → (not (eqb (entry_of σ.waiting p) 1) || all_bits (part (length (columns_of c s)) σ.words p)) ≡ true
        either p l (yes e) =
            ap (λ (b : Bool). not b || all_bits (part (length (columns_of c s)) σ.words p)) (eq-eqb (entry_of σ.waiting p) 1 e)
            ∙ ap (λ (n : ℕ). all_bits (part n σ.words p)) (length_columns c s) ∙ (T.words p l e).1
        either p l (no ne) =
            ap (λ (b : Bool). not b || all_bits (part (length (columns_of c s)) σ.words p)) (ne_eqb (entry_of σ.waiting p) 1 ne)

    module _ (answers handed : List ℕ) where
      by_lengths : round_fault c h s d σ answers handed ≡ cond (round_lengths d σ answers && round_words d σ handed (places s)) 0 2
      unfolding round_fault
      by_lengths = decided (round_lengths d σ answers && round_words d σ handed (places s)) refl
        where
          first : fault (setting_rules c h s (round_lengths d σ answers) (round_words d σ handed (places s)))
              ≡ cond (round_lengths d σ answers && round_words d σ handed (places s)) 0 2
          first = setting_fault T.accepted s T.fits (round_lengths d σ answers) (round_words d σ handed (places s))

          decided : (b : Bool) → (round_lengths d σ answers && round_words d σ handed (places s)) ≡ b
              → fault (setting_rules c h s (round_lengths d σ answers) (round_words d σ handed (places s)) ++ round_rules d σ (columns_of c s))
              ≡ cond (round_lengths d σ answers && round_words d σ handed (places s)) 0 2
          decided true e =
              let (o, w) = both_true (round_lengths d σ answers) (round_words d σ handed (places s)) e in
              setting_leaves T.accepted s T.fits o w (round_rules d σ (columns_of c s)) ∙ state_passes
              ∙ sym (ap (λ (b : Bool). cond b 0 2) e)
          decided false e =
              let two : fault (setting_rules c h s (round_lengths d σ answers) (round_words d σ handed (places s))) ≡ 2 =
              first ∙ ap (λ (b : Bool). cond b 0 2) e in
              fault_first (setting_rules c h s (round_lengths d σ answers) (round_words d σ handed (places s))) (round_rules d σ (columns_of c s))
              (λ z. some (sym two ∙ z)) ∙ two ∙ sym (ap (λ (b : Bool). cond b 0 2) e)
            where
              some : ◌≡◌ {A = ℕ} 2 0 → ⊥
              some e = omega arith

-- ---- the laws

module _ (c : Parameters) (h : List ℕ) (s : Setting) (d : Dash) (σ : State) (R : Reached c h s d σ) (answers handed : List ℕ) where
  -- A state that is reached never brings 18, 19 or 8 in a round: nothing but the length of a buffer refuses it.
  pub refused_by_lengths_alone : {k : ℕ} → round_answer c h s d σ answers handed ≡ Refused k → k ≡ 2
  unfolding round_answer
  refused_by_lengths_alone {k} e =
      let (ne, is) = refused_due Refused Done done_apart same_outcome (round_fault c h s d σ answers handed) e in
      two (round_lengths d σ answers && round_words d σ handed (places s)) (sym is ∙ by_lengths c h s d σ (sound c h s d σ R) answers handed)
      (λ z. ne (is ∙ z))
    where
      two : (b : Bool) → k ≡ cond b 0 2 → k ≢ 0 → k ≡ 2
      two true e ne = absurd (ne e)
      two false e ne = e

  -- and with buffers of their lengths the round is made
  pub round_is_made : length σ.words ≡ d.senders * places s → length answers ≡ d.senders → length handed ≡ d.senders * places s
      → round_answer c h s d σ answers handed ≡ Done
  unfolding round_answer
  round_is_made words told room =
      let T = sound c h s d σ R in
      let (o, w) =
      lengths_fit d (places s) σ answers handed
      (record { waiting_long = T.waiting_long; words_long = words; next_long = T.next_long; answers_long = told; handed_long = room }) in
      given Refused Done
      (by_lengths c h s d σ T answers handed ∙ ap (λ (b : Bool). cond b 0 2) (ap₂ (λ (x y : Bool). x && y) o w))
