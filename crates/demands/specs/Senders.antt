-- Several senders on one code: what a start and an offer leave, what a round hands out to whom, and whose turn it is then.
--
-- Everything is said at any setting s, whose words have n = `places s` places, those that are sent; the public calls are at `short_code hidden`.
use Rattle.std.specs.Prelude.{◌≡◌, refl, ◌≢◌, Bool, true, false, ◌&&◌, ◌||◌, ℕ, ◌+◌, ◌*◌, ◌%◌, ◌<◌, ◌≤◌, eqb, length}
use Rattle.std.proofs.Math.Path.{sym, ap, ap₂}
use Rattle.std.proofs.Common.{◌∙◌, subst, eq-eqb, ne_eqb, lt-ltb, le-ltb}
use Rattle.std.proofs.Math.Bool.{not}
use mathlib.Core.List.{List, [], ◌∷◌}
use Rattle.std.proofs.Math.Dec.{ltb}
use Rattle.std.proofs.Math.ListN.{get_or-replicate}
use Rattle.algebra.specs.Flags.{both_hold}
use Rattle.algebra.specs.Lists.{entry_of}
use Rattle.algebra.specs.Parts.{part}
use Rattle.algebra.specs.PartLaws.{part_room, length_part}
use Rattle.refusals.specs.Answered.{done_none}
use Rattle.refusals.specs.Outcome.{Done}
use Rattle.refusals.specs.Rules.{unless_refused}
use Rattle.params.specs.declared.Parameters.{Parameters}
use Rattle.params.specs.Code.{Accepted}
use Rattle.parity.specs.Word.{is_code_word}
use Rattle.shortened.specs.Fits.{Fits}
use Rattle.shortened.specs.Setting.{Setting, places, columns_of}
use Rattle.shortened.proofs.SettingLaws.{setting_leaves, length_columns}
use Rattle.nearest.specs.Repair.{repaired_of}
use Rattle.repair.specs.declared.Recovery.TheVariants.{Repaired, Refused as NotRepaired}
use Rattle.repair.specs.Answers.{word_rules, turned_count, repair_fault, repair_answer, repair_after}
use Rattle.repair.specs.Decoding.{word_answer, word_after}
use Rattle.turns.specs.Turns.{sender_at, turn_of, others_before, is_tried, next_turn}
use Rattle.turns.specs.TurnLaws.{next_same, next_unmoved, next_follows}
use Rattle.wire.specs.Wire.{recovery_code}
use Rattle.scheduler.specs.declared.Dash.{Dash}
use Rattle.scheduler.specs.State.{State, word_at}
use Rattle.scheduler.specs.StateLaws.{turn_inside}
use Rattle.scheduler.specs.Round.{none, is_whole, is_other, leaves, round_next}
use Rattle.scheduler.specs.Answers.{start_answer, start_fault, start_waiting, start_next, offer_answer, offer_fault, offer_waiting, offer_words}
use Rattle.scheduler.specs.Answers.{round_answer, round_fault, waiting_after, next_after, answers_after, handed_after}
use Rattle.scheduler.proofs.CallLaws.{start_waiting_lem, start_next_lem, OfferMade, offer_made, offered_mark, offered_word, kept_mark_lem, kept_word}
use Rattle.scheduler.proofs.CallLaws.{RoundMade, round_made, left_answer, left_handed, left_waiting, stayed_answer, stayed_handed, stayed_waiting}
use Rattle.demands.specs.Interface.{recovery_apart}

-- ---- the start and an offer

module _ (c : Parameters) (h : List ℕ) (s : Setting) (d : Dash) where
  -- no word waits at the start, and it is the turn of sender 0
  pub starts_empty : (waiting next : List ℕ) → start_answer c h s d waiting next ≡ Done
      → ((p : ℕ) → p < d.senders → entry_of (start_waiting c h s d waiting next) p ≡ 0) × (start_next c h s d waiting next ≡ 0 ∷ [])
  unfolding start_answer
  starts_empty waiting next done =
      let z = done_none (start_fault c h s d waiting next) done in (
        λ p l. ap (λ (x : List ℕ). entry_of x p) (start_waiting_lem c h s d waiting next z) ∙ get_or-replicate d.senders p 0 0 l,
        start_next_lem c h s d waiting next z,
      )

  module _ (sender : ℕ) (word waiting words : List ℕ) (done : offer_answer c h s d sender word waiting words ≡ Done) where
    offered : OfferMade c h s d sender word waiting words
    unfolding offer_answer
    offered = offer_made c h s d sender word waiting words (done_none (offer_fault c h s d sender word waiting words) done)

    -- the word that is offered waits
    pub offer_waits : (entry_of waiting sender ≡ 0) × (entry_of (offer_waiting c h s d sender word waiting words) sender ≡ 1)
        × (part (places s) (offer_words c h s d sender word waiting words) sender ≡ word)
    offer_waits = (offered.free, offered_mark offered, offered_word offered)

    -- and nothing else is touched
    pub offer_keeps : (p : ℕ) → p < d.senders → p ≢ sender
        → (entry_of (offer_waiting c h s d sender word waiting words) p ≡ entry_of waiting p)
        × (part (places s) (offer_words c h s d sender word waiting words) p ≡ part (places s) words p)
    offer_keeps p l ne = (kept_mark_lem offered p ne, kept_word offered p ne l)

-- ---- repair alone

-- what repair answers, and leaves in a buffer, for a word of an accepted code
pub repair_alone : {c : Parameters} {h : List ℕ} → Accepted c h → (s : Setting) → Fits c h s → (word buffer : List ℕ) → length word ≡ places s
    → length buffer ≡ places s
    → (repair_answer c h s word buffer ≡ word_answer c h (columns_of c s) word) ×
    (repair_after c h s word buffer ≡ word_after c h (columns_of c s) word buffer)
unfolding repair_answer repair_after repair_fault word_answer word_after
repair_alone {c} {h} A s F word buffer long room =
    let rest =
    setting_leaves A s F refl (both_hold (eq-eqb (length word) (places s) long) (eq-eqb (length buffer) (places s) room))
    (word_rules c h (columns_of c s) word) in (
      ap (λ (k : ℕ). unless_refused k NotRepaired (Repaired (turned_count c h (columns_of c s) word))) rest,
      ap (λ (k : ℕ). unless_refused k (λ i. buffer) (repaired_of c h (columns_of c s) word)) rest,
    )

-- ---- a round, by sender

-- "What a sender gets for a word is the answer that repair alone gives", and its word, "in a lent buffer of S words"; it no longer waits
abbrev pub GetsRepair : Parameters → List ℕ → Setting → Dash → State → List ℕ → List ℕ → ℕ → Type 0
GetsRepair c h s d σ answers handed p =
    (entry_of (answers_after c h s d σ answers handed) p ≡ recovery_code (repair_answer c h s (word_at (places s) σ p) (part (places s) handed p)))
    × (part (places s) (handed_after c h s d σ answers handed) p ≡ repair_after c h s (word_at (places s) σ p) (part (places s) handed p))
    × (entry_of (waiting_after c h s d σ answers handed) p ≡ 0)

-- "none where no word left", "a part with no word being unchanged"; whether one waits is as it was
abbrev pub GetsNothing : Parameters → List ℕ → Setting → Dash → State → List ℕ → List ℕ → ℕ → Type 0
GetsNothing c h s d σ answers handed p =
    (entry_of (answers_after c h s d σ answers handed) p ≡ none)
    × (part (places s) (handed_after c h s d σ answers handed) p ≡ part (places s) handed p)
    × (entry_of (waiting_after c h s d σ answers handed) p ≡ entry_of σ.waiting p)

-- the words that wait and are no code words whose senders have a turn before that of sender p
abbrev pub earlier : Parameters → List ℕ → Setting → Dash → State → ℕ → ℕ
earlier c h s d σ p =
    others_before d.senders (entry_of σ.next 0) (is_other c h (columns_of c s) d σ) (turn_of d.senders (entry_of σ.next 0) p)

-- the word of sender p is tried
abbrev pub IsTried : Parameters → List ℕ → Setting → Dash → State → ℕ → Bool
IsTried c h s d σ p = is_tried d.senders (entry_of σ.next 0) d.repairs (is_other c h (columns_of c s) d σ) p

module _ (c : Parameters) (h : List ℕ) (s : Setting) (d : Dash) (σ : State) (answers handed : List ℕ)
    (done : round_answer c h s d σ answers handed ≡ Done)
  where
    made : RoundMade c h s d σ answers handed
    unfolding round_answer
    made = round_made c h s d σ answers handed (done_none (round_fault c h s d σ answers handed) done)

    module _ (p : ℕ) (l : p < d.senders) where
      word_long : length (word_at (places s) σ p) ≡ places s
      word_long =
          length_part (places s) σ.words p
          (subst (λ (k : ℕ). p * places s + places s ≤ k)
          (sym (made.lent.words_long ∙ ap (λ (n : ℕ). d.senders * n) (length_columns c s))) (part_room (places s) l))

      room_long : length (part (places s) handed p) ≡ places s
      room_long =
          length_part (places s) handed p
          (subst (λ (k : ℕ). p * places s + places s ≤ k)
          (sym (made.lent.handed_long ∙ ap (λ (n : ℕ). d.senders * n) (length_columns c s))) (part_room (places s) l))

      -- a word that leaves, and one that does not
      left : leaves c h (columns_of c s) d σ p ≡ true → GetsRepair c h s d σ answers handed p
      left e =
          let (answer, after) = repair_alone made.accepted s made.fits (word_at (places s) σ p)
          (part (places s) handed p) word_long room_long in (
            left_answer c h s d σ answers handed made p l e ∙ ap recovery_code (sym answer),
            left_handed c h s d σ answers handed made p l e ∙ sym after,
            left_waiting c h s d σ answers handed made p l e,
          )

      stayed : leaves c h (columns_of c s) d σ p ≡ false → GetsNothing c h s d σ answers handed p
      stayed e = (
        stayed_answer c h s d σ answers handed made p l e,
        stayed_handed c h s d σ answers handed made p l e,
        stayed_waiting c h s d σ answers handed made p l e,
      )

      -- no answer of repair is taken for that of a sender who gets nothing
      pub told_apart : GetsRepair c h s d σ answers handed p → entry_of (answers_after c h s d σ answers handed) p ≢ none
      told_apart (answer, copied, left) e =
          let (alone, after) = repair_alone made.accepted s made.fits (word_at (places s) σ p)
          (part (places s) handed p) word_long room_long in
          recovery_apart made.accepted s made.fits (word_at (places s) σ p) (ap recovery_code (sym alone) ∙ sym answer ∙ e)

      -- ---- who leaves

      -- whether it leaves, by whether a word waits, is a code word, and has a turn early enough
      leaves_by : {w i e : Bool} → eqb (entry_of σ.waiting p) 1 ≡ w → is_code_word c h (columns_of c s) (word_at (places s) σ p) ≡ i
          → ltb (earlier c h s d σ p) d.repairs ≡ e → leaves c h (columns_of c s) d σ p ≡ ((w && i) || ((w && not i) && e))
      unfolding leaves is_whole is_other is_tried
      leaves_by {w} {i} {e} waits whole early =
          let at = ap (λ (n : ℕ). is_code_word c h (columns_of c s) (word_at n σ p)) (length_columns c s) ∙ whole in
          ap₂ (λ (x y : Bool). (x && y) || ((x && not y) && ltb (earlier c h s d σ p) d.repairs)) waits at
          ∙ ap (λ (z : Bool). (w && i) || ((w && not i) && z)) early

      -- where no word waits, none leaves
      pub idle : entry_of σ.waiting p ≢ 1 → GetsNothing c h s d σ answers handed p
      idle ne = stayed (leaves_by (ne_eqb (entry_of σ.waiting p) 1 ne) refl refl)

      module _ (waits : entry_of σ.waiting p ≡ 1) where
        is_one : eqb (entry_of σ.waiting p) 1 ≡ true
        is_one = eq-eqb (entry_of σ.waiting p) 1 waits

        -- "Each round hands out every waiting word that is a code word"
        pub code_word_leaves : is_code_word c h (columns_of c s) (word_at (places s) σ p) ≡ true → GetsRepair c h s d σ answers handed p
        code_word_leaves whole = left (leaves_by is_one whole refl)

        -- "and repairs the first R of the others in turn"
        module _ (damaged : is_code_word c h (columns_of c s) (word_at (places s) σ p) ≡ false) where
          pub early_leaves : earlier c h s d σ p < d.repairs → GetsRepair c h s d σ answers handed p
          early_leaves l = left (leaves_by is_one damaged (lt-ltb (earlier c h s d σ p) d.repairs l))

          pub late_stays : d.repairs ≤ earlier c h s d σ p → GetsNothing c h s d σ answers handed p
          late_stays l = stayed (leaves_by is_one damaged (le-ltb (earlier c h s d σ p) d.repairs l))

    -- ---- whose turn is next

    next_at : entry_of (next_after c h s d σ answers handed) 0
        ≡ next_turn d.senders (entry_of σ.next 0) d.repairs (is_other c h (columns_of c s) d σ)
    unfolding round_next
    next_at = ap (λ (x : List ℕ). entry_of x 0) made.next_is

    turn_in : entry_of σ.next 0 < d.senders
    turn_in = turn_inside d σ (columns_of c s) made.none

    -- "Turns … begin after the sender last tried": the last one in turn whose word is tried
    pub turn_after_the_last : (i : ℕ) → i < d.senders → IsTried c h s d σ (sender_at d.senders (entry_of σ.next 0) i) ≡ true
        → ((j : ℕ) → i < j → j < d.senders → IsTried c h s d σ (sender_at d.senders (entry_of σ.next 0) j) ≡ false)
        → entry_of (next_after c h s d σ answers handed) 0 ≡ (sender_at d.senders (entry_of σ.next 0) i + 1) % d.senders
    turn_after_the_last i l is others = next_at ∙ next_follows turn_in d.repairs (is_other c h (columns_of c s) d σ) i l is others

    -- where every word that waits is a code word the turn does not move
    pub code_words_move_no_turn : ((p : ℕ) → p < d.senders → is_other c h (columns_of c s) d σ p ≡ false)
        → entry_of (next_after c h s d σ answers handed) 0 ≡ entry_of σ.next 0
    code_words_move_no_turn no_other = next_at ∙ next_unmoved turn_in d.repairs (is_other c h (columns_of c s) d σ) no_other

    -- "Handing out a code word doesn't move the turn": it goes as it does in a state with the same others and whatever code words
    pub turn_by_the_others : (τ : State) (answers' handed' : List ℕ) → round_answer c h s d τ answers' handed' ≡ Done
        → entry_of τ.next 0 ≡ entry_of σ.next 0
        → ((p : ℕ) → p < d.senders → is_other c h (columns_of c s) d σ p ≡ is_other c h (columns_of c s) d τ p)
        → entry_of (next_after c h s d σ answers handed) 0 ≡ entry_of (next_after c h s d τ answers' handed') 0
    unfolding round_answer round_next
    turn_by_the_others τ answers' handed' done' turns same =
        let other = round_made c h s d τ answers' handed' (done_none (round_fault c h s d τ answers' handed') done') in
        next_at ∙ next_same turn_in d.repairs same
        ∙ ap (λ (t : ℕ). next_turn d.senders t d.repairs (is_other c h (columns_of c s) d τ)) (sym turns)
        ∙ sym (ap (λ (x : List ℕ). entry_of x 0) other.next_is)
