-- No sender starves: "In every state reached from the start by offers and rounds, a word that waits is handed out, repaired or refused by 10 within
-- ⌈S/R⌉ rounds, the round after its arrival being the first, whatever the others send."
--
-- The measure is a sender's turn: the number of senders before it. Offers do not move it; a round that leaves its word waiting brings it nearer by R.
use Rattle.std.specs.Prelude.{◌≡◌, refl, ◌≢◌, ◌⊎◌, Bool, ◌&&◌, ◌||◌, eqb, length}
use Rattle.std.proofs.Math.Path.{sym, ap, subst}
use Rattle.std.proofs.Common.{◌∙◌, inl, inr, zero-add, one-mul, add-mul, mod-lt, div-add-mod', mul-le-mul_right, arith, eq-eqb, ne_eqb}
use Rattle.std.proofs.Math.Bool.{true, false, cond, not, false≢true}
use mathlib.Core.List.{List, [], ◌∷◌}
use Prim.Native.Nat.{ℕ, zero, ◌+◌, ◌-◌, ◌*◌, ◌/◌, ◌%◌, ◌<◌, ◌≤◌}
use Rattle.std.proofs.Math.Nat.{zero-mul}
use Rattle.std.proofs.Math.Decide.{ℕ_discrete}
use Rattle.algebra.specs.Lists.{entry_of}
use Rattle.algebra.specs.Parts.{part}
use Rattle.algebra.specs.PartLaws.{part_room, length_part}
use Rattle.refusals.specs.Rules.{◌unless◌, unless_refused}
use Rattle.refusals.specs.RuleLaws.{fault_past, fault_here, fault_none}
use Rattle.slices.specs.Bits.{all_bits}
use Rattle.params.specs.declared.Parameters.{Parameters}
use Rattle.parity.specs.Word.{is_code_word}
use Rattle.shortened.specs.Setting.{Setting, places, columns_of}
use Rattle.nearest.specs.Repair.{is_repairable}
use Rattle.repair.specs.declared.Recovery.{Recovery}
use Rattle.repair.specs.declared.Recovery.TheVariants.{Repaired, Refused as NotRepaired}
use Rattle.repair.specs.Answers.{word_rules, turned_count, repair_answer}
use Rattle.repair.specs.Decoding.{word_answer}
use Rattle.turns.specs.Turns.{turn_of, is_tried, next_turn}
use Rattle.turns.specs.TurnLaws.{turn_below, nearer}
use Rattle.wire.specs.Wire.{recovery_code}
use Rattle.scheduler.specs.declared.Dash.{Dash}
use Rattle.scheduler.specs.State.{State, word_at}
use Rattle.scheduler.specs.StateLaws.{dash_some, turn_inside}
use Rattle.scheduler.specs.Round.{none, is_whole, is_other, leaves, round_next}
use Rattle.scheduler.specs.Answers.{offer_fault, offer_waiting, offer_words, round_fault, waiting_after, next_after, answers_after}
use Rattle.scheduler.proofs.CallLaws.{offer_made, offer_unchanged, kept_mark_lem, kept_word}
use Rattle.scheduler.proofs.CallLaws.{RoundMade, round_made, round_unchanged, left_answer, stayed_answer, stayed_waiting}
use Rattle.scheduler.specs.Play.{Event, Event.offer, Event.round, after, Reached, rounds_made, first_of, first_answer}
use Rattle.demands.specs.Interface.{recovery_apart}
use Rattle.demands.specs.Senders.{repair_alone}
use Rattle.demands.specs.Reached.{sound}

-- what a round that was not made answered is passed over
passes : (answer later : ℕ) → first_of false answer later ≡ later
unfolding first_of
passes answer later = refl

-- ---- one word, from a state on in which it waits

module _ (c : Parameters) (h : List ℕ) (s : Setting) (d : Dash) (p : ℕ) (lp : p < d.senders) where
  -- the rounds of a play that are made are more than its turn needs: then the play brings it the answer of repair alone
  abbrev Brings : List Event → State → Type 0
  Brings events σ =
      entry_of σ.waiting p ≡ 1 → turn_of d.senders (entry_of σ.next 0) p < rounds_made c h s d σ events * d.repairs
      → first_answer c h s d p σ events ≡ recovery_code (word_answer c h (columns_of c s) (word_at (places s) σ p))

  -- ---- an offer leaves it waiting as it was

  offer_keeps : (σ : State) (sender : ℕ) (word : List ℕ) → entry_of σ.waiting p ≡ 1
      → (entry_of (offer_waiting c h s d sender word σ.waiting σ.words) p ≡ 1)
      × (part (places s) (offer_words c h s d sender word σ.waiting σ.words) p ≡ part (places s) σ.words p)
  offer_keeps σ sender word waits = decided (ℕ_discrete (offer_fault c h s d sender word σ.waiting σ.words) 0)
    where
      decided : Dec (offer_fault c h s d sender word σ.waiting σ.words ≡ 0)
          → (entry_of (offer_waiting c h s d sender word σ.waiting σ.words) p ≡ 1)
          × (part (places s) (offer_words c h s d sender word σ.waiting σ.words) p ≡ part (places s) σ.words p)
      decided (no ne) =
          let (waiting, words) = offer_unchanged c h s d sender word σ.waiting σ.words ne in
          (ap (λ (l : List ℕ). entry_of l p) waiting ∙ waits, ap (λ (l : List ℕ). part (places s) l p) words)
      decided (yes z) =
          let O = offer_made c h s d sender word σ.waiting σ.words z in
          let apart : p ≢ sender = λ e. free (sym waits ∙ ap (entry_of σ.waiting) e ∙ O.free) in
          (kept_mark_lem O p apart ∙ waits, kept_word O p apart lp)
        where
          free : ◌≡◌ {A = ℕ} 1 0 → ⊥
          free e = omega arith

  offer_step : (σ : State) (sender : ℕ) (word : List ℕ) (events : List Event) → ((τ : State) → Brings events τ) → Brings
      (offer sender word ∷ events) σ
  unfolding rounds_made first_answer after
  offer_step σ sender word events later waits near =
      let (still, same) = offer_keeps σ sender word waits in
      later (after c h s d σ (offer sender word)) still near
      ∙ ap (λ (w : List ℕ). recovery_code (word_answer c h (columns_of c s) w)) same

  -- ---- a round answers it, or brings it nearer to its turn

  module _ (σ : State) (answers handed : List ℕ) (events : List Event) (later : (τ : State) → Brings events τ) (waits : entry_of σ.waiting p ≡ 1)
    where
      abbrev rest : ℕ
      rest = rounds_made c h s d (after c h s d σ (round answers handed)) events

      abbrev due : ℕ
      due = recovery_code (word_answer c h (columns_of c s) (word_at (places s) σ p))

      refused_step : round_fault c h s d σ answers handed ≢ 0 → turn_of d.senders (entry_of σ.next 0) p < (0 + rest) * d.repairs
          → first_answer c h s d p (after c h s d σ (round answers handed)) events ≡ due
      unfolding after
      refused_step ne near =
          let (waiting, next, told, left) = round_unchanged c h s d σ answers handed ne in
          later (after c h s d σ (round answers handed)) (ap (λ (l : List ℕ). entry_of l p) waiting ∙ waits)
          (subst (λ (q : ℕ). turn_of d.senders q p < rest * d.repairs) (sym (ap (λ (l : List ℕ). entry_of l 0) next))
          (subst (λ (x : ℕ). turn_of d.senders (entry_of σ.next 0) p < x * d.repairs) (zero-add rest) near))

      module _ (M : RoundMade c h s d σ answers handed) where
        turn_in : entry_of σ.next 0 < d.senders
        turn_in = turn_inside d σ (columns_of c s) M.none

        -- its word leaves
        answered : leaves c h (columns_of c s) d σ p ≡ true → (x : ℕ) → first_of true (entry_of (answers_after c h s d σ answers handed) p) x ≡ due
        unfolding first_of
        answered e x =
            ap (λ (a : ℕ). cond (eqb a none) x a) (left_answer c h s d σ answers handed M p lp e)
            ∙ ap (λ (b : Bool). cond b x due) (ne_eqb due none (recovery_apart M.accepted s M.fits (word_at (places s) σ p)))

        -- it is one of the others, and was not tried
        untried : leaves c h (columns_of c s) d σ p ≡ false
            → (is_other c h (columns_of c s) d σ p ≡ true)
            × (is_tried d.senders (entry_of σ.next 0) d.repairs (is_other c h (columns_of c s) d σ) p ≡ false)
        unfolding leaves is_whole is_other
        untried e =
            split (eqb (entry_of σ.waiting p) 1) (is_code_word c h (columns_of c s) (word_at (length (columns_of c s)) σ p))
            (is_tried d.senders (entry_of σ.next 0) d.repairs (is_other c h (columns_of c s) d σ) p) (eq-eqb (entry_of σ.waiting p) 1 waits) e
          where
            split : (w i t : Bool) → w ≡ true → ((w && i) || t) ≡ false → ((w && not i) ≡ true) × (t ≡ false)
            split w true t wt f = absurd (never (ap (λ (b : Bool). (b && true) || t) (sym wt) ∙ f))
              where
                never : true ≡ false → ⊥
                never q = false≢true (sym q)
            split w false t wt f = (ap (λ (b : Bool). b && true) wt, sym (ap (λ (b : Bool). (b && false) || t) wt) ∙ f)

        stayed : leaves c h (columns_of c s) d σ p ≡ false → turn_of d.senders (entry_of σ.next 0) p < (1 + rest) * d.repairs
            → first_of true (entry_of (answers_after c h s d σ answers handed) p) (first_answer c h s d p (after c h s d σ (round answers handed)) events)
            ≡ due
        unfolding first_of round_next after
        stayed e near =
            let told = stayed_answer c h s d σ answers handed M p lp e in
            let still : entry_of (waiting_after c h s d σ answers handed) p ≡ 1 = stayed_waiting c h s d σ answers handed M p lp e ∙ waits in
            let (other, not-tried) = untried e in
            let turns : entry_of (next_after c h s d σ answers handed) 0
            ≡ next_turn d.senders (entry_of σ.next 0) d.repairs (is_other c h (columns_of c s) d σ) =
            ap (λ (l : List ℕ). entry_of l 0) M.next_is in
            let closer = nearer turn_in d.repairs (is_other c h (columns_of c s) d σ) p lp other not-tried in
            ap (λ (a : ℕ). cond (eqb a none) (first_answer c h s d p (after c h s d σ (round answers handed)) events) a) told
            ∙ ap (λ (b : Bool). cond b (first_answer c h s d p (after c h s d σ (round answers handed)) events) none) (eq-eqb none none refl)
            ∙ later (after c h s d σ (round answers handed)) still
            (subst (λ (q : ℕ). turn_of d.senders q p < rest * d.repairs) (sym turns) (fewer closer (more near)))
          where
            more : turn_of d.senders (entry_of σ.next 0) p < (1 + rest) * d.repairs
                → turn_of d.senders (entry_of σ.next 0) p < d.repairs + rest * d.repairs
            more l =
                subst (λ (x : ℕ). turn_of d.senders (entry_of σ.next 0) p < x)
                (add-mul 1 rest d.repairs ∙ ap (λ (x : ℕ). x + rest * d.repairs) (one-mul d.repairs)) l

            fewer : {a b x : ℕ} → a + d.repairs ≤ b → b < d.repairs + x → a < x
            fewer l m = omega arith

      round_step : turn_of d.senders (entry_of σ.next 0) p < rounds_made c h s d σ (round answers handed ∷ events) * d.repairs
          → first_answer c h s d p σ (round answers handed ∷ events) ≡ due
      unfolding rounds_made first_answer
      round_step = decided (ℕ_discrete (round_fault c h s d σ answers handed) 0)
        where
          next : ℕ
          next = first_answer c h s d p (after c h s d σ (round answers handed)) events

          answer : ℕ
          answer = entry_of (answers_after c h s d σ answers handed) p

          by_leaving : RoundMade c h s d σ answers handed → (b : Bool) → leaves c h (columns_of c s) d σ p ≡ b
              → turn_of d.senders (entry_of σ.next 0) p < (1 + rest) * d.repairs → first_of true answer next ≡ due
          by_leaving M true e near = answered M e next
          by_leaving M false e near = stayed M e near

          decided : Dec (round_fault c h s d σ answers handed ≡ 0)
              → turn_of d.senders (entry_of σ.next 0) p < (cond (eqb (round_fault c h s d σ answers handed) 0) 1 0 + rest) * d.repairs
              → first_of (eqb (round_fault c h s d σ answers handed) 0) answer next ≡ due
          decided (yes z) near =
              let made = eq-eqb (round_fault c h s d σ answers handed) 0 z in
              ap (λ (b : Bool). first_of b answer next) made
              ∙ by_leaving (round_made c h s d σ answers handed z) (leaves c h (columns_of c s) d σ p) refl
              (subst (λ (b : Bool). turn_of d.senders (entry_of σ.next 0) p < (cond b 1 0 + rest) * d.repairs) made near)
          decided (no ne) near =
              let not_made = ne_eqb (round_fault c h s d σ answers handed) 0 ne in
              ap (λ (b : Bool). first_of b answer next) not_made ∙ passes answer next
              ∙ refused_step ne
              (subst (λ (b : Bool). turn_of d.senders (entry_of σ.next 0) p < (cond b 1 0 + rest) * d.repairs) not_made near)

  brings : (events : List Event) (σ : State) → Brings events σ
  unfolding rounds_made
  brings [] σ waits near =
      let nothing : zero * d.repairs ≡ 0 = zero-mul d.repairs in absurd (omega (arith, near, nothing))
  brings (offer sender word ∷ events) σ waits near = offer_step σ sender word events (brings events) waits near
  brings (round answers handed ∷ events) σ waits near = round_step σ answers handed events (brings events) waits near

-- ---- the law

-- ⌈S/R⌉
abbrev pub rounds_needed : Dash → ℕ
rounds_needed d = (d.senders + d.repairs - 1) / d.repairs

rounds_enough : (S R : ℕ) → 1 ≤ R → S ≤ (S + R - 1) / R * R
rounds_enough S R some =
    let whole = div-add-mod' (S + R - 1) R in
    let part : (S + R - 1) % R < R = mod-lt (S + R - 1) (omega arith) in
    omega (arith, whole, part)

-- repair of a word of bits succeeds, or is refused by 10
repaired_or_too_far : (c : Parameters) (h cols received : List ℕ) → all_bits received ≡ true
    → ((k : ℕ) × (word_answer c h cols received ≡ Repaired k)) ⊎ (word_answer c h cols received ≡ NotRepaired 10)
unfolding word_answer word_rules unless_refused
repaired_or_too_far c h cols received bits = decided (is_repairable c h cols received) refl
  where
    answer : ℕ → Recovery
    answer k = unless_refused k NotRepaired (Repaired (turned_count c h cols received))

    decided : (b : Bool) → is_repairable c h cols received ≡ b
        → ((k : ℕ) × (word_answer c h cols received ≡ Repaired k)) ⊎ (word_answer c h cols received ≡ NotRepaired 10)
    decided true e =
        inl (
          turned_count c h cols received,
          ap answer (fault_none ((8 unless all_bits received) ∷ (10 unless is_repairable c h cols received) ∷ [])
              (bits, (e, tt))),
        )
    decided false e = inr (ap answer (fault_past 8 ((10 unless is_repairable c h cols received) ∷ []) bits (fault_here 10 [] e)))

-- A word that waits in a state that is reached gets, within ⌈S/R⌉ rounds that are made and whatever else is offered, the answer that repair alone
-- gives for it: it is handed out or repaired, with its count, or refused by 10.
pub leaves_within : (c : Parameters) (h : List ℕ) (s : Setting) (d : Dash) (σ : State) → Reached c h s d σ → (p : ℕ) → p < d.senders
    → entry_of σ.waiting p ≡ 1 → (events : List Event) → rounds_needed d ≤ rounds_made c h s d σ events → (buffer : List ℕ)
    → length buffer ≡ places s
    → (first_answer c h s d p σ events ≡ recovery_code (repair_answer c h s (word_at (places s) σ p) buffer))
    × (((k : ℕ) × (repair_answer c h s (word_at (places s) σ p) buffer ≡ Repaired k))
    ⊎ (repair_answer c h s (word_at (places s) σ p) buffer ≡ NotRepaired 10))
leaves_within c h s d σ R p lp waits events enough buffer room =
    let T = sound c h s d σ R in
    let (long, bits) = T.words p lp waits in
    let some : 1 ≤ d.repairs = (dash_some d T.numbers).1 in
    let inside : p * places s + places s ≤ length σ.words =
    subst (λ (k : ℕ). p * places s + places s ≤ k) (sym long) (part_room (places s) lp) in
    let (alone, copied) =
    repair_alone T.accepted s T.fits (word_at (places s) σ p) buffer (length_part (places s) σ.words p inside) room in
    let near : turn_of d.senders (entry_of σ.next 0) p < rounds_made c h s d σ events * d.repairs =
    omega (
      arith,
      turn_below T.turn_is p lp,
      rounds_enough d.senders d.repairs some,
      mul-le-mul_right d.repairs enough,
    ) in (
      brings c h s d p lp events σ waits near ∙ ap recovery_code (sym alone),
      told alone
          (repaired_or_too_far c h (columns_of c s) (word_at (places s) σ p) bits),
    )
  where
    told : {a b : Recovery} → a ≡ b → ((k : ℕ) × (b ≡ Repaired k)) ⊎ (b ≡ NotRepaired 10) → ((k : ℕ) × (a ≡ Repaired k)) ⊎ (a ≡ NotRepaired 10)
    told e (inl (k, q)) = inl (k, e ∙ q)
    told e (inr q) = inr (e ∙ q)
