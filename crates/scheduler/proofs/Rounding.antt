-- How a round ends: by a number, or as the definition has it, which says by sender what the program found by marks.
use mathlib.Core.Path.{◌≡◌, refl, sym, ap, ap₂, ◌∙◌, subst}
use mathlib.Core.Bool.{Bool, true, false, cond, not, ◌&&◌, ◌||◌}
use mathlib.Core.List.{List, [], ◌∷◌, ◌++◌}
use Prim.Native.Nat.{ℕ, ◌+◌, ◌*◌, ◌<◌, ◌≤◌}
use Rattle.std.specs.Prelude.{Result}
use lib.Dec.{eqb, ltb}
use lib.ListN.{length}
use Rattle.algebra.specs.Lists.{entry_of}
use Rattle.algebra.specs.Parts.{part, joined}
use Rattle.algebra.specs.PartLaws.{part_room, length_part, joined_cong}
use Rattle.algebra.specs.Tabulate.{tabulate}
use Rattle.algebra.specs.TabulateLaws.{length-tabulate, get_d_tabulate, tabulate_cong}
use Rattle.std.specs.Result.{IsErrAnd}
use Rattle.refusals.specs.Ending.{ended_done}
use Rattle.refusals.specs.Outcome.{Outcome, Done, Refused, tested}
use Rattle.refusals.specs.Rules.{Rule, fault}
use Rattle.refusals.specs.Testing.{tested_none}
use Rattle.slices.specs.BitLaws.{received_bits}
use Rattle.params.specs.declared.Parameters.{Parameters}
use Rattle.parity.specs.declared.Code.{Code}
use Rattle.parity.specs.Word.{is_code_word}
use Rattle.repair.specs.Decoding.{word_answer, word_after}
use Rattle.shortened.specs.Begun.{Begun}
use Rattle.shortened.proofs.BegunLaws.{begun_as, begun_set}
use Rattle.shortened.specs.Setting.{Setting, places}
use Rattle.turns.specs.Turns.{others_before, turn_of, is_tried, next_turn}
use Rattle.turns.specs.TurnLaws.{tried_same, next_same}
use Rattle.turns.specs.declared.Mark.{Mark}
use Rattle.turns.specs.declared.Mark.TheVariants.{Stays, CodeWord, Other}
use Rattle.turns.specs.Marks.{stays, tries, mark_in, is_other as marked, mark_after, marks_after, turn_after_marks}
use Rattle.wire.specs.Wire.{recovery_code}
use Rattle.scheduler.specs.declared.Dash.{Dash}
use Rattle.scheduler.specs.State.{State, state_of, turn, most_senders, dash_rules, state_rules}
use Rattle.scheduler.specs.StateLaws.{few_senders, turn_inside, word_bits}
use Rattle.scheduler.specs.Round.{none, is_whole, is_other, leaves, answer_at}
use Rattle.scheduler.specs.Round.{waiting_at, handed_at, round_waiting, round_next, round_answers, round_handed}
use Rattle.scheduler.specs.Answers.{round_lengths, round_words, round_rules}
use Rattle.scheduler.specs.Parts.{mark_of, mark_at, marks_of, answer_of, answers_of, handed_of, handed_parts, waiting_of, LentRound, Made}
use Rattle.scheduler.specs.Parts.{LentState, RoundEnded}
use Rattle.scheduler.proofs.Beginning.{ended_on}

-- what the state was found, which is handed over with the turn alone of its last list, as its rules read no more of it
abbrev pub state_found : Dash → State → List ℕ → Outcome
state_found d σ cols = tested (fault (dash_rules d ++ state_rules d (length cols) (state_of σ.waiting σ.words (turn σ ∷ []))))

turn_alone : (d : Dash) (σ : State) (cols : List ℕ) → state_found d σ cols ≡ tested (fault (round_rules d σ cols))
unfolding state_rules
turn_alone d σ cols = refl

-- ---- what is lent, where nothing refuses the state

module _ (cols : List ℕ) {d : Dash} {σ : State} {answers handed : List ℕ} (L : LentState d (length cols) σ answers handed)
    (is : Done ≡ state_found d σ cols) where
  abbrev n : ℕ
  n = length cols

  none_due : fault (round_rules d σ cols) ≡ 0
  none_due = tested_none (is ∙ turn_alone d σ cols)

  pub round_few : length σ.waiting ≤ most_senders
  round_few = subst (λ (k : ℕ). k ≤ most_senders) (sym L.waiting_long) (few_senders d σ cols none_due)

  pub round_lent : {marks : List Mark} → length marks ≡ length σ.waiting → LentRound n σ marks answers handed
  round_lent long =
      record {
        few = round_few;
        words =
            record {
              long = L.words_long ∙ ap (λ (k : ℕ). k * n) (sym L.waiting_long);
              bits = λ p l e.
                  let inside : p < d.senders = subst (λ (k : ℕ). p < k) L.waiting_long l in
                  received_bits
                  (length_part n σ.words p (subst (λ (x : ℕ). p * n + n ≤ x) (sym L.words_long) (part_room n inside)))
                  (word_bits d σ cols none_due p inside e);
            };
        marks_long_lem = long;
        answers_long = L.answers_long ∙ sym L.waiting_long;
        handed_long = L.handed_long ∙ ap (λ (k : ℕ). k * n) (sym L.waiting_long);
        next_long = L.next_long;
        turn_is = subst (λ (k : ℕ). entry_of σ.next 0 < k) (sym L.waiting_long) (turn_inside d σ cols none_due);
      }

-- ---- marks and senders

other_mark : (w i : Bool) → tries (cond w (cond i CodeWord Other) Stays) ≡ (w && not i)
other_mark true true = refl
other_mark true false = refl
other_mark false i = refl

-- who is marked as staying, by whether its word waits, is a code word, and comes early enough in turn
left_mark : (w i e : Bool)
    → stays (cond ((w && not i) && not ((w && not i) && e)) Stays (cond w (cond i CodeWord Other) Stays)) ≡ not ((w && i) || ((w && not i) && e))
left_mark true true e = refl
left_mark true false true = refl
left_mark true false false = refl
left_mark false i e = refl

flip : {A : Type 0} (b : Bool) (x y : A) → cond (not b) x y ≡ cond b y x
flip true x y = refl
flip false x y = refl

module _ (c : Parameters) (h cols : List ℕ) (d : Dash) (σ : State) (long : length σ.waiting ≡ d.senders)
    (inside : entry_of σ.next 0 < d.senders)
  where
    abbrev R : ℕ
    R = d.repairs

    abbrev next : ℕ
    next = entry_of σ.next 0

    abbrev first : List Mark
    first = marks_of c h cols σ.waiting σ.words

    abbrev last : List Mark
    last = marks_after R next first

    first_long : length first ≡ d.senders
    first_long = length-tabulate (length σ.waiting) (mark_at c h cols σ.waiting σ.words) ∙ long

    last_long : length last ≡ d.senders
    unfolding marks_after
    last_long = length-tabulate (length first) (mark_after R next first) ∙ first_long

    first_at : (p : ℕ) → p < d.senders → mark_in first p ≡ mark_at c h cols σ.waiting σ.words p
    first_at p l =
        get_d_tabulate (length σ.waiting) (mark_at c h cols σ.waiting σ.words) p Stays (subst (λ (k : ℕ). p < k) (sym long) l)

    others_are : (p : ℕ) → p < d.senders → marked first p ≡ is_other c h cols d σ p
    unfolding is_other mark_of
    others_are p l =
        ap tries (first_at p l)
        ∙ other_mark (eqb (entry_of σ.waiting p) 1) (is_code_word c h cols (part (length cols) σ.words p))

    tried_are : (p : ℕ) → p < d.senders
        → is_tried (length first) next R (marked first) p ≡ is_tried d.senders next R (is_other c h cols d σ) p
    tried_are p l =
        ap (λ (k : ℕ). is_tried k next R (marked first) p) first_long ∙ tried_same inside R others_are p l

    -- a sender is marked as staying exactly if its word does not leave
    stays_are : (p : ℕ) → p < d.senders → stays (mark_in last p) ≡ not (leaves c h cols d σ p)
    unfolding marks_after mark_after mark_of leaves is_whole is_other is_tried
    stays_are p l =
        ap stays
        (get_d_tabulate (length first) (mark_after R next first) p Stays (subst (λ (k : ℕ). p < k) (sym first_long) l))
        ∙ ap (λ (b : Bool). stays (cond (b && not (is_tried (length first) next R (marked first) p)) Stays (mark_in first p))) (others_are p l)
        ∙ ap₂ (λ (t : Bool) (m : Mark). stays (cond (is_other c h cols d σ p && not t) Stays m)) (tried_are p l) (first_at p l)
        ∙ left_mark (eqb (entry_of σ.waiting p) 1) (is_code_word c h cols (part (length cols) σ.words p))
        (ltb (others_before d.senders next (is_other c h cols d σ) (turn_of d.senders next p)) R)

    -- ---- the four lists

    waiting_same : waiting_of last σ.waiting ≡ round_waiting c h cols d σ
    unfolding round_waiting waiting_at
    waiting_same =
        ap (λ (k : ℕ). tabulate k (λ p. cond (stays (mark_in last p)) (entry_of σ.waiting p) 0)) long
        ∙ tabulate_cong d.senders
        (λ p l. ap (λ (b : Bool). cond b (entry_of σ.waiting p) 0) (stays_are p l) ∙ flip (leaves c h cols d σ p) (entry_of σ.waiting p) 0)

    next_are : turn_after_marks R next first ∷ [] ≡ round_next c h cols d σ
    unfolding round_next
    next_are =
        ap (λ (x : ℕ). x ∷ []) (ap (λ (k : ℕ). next_turn k next R (marked first)) first_long ∙ next_same inside R others_are)

    answers_same : answers_of c h cols last σ.words ≡ round_answers c h cols d σ
    unfolding round_answers answer_at answer_of
    answers_same =
        ap (λ (k : ℕ). tabulate k (λ p. answer_of c h cols (mark_in last p) (word p))) last_long
        ∙ tabulate_cong d.senders
        (λ p l.
        ap (λ (b : Bool). cond b none (recovery_code (word_answer c h cols (word p)))) (stays_are p l)
        ∙ flip (leaves c h cols d σ p) none (recovery_code (word_answer c h cols (word p))))
      where
        word : ℕ → List ℕ
        word p = part (length cols) σ.words p

    handed_same : (handed : List ℕ) → handed_parts c h cols last σ.words handed ≡ round_handed c h cols d σ handed
    unfolding round_handed handed_at handed_of
    handed_same handed =
        ap (λ (k : ℕ). joined k (λ p. handed_of c h cols (mark_in last p) (word p) (old p))) last_long
        ∙ joined_cong d.senders
        (λ p l.
        ap (λ (b : Bool). cond b (old p) (word_after c h cols (word p) (old p))) (stays_are p l)
        ∙ flip (leaves c h cols d σ p) (old p) (word_after c h cols (word p) (old p)))
      where
        word : ℕ → List ℕ
        word p = part (length cols) σ.words p

        old : ℕ → List ℕ
        old p = part (length cols) handed p

-- ---- the end

module _ (c : Parameters) (h cols : List ℕ) {d : Dash} {σ : State} {answers handed : List ℕ} (L : LentState d (length cols) σ answers handed) where
  abbrev rules : List Rule
  rules = round_rules d σ cols

  pub round_refused : {i : ℕ} (r : Outcome) → Refused i ≡ state_found d σ cols → IsErrAnd r (λ y. y ≡ i)
      → RoundEnded c h cols d σ answers handed r σ.waiting σ.next answers handed
  round_refused r is e =
      let due = is ∙ turn_alone d σ cols in
      record {
        waiting_end = ended_on rules σ.waiting (round_waiting c h cols d σ) r due e;
        next_end = ended_on rules σ.next (round_next c h cols d σ) r due e;
        answers_end = ended_on rules answers (round_answers c h cols d σ) r due e;
        handed_end = ended_on rules handed (round_handed c h cols d σ handed) r due e;
      }

  pub round_made : Done ≡ state_found d σ cols → {waiting' next' answers' handed' : List ℕ}
      → Made c h cols d.repairs σ handed waiting' next' answers' handed'
      → RoundEnded c h cols d σ answers handed Done waiting' next' answers' handed'
  round_made is M =
      let long = L.waiting_long in
      let due = tested_none (is ∙ turn_alone d σ cols) in
      let inside = turn_inside d σ cols due in
      let none = sym due in
      record {
        waiting_end =
            ended_done rules σ.waiting (round_waiting c h cols d σ) none refl (M.waiting_are ∙ waiting_same c h cols d σ long inside);
        next_end = ended_done rules σ.next (round_next c h cols d σ) none refl (M.next_is ∙ next_are c h cols d σ long inside);
        answers_end = ended_done rules answers (round_answers c h cols d σ) none refl (M.answers_are ∙ answers_same c h cols d σ long inside);
        handed_end =
            ended_done rules handed (round_handed c h cols d σ handed) none refl (M.handed_are ∙ handed_same c h cols d σ long inside handed);
      }

-- ---- the call

-- a call that counted n sent places, and began with the lengths of the words and of those that are handed out tested as q and r
pub round_began : (d : Dash) (σ : State) (answers handed : List ℕ) {c : Parameters} {h : List ℕ} {s s' : Setting} {q r : Bool} {n : ℕ}
    {found : Result Code ℕ}
    → Begun c h s (eqb (length σ.waiting) d.senders && eqb (length σ.next) 1 && eqb (length answers) d.senders) (q && r) found
    → q ≡ eqb (length σ.words) (d.senders * n) → r ≡ eqb (length handed) (d.senders * n) → n ≡ places s → s ≡ s'
    → Begun c h s' (round_lengths d σ answers) (round_words d σ handed (places s')) found
unfolding round_lengths round_words
round_began d σ answers handed B e f counted is =
    begun_set (λ k. eqb (length σ.words) (d.senders * k) && eqb (length handed) (d.senders * k))
    (begun_as B (ap₂ (λ (a b : Bool). a && b) e f)) counted is
