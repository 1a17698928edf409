-- What the rules of a round say of the state, and the tests of the lengths of what is lent to it.
use Rattle.std.specs.Prelude.{◌≡◌, Bool, true, ◌&&◌, ◌||◌, List, ℕ, ◌*◌, ◌<◌, ◌≤◌, leb, ltb, length}
use Rattle.std.proofs.Math.Path.{sym}
use Rattle.std.proofs.Common.{ap, ◌∙◌}
use Rattle.std.proofs.Math.Bool.{not}
use Rattle.std.proofs.Math.Dec.{eqb}
use borrow.Author.Tests.{eq-eqb, eqb-true, leb-true, ltb-true}
use Rattle.algebra.specs.AllLaws.{all_is}
use Rattle.algebra.specs.Flags.{both_true, both_hold}
use Rattle.algebra.specs.Lists.{entry_of}
use Rattle.algebra.specs.Parts.{part}
use Rattle.refusals.specs.Rules.{fault}
use Rattle.refusals.specs.RuleLaws.{hold}
use Rattle.slices.specs.Bits.{all_bits}
use Rattle.scheduler.specs.declared.Dash.{Dash}
use Rattle.scheduler.specs.State.{State, most_senders, most_repairs, all_words, dash_rules, state_rules}
use Rattle.scheduler.specs.Answers.{round_lengths, round_words, round_rules}
use Rattle.scheduler.specs.Parts.{LentState}

-- ---- of the numbers of senders and of repairs

pub dash_some : (d : Dash) → fault (dash_rules d) ≡ 0 → (1 ≤ d.senders) × (1 ≤ d.repairs)
unfolding dash_rules
dash_some d none =
    let all = hold (dash_rules d) tt none in (
      leb-true 1 d.senders (both_true (leb 1 d.senders) (leb d.senders most_senders) all.0).0,
      leb-true 1 d.repairs (both_true (leb 1 d.repairs) (leb d.repairs most_repairs) all.1.0).0,
    )

-- ---- of the state

module _ (d : Dash) (σ : State) (cols : List ℕ) (none : fault (round_rules d σ cols) ≡ 0) where
  rules_hold : ((leb 1 d.senders && leb d.senders most_senders) ≡ true) × (ltb (entry_of σ.next 0) d.senders ≡ true)
      × (all_words (length cols) σ.waiting σ.words d.senders ≡ true)
  unfolding dash_rules state_rules
  rules_hold =
      let all = hold (round_rules d σ cols) tt none in (all.0, all.1.1.0, all.1.1.1.1.0)

  pub few_senders : d.senders ≤ most_senders
  few_senders = leb-true d.senders most_senders (both_true (leb 1 d.senders) (leb d.senders most_senders) rules_hold.0).1

  pub turn_inside : entry_of σ.next 0 < d.senders
  turn_inside = ltb-true (entry_of σ.next 0) d.senders rules_hold.1

  pub word_bits : (p : ℕ) → p < d.senders → entry_of σ.waiting p ≡ 1 → all_bits (part (length cols) σ.words p) ≡ true
  unfolding all_words
  word_bits p l e =
      sym (ap (λ (b : Bool). not b || all_bits (part (length cols) σ.words p)) (eq-eqb (entry_of σ.waiting p) 1 e))
      ∙ all_is d.senders (λ q. not (eqb (entry_of σ.waiting q) 1) || all_bits (part (length cols) σ.words q)) rules_hold.2 p l

-- ---- of the lengths

module _ (d : Dash) (n : ℕ) (σ : State) (answers handed : List ℕ) where
  pub lent_state : round_lengths d σ answers ≡ true → round_words d σ handed n ≡ true
      → LentState d n σ answers handed
  unfolding round_lengths round_words
  lent_state others words =
      let (lists, told) = both_true (eqb (length σ.waiting) d.senders && eqb (length σ.next) 1) (eqb (length answers) d.senders) others in
      let (marks, one) = both_true (eqb (length σ.waiting) d.senders) (eqb (length σ.next) 1) lists in
      let (first, second) = both_true (eqb (length σ.words) (d.senders * n)) (eqb (length handed) (d.senders * n)) words in
      record {
        waiting_long = eqb-true (length σ.waiting) d.senders marks;
        words_long = eqb-true (length σ.words) (d.senders * n) first;
        next_long = eqb-true (length σ.next) 1 one;
        answers_long = eqb-true (length answers) d.senders told;
        handed_long = eqb-true (length handed) (d.senders * n) second;
      }

  pub lengths_fit : LentState d n σ answers handed → (round_lengths d σ answers ≡ true) × (round_words d σ handed n ≡ true)
  unfolding round_lengths round_words
  lengths_fit L = (
    both_hold
        (both_hold (eq-eqb (length σ.waiting) d.senders L.waiting_long) (eq-eqb (length σ.next) 1 L.next_long))
        (eq-eqb (length answers) d.senders L.answers_long),
    both_hold (eq-eqb (length σ.words) (d.senders * n) L.words_long) (eq-eqb (length handed) (d.senders * n) L.handed_long),
  )
