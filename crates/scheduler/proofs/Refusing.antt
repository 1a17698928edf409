-- What refuses a call, rule by rule: the first rule that does not hold gives the number.
use mathlib.Core.Path.{◌≡◌, sym, ap, ◌∙◌}
use mathlib.Core.Logic.{◌≢◌}
use mathlib.Core.Bool.{Bool, true, false, not, ◌||◌}
use mathlib.Core.List.{List, [], ◌∷◌, ◌++◌}
use Prim.Native.Nat.{ℕ, ◌+◌, ◌-◌, ◌*◌, ◌<◌, ◌≤◌}
use lib.Dec.{eqb}
use lib.ListN.{length, take, drop}
use borrow.Author.Tests.{eq-eqb, ne_eqb, lt-ltb, le-ltb}
use Rattle.algebra.specs.Lists.{entry_of}
use Rattle.algebra.specs.Parts.{part}
use Rattle.algebra.specs.PartLaws.{part_lent}
use Rattle.refusals.specs.Rules.{Rule, fault}
use Rattle.refusals.specs.Outcome.{Done, tested}
use Rattle.refusals.specs.Testing.{tested_none}
use Rattle.refusals.specs.RuleLaws.{fault_here, fault_past, fault_none, fault_rest}
use Rattle.slices.specs.Bits.{all_bits}
use Rattle.scheduler.specs.declared.Dash.{Dash}
use Rattle.scheduler.specs.State.{state_of, all_words, dash_rules, offer_rules, state_rules}

-- ---- the rules of the dash come first

module _ (d : Dash) (more : List Rule) where
  pub dash_passes : Done ≡ tested (fault (dash_rules d)) → {j : ℕ} → j ≡ fault more → j ≡ fault (dash_rules d ++ more)
  unfolding dash_rules
  dash_passes is e = e ∙ sym (fault_rest (dash_rules d) more tt (tested_none is))

-- ---- then those of an offer

module _ (d : Dash) (sender : ℕ) (word waiting : List ℕ) where
  pub offer_nobody : d.senders ≤ sender → 18 ≡ fault (offer_rules d sender word waiting)
  unfolding offer_rules
  offer_nobody l = sym (fault_here 18 _ (le-ltb sender d.senders l))

  module _ (known : sender < d.senders) where
    pub offer_waits : entry_of waiting sender ≢ 0 → 19 ≡ fault (offer_rules d sender word waiting)
    unfolding offer_rules
    offer_waits ne = sym (fault_past 18 _ (lt-ltb sender d.senders known) (fault_here 19 _ (ne_eqb (entry_of waiting sender) 0 ne)))

    module _ (free : entry_of waiting sender ≡ 0) where
      pub offer_not_bits : all_bits word ≡ false → 8 ≡ fault (offer_rules d sender word waiting)
      unfolding offer_rules
      offer_not_bits e =
          sym
          (fault_past 18 _ (lt-ltb sender d.senders known)
          (fault_past 19 _ (eq-eqb (entry_of waiting sender) 0 free) (fault_here 8 _ e)))

      pub offer_none : all_bits word ≡ true → 0 ≡ fault (offer_rules d sender word waiting)
      unfolding offer_rules
      offer_none e = sym (fault_none _ (lt-ltb sender d.senders known, (eq-eqb (entry_of waiting sender) 0 free, (e, tt))))

-- ---- or those of a state, with a mark for each sender

module _ (d : Dash) (n : ℕ) (waiting words : List ℕ) (next : ℕ) where
  pub state_nobody : d.senders ≤ next → 18 ≡ fault (state_rules d n (state_of waiting words (next ∷ [])))
  unfolding state_rules
  state_nobody l = sym (fault_here 18 _ (le-ltb next d.senders l))

  module _ (known : next < d.senders) where
    pub state_not_marks : all_bits waiting ≡ false → 8 ≡ fault (state_rules d n (state_of waiting words (next ∷ [])))
    unfolding state_rules
    state_not_marks e = sym (fault_past 18 _ (lt-ltb next d.senders known) (fault_here 8 _ e))

    module _ (long : length waiting ≡ d.senders) (marks : all_bits waiting ≡ true) where
      for_all : {b : Bool} → all_words n waiting words (length waiting) ≡ b → all_words n waiting words d.senders ≡ b
      for_all e = sym (ap (all_words n waiting words) long) ∙ e

      pub state_not_words : all_words n waiting words (length waiting) ≡ false → 8 ≡ fault (state_rules d n (state_of waiting words (next ∷ [])))
      unfolding state_rules
      state_not_words e =
          sym (fault_past 18 _ (lt-ltb next d.senders known) (fault_past 8 _ marks (fault_here 8 _ (for_all e))))

      pub state_none : all_words n waiting words (length waiting) ≡ true → 0 ≡ fault (state_rules d n (state_of waiting words (next ∷ [])))
      unfolding state_rules
      state_none e = sym (fault_none _ (lt-ltb next d.senders known, (marks, (for_all e, tt))))

-- ---- the word of sender p, by its mark

module _ (mark n : ℕ) (words : List ℕ) (p : ℕ) where
  pub word_waits : mark ≡ 1 → {r : Bool} → r ≡ all_bits (take (p * n + n - p * n) (drop (p * n) words))
      → r ≡ (not (eqb mark 1) || all_bits (part n words p))
  word_waits is e =
      e ∙ ap all_bits (part_lent n words p) ∙ ap (λ (b : Bool). not b || all_bits (part n words p)) (sym (eq-eqb mark 1 is))
