-- How a start and an offer end, over plain numbers and lists: k is the number that the rules give.
use mathlib.Core.Path.{◌≡◌, refl, sym, ap, ◌∙◌, subst}
use mathlib.Core.Bool.{Bool, true, ◌&&◌}
use mathlib.Core.List.{List, [], ◌∷◌, ◌++◌}
use Prim.Native.Nat.{ℕ, ◌+◌, ◌*◌, ◌<◌, ◌≤◌}
use native.Mathlib.Omega.{arith}
use Rattle.std.specs.Prelude.{Result}
use lib.Dec.{eqb}
use lib.ListN.{length, set, replicate}
use borrow.Author.Tests.{eqb-true, ltb-true}
use Rattle.algebra.specs.Flags.{both_true}
use Rattle.algebra.specs.PartLaws.{part_room}
use Rattle.algebra.specs.Parts.{with_part}
use Rattle.std.specs.Result.{IsErrAnd}
use Rattle.refusals.specs.Ending.{Ended, ended_done}
use Rattle.refusals.specs.Outcome.{Outcome, Done, Refused, tested}
use Rattle.refusals.specs.Testing.{tested_none, tested_due, handed_on}
use Rattle.refusals.specs.Rules.{Rule, fault}
use Rattle.refusals.specs.RuleLaws.{hold, refuse}
use Rattle.params.specs.declared.Parameters.{Parameters}
use Rattle.parity.specs.declared.Code.{Code}
use Rattle.shortened.specs.Begun.{Begun}
use Rattle.shortened.proofs.BegunLaws.{begun_as, begun_set}
use Rattle.shortened.specs.Setting.{Setting, places}
use Rattle.scheduler.specs.declared.Dash.{Dash}
use Rattle.scheduler.specs.State.{dash_rules, offer_rules}
use Rattle.scheduler.specs.Answers.{start_lengths, offer_lengths}
use Rattle.scheduler.specs.Parts.{StartEnded, LentOffer, OfferEnded}

-- a call that hands on what refuses it leaves its buffer as it was
pub ended_on : {i : ℕ} (rules : List Rule) (old value : List ℕ) (r : Outcome) → Refused i ≡ tested (fault rules) → IsErrAnd r (λ y. y ≡ i)
    → Ended r rules old value old
ended_on rules old value r is e =
    let (ne, due) = tested_due is in
    record { outcome = handed_on r e ∙ is; buffer = refuse (λ k. old) value due ne }

-- ---- the start

-- what is lent, by its lengths
pub start_lent : (d : Dash) (waiting next : List ℕ) → start_lengths d waiting next ≡ true → (length waiting ≡ d.senders) × (length next ≡ 1)
unfolding start_lengths
start_lent d waiting next t =
    let (marks, turn) = both_true (eqb (length waiting) d.senders) (eqb (length next) 1) t in
    (eqb-true (length waiting) d.senders marks, eqb-true (length next) 1 turn)

-- a list of one number, which is stored
pub only : (l : List ℕ) (x : ℕ) → length l ≡ 1 → set l 0 x ≡ x ∷ []
only [] x e = absurd (omega arith)
only (a ∷ []) x e = refl
only (a ∷ b ∷ l) x e = absurd (omega arith)

module _ (d : Dash) (waiting next : List ℕ) where
  pub start_refused : {i : ℕ} (r : Outcome) → Refused i ≡ tested (fault (dash_rules d)) → IsErrAnd r (λ y. y ≡ i)
      → StartEnded d waiting next r waiting next
  start_refused r is e =
      record {
        marks = ended_on (dash_rules d) waiting (replicate d.senders 0) r is e;
        turn = ended_on (dash_rules d) next (0 ∷ []) r is e;
      }

  pub start_done : Done ≡ tested (fault (dash_rules d)) → length waiting ≡ d.senders → length next ≡ 1 → {waiting' : List ℕ}
      → waiting' ≡ replicate (length waiting) 0 → StartEnded d waiting next Done waiting' (set next 0 0)
  start_done is long one e =
      let none = sym (tested_none is) in
      record {
        marks = ended_done (dash_rules d) waiting (replicate d.senders 0) none refl (e ∙ ap (λ (n : ℕ). replicate n 0) long);
        turn = ended_done (dash_rules d) next (0 ∷ []) none refl (only next 0 one);
      }

-- ---- an offer

pub offer_lent : (d : Dash) (word waiting words : List ℕ) (n : ℕ) → eqb (length waiting) d.senders ≡ true → offer_lengths d word words n ≡ true
    → (length word ≡ n) × LentOffer d word waiting words
unfolding offer_lengths
offer_lent d word waiting words n marks t =
    let (one, all) = both_true (eqb (length word) n) (eqb (length words) (d.senders * n)) t in
    let long : length word ≡ n = eqb-true (length word) n one in (
      long,
      record {
        waiting_long = eqb-true (length waiting) d.senders marks;
        words_long = eqb-true (length words) (d.senders * n) all ∙ ap (λ (x : ℕ). d.senders * x) (sym long);
      },
    )

-- a call that counted n sent places, and began with the length of all words tested as r
pub offer_began : (d : Dash) (word words : List ℕ) {c : Parameters} {h : List ℕ} {s s' : Setting} {others r : Bool} {n : ℕ}
    {found : Result Code ℕ}
    → Begun c h s others (eqb (length word) n && r) found → r ≡ eqb (length words) (d.senders * n) → n ≡ places s → s ≡ s'
    → Begun c h s' others (offer_lengths d word words (places s')) found
unfolding offer_lengths
offer_began d word words {n = n} B e counted is =
    begun_set (λ k. eqb (length word) k && eqb (length words) (d.senders * k)) (begun_as B (ap (λ (b : Bool). eqb (length word) n && b) e)) counted is

module _ (d : Dash) (sender : ℕ) (word waiting words : List ℕ) where
  abbrev rules : List Rule
  rules = dash_rules d ++ offer_rules d sender word waiting

  pub offer_refused : {i : ℕ} (r : Outcome) → Refused i ≡ tested (fault rules) → IsErrAnd r (λ y. y ≡ i)
      → OfferEnded d sender word waiting words r waiting words
  offer_refused r is e =
      record {
        marks = ended_on rules waiting (set waiting sender 1) r is e;
        kept = ended_on rules words (with_part (length word) words sender word) r is e;
      }

  pub offer_done : Done ≡ tested (fault rules) → {words' : List ℕ} → words' ≡ with_part (length word) words sender word
      → OfferEnded d sender word waiting words Done (set waiting sender 1) words'
  offer_done is e =
      let none = sym (tested_none is) in
      record {
        marks = ended_done rules waiting (set waiting sender 1) none refl refl;
        kept = ended_done rules words (with_part (length word) words sender word) none refl e;
      }

-- where nothing is refused, the sender has a mark and a part
module _ {d : Dash} {word waiting words : List ℕ} (L : LentOffer d word waiting words) (sender : ℕ)
    (is : Done ≡ tested (fault (dash_rules d ++ offer_rules d sender word waiting))) where
  known : sender < d.senders
  unfolding dash_rules offer_rules
  known = ltb-true sender d.senders (hold (dash_rules d ++ offer_rules d sender word waiting) tt (tested_none is)).1.1.0

  pub offer_marked : sender < length waiting
  offer_marked = subst (λ (n : ℕ). sender < n) (sym L.waiting_long) known

  pub offer_inside : sender * length word + length word ≤ length words
  offer_inside = subst (λ (n : ℕ). sender * length word + length word ≤ n) (sym L.words_long) (part_room (length word) known)

-- a word's part, by n places and not by the word's own length
pub kept_wide : (sender : ℕ) (word : List ℕ) {n : ℕ} {found : Outcome} {rules : List Rule} {words words' : List ℕ} → length word ≡ n
    → Ended found rules words (with_part (length word) words sender word) words' → Ended found rules words (with_part n words sender word) words'
kept_wide sender word {found = found} {rules = rules} {words = words} {words' = words'} long E =
    subst (λ (n : ℕ). Ended found rules words (with_part n words sender word) words') long E
