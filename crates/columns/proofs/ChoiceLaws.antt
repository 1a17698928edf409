-- What holds where nothing is refused: the code is accepted, the selection is one, and the places stand for columns of the code, each at most
-- once.
use Rattle.std.specs.Prelude.{◌≡◌, refl, ◌↔◌, Bool, true, false, cond, ◌&&◌, List, ◌++◌, ℕ, ◌*◌, ◌/◌, ◌<◌, ◌≤◌, T, eqb, leb, ltb, length}
use Rattle.std.proofs.Common.{sym, ◌∙◌, subst, arith}
use Rattle.std.proofs.Math.Bool.{and-false}
use borrow.Author.Tests.{eq-eqb, eqb-true, leb-true, le-leb, ltb-true, ltb-false, lt-ltb}
use Rattle.algebra.specs.AllLaws.{all_is, all_true, all_fails}
use Rattle.algebra.specs.DistinctLaws.{distinct_is}
use Rattle.algebra.specs.Flags.{both_true, both_hold}
use Rattle.algebra.specs.Lists.{entry_of}
use Rattle.algebra.specs.TabulateLaws.{length-tabulate}
use Rattle.refusals.specs.Rules.{Rule, fault, numbered}
use Rattle.refusals.specs.RuleLaws.{fault_here, fault_none, fault_first, fault_rest, first_holds, hold, numbered_both}
use Rattle.slices.specs.Lengths.{longest}
use Rattle.params.specs.declared.Parameters.{Parameters}
use Rattle.params.proofs.Accepted.{code_numbered, accepted, accepts, lengths_fault}
use Rattle.params.specs.Code.{Accepted, code_rules}
use Rattle.parity.specs.Selected.{Selected, OnColumns, tabulated_selected, columns_short, length_whole, whole_selected}
use Rattle.columns.specs.Fits.{Below, Chosen, ChoiceFits}
use Rattle.columns.specs.SelectionLaws.{selected_inside, selected_distinct}
use Rattle.columns.specs.Choice.{Choice, Choice.whole_code, Choice.selection, selected_column, all_places, all_columns}
use Rattle.columns.specs.Choice.{all_below, has_lengths, selection_rules, choice_rules}

pub below_is : (k : ℕ) (a : List ℕ) → (all_below k a ≡ true) ↔ Below k a
unfolding all_below
below_is k a = (
  λ t i l. ltb-true (entry_of a i) k (all_is (length a) (λ i. ltb (entry_of a i) k) t i l),
  λ f. all_true (length a) (λ i. ltb (entry_of a i) k) (λ i l. lt-ltb (entry_of a i) k (f i l)),
)

pub beyond_is : (k : ℕ) (a : List ℕ) → all_below k a ≡ false → (i : ℕ) × (i < length a) × (k ≤ entry_of a i)
unfolding all_below
beyond_is k a f =
    let (i, l, e) = all_fails (length a) (λ i. ltb (entry_of a i) k) f in (i, l, ltb-false (entry_of a i) k e)

-- ---- a selection

module _ (c : Parameters) (blocks shifts : List ℕ) (full : Bool) where
  abbrev some? : Bool
  some? = leb 1 (length blocks)

  abbrev few? : Bool
  few? = leb (length blocks) (c.n / c.t)

  abbrev as_many? : Bool
  as_many? = eqb (length shifts) (length blocks)

  selection_numbered : T (numbered (selection_rules c blocks shifts full))
  unfolding selection_rules
  selection_numbered = tt

  pub chosen : fault (selection_rules c blocks shifts full) ≡ 0 → (full ≡ true) × Chosen c blocks shifts
  unfolding selection_rules has_lengths
  chosen none =
      let (lengths, (inside, (once, (shifts_inside, end)))) = hold (selection_rules c blocks shifts full) tt none in
      let (shape, lent) = both_true (some? && few? && as_many?) full lengths in
      let (count, as_many) = both_true (some? && few?) as_many? shape in
      let (some, few) = both_true some? few? count in (
        lent,
        record {
          some = leb-true 1 (length blocks) some;
          few = leb-true (length blocks) (c.n / c.t) few;
          as_many = eqb-true (length shifts) (length blocks) as_many;
          inside = (below_is (c.n / c.t) blocks).0 inside;
          once = (distinct_is blocks).0 once;
          shifts_inside = (below_is c.t shifts).0 shifts_inside;
        },
      )

  pub chosen_passes : full ≡ true → Chosen c blocks shifts → fault (selection_rules c blocks shifts full) ≡ 0
  unfolding selection_rules has_lengths
  chosen_passes lent C =
      let count = both_hold (le-leb 1 (length blocks) C.some) (le-leb (length blocks) (c.n / c.t) C.few) in
      let lengths = both_hold (both_hold count (eq-eqb (length shifts) (length blocks) C.as_many)) lent in
      fault_none (selection_rules c blocks shifts full) (
        lengths,
        ((below_is (c.n / c.t) blocks).1 C.inside, ((distinct_is blocks).1 C.once, ((below_is c.t shifts).1 C.shifts_inside, tt))),
      )

-- ---- any choice

pub choice_numbered : (c : Parameters) (h : List ℕ) (s : Choice) (others full : Bool) → T (numbered (choice_rules c h s others full))
unfolding choice_rules
choice_numbered c h whole_code others full = code_numbered (others && full) c h
choice_numbered c h (selection blocks shifts) others full =
    numbered_both (code_rules others c h) (selection_rules c blocks shifts full) (code_numbered others c h) (selection_numbered c blocks shifts full)

pub choice_accepted : (c : Parameters) (h : List ℕ) (s : Choice) (others full : Bool) → fault (choice_rules c h s others full) ≡ 0
    → (others ≡ true) × (full ≡ true) × Accepted c h × ChoiceFits c s
unfolding choice_rules
choice_accepted c h whole_code others full none =
    let (lent, A) = accepted (others && full) c h none in
    let (o, w) = both_true others full lent in
    (o, w, A, tt)
choice_accepted c h (selection blocks shifts) others full none =
    let first = first_holds (code_rules others c h) (selection_rules c blocks shifts full) none in
    let (o, A) = accepted others c h first in
    let (w, C) = chosen c blocks shifts full
    (sym (fault_rest (code_rules others c h) (selection_rules c blocks shifts full) (code_numbered others c h) first) ∙ none) in
    (o, w, A, C)

pub choice_accepts : {c : Parameters} {h : List ℕ} → Accepted c h → (s : Choice) → ChoiceFits c s → {others full : Bool} → others ≡ true → full ≡ true
    → fault (choice_rules c h s others full) ≡ 0
unfolding choice_rules
choice_accepts {c} {h} A whole_code F {others} {full} o w = accepts (others && full) c h (both_hold o w) A
choice_accepts {c} {h} A (selection blocks shifts) F {others} {full} o w =
    fault_rest (code_rules others c h) (selection_rules c blocks shifts full) (code_numbered others c h) (accepts others c h o A)
    ∙ chosen_passes c blocks shifts full w F

-- it leaves the call to its own rules
pub choice_leaves : {c : Parameters} {h : List ℕ} → Accepted c h → (s : Choice) → ChoiceFits c s → {others full : Bool} → others ≡ true → full ≡ true
    → (more : List Rule) → fault (choice_rules c h s others full ++ more) ≡ fault more
choice_leaves {c} {h} A s F {others} {full} o w more =
    fault_rest (choice_rules c h s others full) more (choice_numbered c h s others full) (choice_accepts A s F o w)

not_full : (c : Parameters) (blocks shifts : List ℕ) → fault (selection_rules c blocks shifts false) ≡ 2
unfolding selection_rules has_lengths
not_full c blocks shifts =
    fault_here 2 _ (and-false (leb 1 (length blocks) && leb (length blocks) (c.n / c.t) && eqb (length shifts) (length blocks)))

-- of an accepted code and a selection that is one, a length is all that can be refused
pub choice_fault : {c : Parameters} {h : List ℕ} → Accepted c h → (s : Choice) → ChoiceFits c s → (others full : Bool)
    → fault (choice_rules c h s others full) ≡ cond (others && full) 0 2
unfolding choice_rules
choice_fault A whole_code F others full = lengths_fault A (others && full)
choice_fault {c} {h} A (selection blocks shifts) F false full =
    fault_first (code_rules false c h) (selection_rules c blocks shifts full) (λ z. two (sym (lengths_fault A false) ∙ z)) ∙ lengths_fault A false
  where
    two : ◌≡◌ {A = ℕ} 2 0 → ⊥
    two z = omega arith
choice_fault {c} {h} A (selection blocks shifts) F true full =
    fault_rest (code_rules true c h) (selection_rules c blocks shifts full) (code_numbered true c h) (accepts true c h refl A) ∙ rest full
  where
    rest : (full : Bool) → fault (selection_rules c blocks shifts full) ≡ cond full 0 2
    rest true = chosen_passes c blocks shifts true refl F
    rest false = not_full c blocks shifts

-- ---- its columns

-- a word has a place for each
pub length_all : (c : Parameters) (s : Choice) → length (all_columns c s) ≡ all_places c s
unfolding all_columns
length_all c whole_code = length_whole c.n
length_all c (selection blocks shifts) = length-tabulate (length blocks * c.t) (selected_column c.t blocks shifts)

pub all_distinct : {c : Parameters} {h : List ℕ} → Accepted c h → (s : Choice) → ChoiceFits c s → Selected c.n (all_columns c s)
unfolding all_columns
all_distinct {c} A whole_code F = whole_selected c.n
all_distinct {c} A (selection blocks shifts) F =
    tabulated_selected c.n (length blocks * c.t) (selected_column c.t blocks shifts) (selected_inside A F) (selected_distinct A F)

pub all_on_columns : {c : Parameters} {h : List ℕ} → Accepted c h → (s : Choice) → ChoiceFits c s → OnColumns c h (all_columns c s)
all_on_columns A s F = record { accepted = A; selected = all_distinct A s F }

pub all_short : {c : Parameters} {h : List ℕ} → Accepted c h → (s : Choice) → ChoiceFits c s → all_places c s ≤ longest
all_short {c} A s F = subst (λ (k : ℕ). k ≤ longest) (length_all c s) (columns_short (all_on_columns A s F))
