-- What holds where a setting refuses nothing: the code is accepted, the selection is one, message columns alone are hidden, and the sent places stand
-- for columns of the code, each at most once.
use Rattle.std.specs.Prelude.{◌≡◌, refl, ◌↔◌, Bool, true, false, cond, ◌&&◌, ◌||◌, List, [], ◌∷◌, ◌++◌, ℕ, ◌<◌, ◌≤◌, T, length}
use Rattle.std.proofs.Common.{sym, ap, ◌∙◌, subst, arith, eq-eqb, eqb-true}
use Rattle.algebra.specs.AllLaws.{all_is, all_true}
use Rattle.refusals.specs.Rules.{Rule, ◌unless◌, fault, numbered}
use Rattle.refusals.specs.RuleLaws.{fault_here, fault_past, fault_empty, fault_none, fault_first, fault_rest, first_holds, hold, numbered_both}
use Rattle.slices.specs.BitLaws.{bits_are}
use Rattle.slices.specs.Lengths.{longest}
use Rattle.params.specs.declared.Parameters.{Parameters}
use Rattle.params.specs.Code.{Accepted}
use Rattle.parity.specs.Columns.{is_message_column}
use Rattle.parity.specs.Selected.{Selected, OnColumns, columns_short}
use Rattle.columns.specs.Choice.{all_places, all_columns, choice_rules}
use Rattle.columns.proofs.ChoiceLaws.{choice_numbered, choice_accepted, choice_accepts, choice_fault, length_all, all_distinct}
use Rattle.shortened.specs.Fits.{Hides, Fits}
use Rattle.shortened.specs.Marks.{is_sent, hidden_pass, hides_messages, mark_rules}
use Rattle.shortened.specs.MarkLaws.{length_sent, sent_selected}
use Rattle.shortened.specs.Setting.{Setting, places, columns_of, is_marked, setting_rules}

-- ---- the marks

pub hidden_pass_lem : (hidden : List ℕ) (test : ℕ → Bool)
    → (hidden_pass hidden test ≡ true) ↔ ((p : ℕ) → p < length hidden → is_sent hidden p ≡ false → test p ≡ true)
unfolding hidden_pass
hidden_pass_lem hidden test = (
  λ e p l f. sym (ap (λ (b : Bool). b || test p) f) ∙ all_is (length hidden) (λ p. is_sent hidden p || test p) e p l,
  λ e. all_true (length hidden) (λ p. is_sent hidden p || test p) (λ p l. either (is_sent hidden p) (test p) (e p l)),
)
  where
    either : (a b : Bool) → (a ≡ false → b ≡ true) → (a || b) ≡ true
    either true b q = refl
    either false b q = q refl

module _ (c : Parameters) (h cols hidden : List ℕ) (words : Bool) where
  pub marks_numbered : T (numbered (mark_rules c h cols hidden words))
  unfolding mark_rules
  marks_numbered = tt

  pub marked : fault (mark_rules c h cols hidden words) ≡ 0 → length hidden ≡ length cols → (words ≡ true) × Hides c h cols hidden
  unfolding mark_rules hides_messages
  marked none long =
      let (marks, (messages, (lent, end))) = hold (mark_rules c h cols hidden words) tt none in (
        lent,
        record {
          long = long;
          marks = (bits_are hidden).0 marks;
          messages = (hidden_pass_lem hidden (is_message_column c h cols)).0 messages;
        },
      )

  pub marks_pass : words ≡ true → Hides c h cols hidden → fault (mark_rules c h cols hidden words) ≡ 0
  unfolding mark_rules hides_messages
  marks_pass lent H =
      fault_none (mark_rules c h cols hidden words)
      ((bits_are hidden).1 H.marks, ((hidden_pass_lem hidden (is_message_column c h cols)).1 H.messages, (lent, tt)))

-- ---- the rules

pub setting_numbered : (c : Parameters) (h : List ℕ) (s : Setting) (others words : Bool) → T (numbered (setting_rules c h s others words))
unfolding setting_rules
setting_numbered c h s others words =
    numbered_both (choice_rules c h s.choice others (is_marked c s)) (mark_rules c h (all_columns c s.choice) s.hidden words)
    (choice_numbered c h s.choice others (is_marked c s)) (marks_numbered c h (all_columns c s.choice) s.hidden words)

pub setting_accepted : (c : Parameters) (h : List ℕ) (s : Setting) (others words : Bool) → fault (setting_rules c h s others words) ≡ 0
    → (others ≡ true) × (words ≡ true) × Accepted c h × Fits c h s
unfolding setting_rules
setting_accepted c h s others words none =
    let rules = choice_rules c h s.choice others (is_marked c s) in
    let more = mark_rules c h (all_columns c s.choice) s.hidden words in
    let first = first_holds rules more none in
    let (o, long, A, C) = choice_accepted c h s.choice others (is_marked c s) first in
    let (w, H) =
    marked c h (all_columns c s.choice) s.hidden words
    (sym (fault_rest rules more (choice_numbered c h s.choice others (is_marked c s)) first) ∙ none)
    (eqb-true (length s.hidden) (all_places c s.choice) long ∙ sym (length_all c s.choice)) in
    (o, w, A, record { choice = C; hides = H })

-- a mark for each place
pub fits_marked : {c : Parameters} {h : List ℕ} {s : Setting} → Fits c h s → length s.hidden ≡ all_places c s.choice
fits_marked {c} {h} {s} F = F.hides.long ∙ length_all c s.choice

pub setting_accepts : {c : Parameters} {h : List ℕ} → Accepted c h → (s : Setting) → Fits c h s → {others words : Bool} → others ≡ true → words ≡ true
    → fault (setting_rules c h s others words) ≡ 0
unfolding setting_rules
setting_accepts {c} {h} A s F {others} {words} o w =
    fault_rest (choice_rules c h s.choice others (is_marked c s)) (mark_rules c h (all_columns c s.choice) s.hidden words)
    (choice_numbered c h s.choice others (is_marked c s))
    (choice_accepts A s.choice F.choice o (eq-eqb (length s.hidden) (all_places c s.choice) (fits_marked F)))
    ∙ marks_pass c h (all_columns c s.choice) s.hidden words w F.hides

-- it leaves the call to its own rules
pub setting_leaves : {c : Parameters} {h : List ℕ} → Accepted c h → (s : Setting) → Fits c h s → {others words : Bool} → others ≡ true → words ≡ true
    → (more : List Rule) → fault (setting_rules c h s others words ++ more) ≡ fault more
setting_leaves {c} {h} A s F {others} {words} o w more =
    fault_rest (setting_rules c h s others words) more (setting_numbered c h s others words) (setting_accepts A s F o w)

-- marks that are in order leave the length of the words
marks_lent_lem : {c : Parameters} {h cols hidden : List ℕ} → Hides c h cols hidden → (words : Bool)
    → fault (mark_rules c h cols hidden words) ≡ cond words 0 2
unfolding mark_rules hides_messages
marks_lent_lem {c} {h} {cols} {hidden} H words =
    fault_past 20 _ ((bits_are hidden).1 H.marks)
    (fault_past 20 _ ((hidden_pass_lem hidden (is_message_column c h cols)).1 H.messages) (last words))
  where
    last : (words : Bool) → fault ((2 unless words) ∷ []) ≡ cond words 0 2
    last true = fault_past 2 [] refl fault_empty
    last false = fault_here 2 [] refl

-- of an accepted code and a setting that fits it, a length is all that can be refused
pub setting_fault : {c : Parameters} {h : List ℕ} → Accepted c h → (s : Setting) → Fits c h s → (others words : Bool)
    → fault (setting_rules c h s others words) ≡ cond (others && words) 0 2
unfolding setting_rules
setting_fault {c} {h} A s F others words = decided others (choice_fault A s.choice F.choice others (is_marked c s))
  where
    rules : Bool → List Rule
    rules others = choice_rules c h s.choice others (is_marked c s)

    more : List Rule
    more = mark_rules c h (all_columns c s.choice) s.hidden words

    two : ◌≡◌ {A = ℕ} 2 0 → ⊥
    two z = omega arith

    decided : (others : Bool) → fault (rules others) ≡ cond (others && is_marked c s) 0 2 → fault (rules others ++ more) ≡ cond (others && words) 0 2
    decided false first = fault_first (rules false) more (λ z. two (sym first ∙ z)) ∙ first
    decided true first =
        fault_rest (rules true) more (choice_numbered c h s.choice true (is_marked c s))
        (first ∙ ap (λ (b : Bool). cond b 0 2) (eq-eqb (length s.hidden) (all_places c s.choice) (fits_marked F)))
        ∙ marks_lent_lem F.hides words

-- ---- its columns

-- a word has a place for each
pub length_columns : (c : Parameters) (s : Setting) → length (columns_of c s) ≡ places s
unfolding columns_of
length_columns c s = length_sent s.hidden (all_columns c s.choice)

pub fits_selected : {c : Parameters} {h : List ℕ} → Accepted c h → (s : Setting) → Fits c h s → Selected c.n (columns_of c s)
unfolding columns_of
fits_selected {c} A s F = sent_selected s.hidden F.hides.long (all_distinct A s.choice F.choice)

pub fits_columns : {c : Parameters} {h : List ℕ} → Accepted c h → (s : Setting) → Fits c h s → OnColumns c h (columns_of c s)
fits_columns A s F = record { accepted = A; selected = fits_selected A s F }

pub places_short : {c : Parameters} {h : List ℕ} → Accepted c h → (s : Setting) → Fits c h s → places s ≤ longest
places_short {c} A s F = subst (λ (k : ℕ). k ≤ longest) (length_columns c s) (columns_short (fits_columns A s F))
