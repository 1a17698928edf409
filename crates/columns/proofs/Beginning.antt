-- How the functions that begin a call end: refused by the code's number or by the selection's, or with the columns numbered.
use mathlib.Core.Path.{◌≡◌, sym, ap, ◌∙◌, subst}
use mathlib.Core.Logic.{◌≢◌}
use mathlib.Core.Bool.{Bool, ◌&&◌}
use mathlib.Core.List.{List, ◌++◌}
use Prim.Native.Nat.{ℕ, ◌*◌, ◌/◌, ◌<◌, ◌≤◌}
use native.Mathlib.Nat.{div-le_self}
use native.Mathlib.Omega.{arith}
use lib.ListN.{length, take, drop}
use lib.Seq.{length-take-le, take_at}
use Rattle.algebra.specs.Tabulate.{tabulate}
use Rattle.refusals.specs.Counted.{Count, Refused}
use Rattle.refusals.specs.Rules.{fault}
use Rattle.refusals.specs.RuleLaws.{fault_first, fault_rest, refuse, accept}
use Rattle.slices.specs.Lengths.{longest}
use Rattle.params.specs.declared.Parameters.{Parameters}
use Rattle.params.proofs.Accepted.{code_numbered, accepted, n_short}
use Rattle.params.specs.Code.{Accepted, code_fault, code_rules}
use Rattle.parity.specs.Word.{whole}
use Rattle.columns.specs.Listed.{Listed, Selecting}
use Rattle.columns.specs.Fits.{Chosen}
use Rattle.columns.specs.SelectionLaws.{t_positive, selected_inside}
use Rattle.columns.specs.Choice.{Choice, Choice.whole_code, Choice.selection, selected_column, all_places, all_columns}
use Rattle.columns.specs.Choice.{selection_rules, choice_rules}
use Rattle.columns.proofs.ChoiceLaws.{chosen, all_short}

module _ (c : Parameters) (h : List ℕ) (s : Choice) (others full : Bool) (columns : List ℕ) where
  listed_refused : {k : ℕ} → k ≡ fault (choice_rules c h s others full) → k ≢ 0 → Listed c h s others full columns (Refused k)
  listed_refused e ne = record { answer = refuse Refused (Count (all_places c s)) e ne; numbered = λ none. absurd (ne (e ∙ none)) }

  listed_counted : {k : ℕ} → fault (choice_rules c h s others full) ≡ 0 → k ≡ all_places c s → take k columns ≡ all_columns c s
      → Listed c h s others full columns (Count k)
  listed_counted {k} none e numbered =
      record {
        answer = ap Count e ∙ accept {k = 0} Refused (Count (all_places c s)) (sym none) refl_zero;
        numbered = λ z. subst (λ (i : ℕ). take i columns ≡ all_columns c s) e numbered;
      }
    where
      refl_zero : ◌≡◌ {A = ℕ} 0 0
      refl_zero = omega arith

-- a list that is long enough for any word has n entries at its front
pub front_long : {n : ℕ} (columns : List ℕ) → n ≤ longest → longest ≤ length columns → n ≡ length (take n columns)
front_long {n} columns short long =
    let fits : n ≤ length columns = omega arith in sym (length-take-le n columns fits)

-- n columns written at the front of the room, which is longer
pub written_front : (f : ℕ → List ℕ) {n : ℕ} (old : List ℕ) {block : List ℕ} → length (f n) ≡ n → n ≤ length old
    → block ≡ f (length (take n old)) → take n (block ++ drop n old) ≡ f n
written_front f {n} old long fits is =
    ap (λ (b : List ℕ). take n (b ++ drop n old)) (is ∙ ap f (length-take-le n old fits)) ∙ take_at (f n) (drop n old) n long

-- ---- the whole code

module _ (c : Parameters) (h : List ℕ) (others full : Bool) (columns : List ℕ) {k : ℕ} (number : k ≡ code_fault (others && full) c h) where
  pub whole_refused : k ≢ 0 → Listed c h whole_code others full columns (Refused k)
  unfolding choice_rules code_fault
  whole_refused ne = listed_refused c h whole_code others full columns number ne

  pub whole_listed : k ≡ 0 → take c.n columns ≡ whole c.n → Listed c h whole_code others full columns (Count c.n)
  unfolding choice_rules code_fault all_columns
  whole_listed none numbered = listed_counted c h whole_code others full columns (sym number ∙ none) (omega arith) numbered

  pub whole_short : k ≡ 0 → c.n ≤ longest
  unfolding code_fault
  whole_short none = n_short (accepted (others && full) c h (sym number ∙ none)).1.limits

-- ---- a selection

module _ (c : Parameters) (h blocks shifts : List ℕ) (others full : Bool) {k : ℕ} (number : k ≡ code_fault others c h) where
  pub code_refused : (columns : List ℕ) → k ≢ 0 → Listed c h (selection blocks shifts) others full columns (Refused k)
  unfolding choice_rules code_fault
  code_refused columns ne =
      listed_refused c h (selection blocks shifts) others full columns
      (number ∙ sym (fault_first (code_rules others c h) (selection_rules c blocks shifts full) (λ z. ne (number ∙ z)))) ne

  module _ (none : k ≡ 0) where
    code : Accepted c h
    unfolding code_fault
    code = (accepted others c h (sym number ∙ none)).1

    pub some_roots : 0 < c.t
    some_roots = t_positive code

    pub few_blocks : c.n / c.t ≤ longest
    few_blocks =
        let short : c.n ≤ longest = n_short code.limits in
        let fewer : c.n / c.t ≤ c.n = div-le_self c.n c.t in
        omega arith

    rest : fault (choice_rules c h (selection blocks shifts) others full) ≡ fault (selection_rules c blocks shifts full)
    unfolding choice_rules code_fault
    rest = fault_rest (code_rules others c h) (selection_rules c blocks shifts full) (code_numbered others c h) (sym number ∙ none)

    module _ {i : ℕ} (found : i ≡ fault (selection_rules c blocks shifts full)) where
      pub selection_refused : (columns : List ℕ) → i ≢ 0 → Listed c h (selection blocks shifts) others full columns (Refused i)
      selection_refused columns ne = listed_refused c h (selection blocks shifts) others full columns (found ∙ sym rest) ne

      module _ (passed : i ≡ 0) where
        is_chosen : Chosen c blocks shifts
        is_chosen = (chosen c blocks shifts full (sym found ∙ passed)).1

        pub selecting : Selecting c.t blocks shifts
        selecting =
            let short : c.n ≤ longest = n_short code.limits in
            record { some = some_roots; as_many = is_chosen.as_many; short = λ j l. below (selected_inside code is_chosen j l) short }
          where
            below : {x n : ℕ} → x < n → n ≤ longest → x < longest
            below l s = omega arith

        pub word_short : length blocks * c.t ≤ longest
        word_short = all_short code (selection blocks shifts) is_chosen

        pub selection_listed : (columns : List ℕ)
            → take (length blocks * c.t) columns ≡ tabulate (length blocks * c.t) (selected_column c.t blocks shifts)
            → Listed c h (selection blocks shifts) others full columns (Count (length blocks * c.t))
        unfolding all_columns
        selection_listed columns numbered =
            listed_counted c h (selection blocks shifts) others full columns (rest ∙ sym found ∙ passed) (omega arith) numbered
