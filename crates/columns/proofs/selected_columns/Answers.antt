-- `selected_columns` meets its contract: the code's number, the selection's, or the columns numbered.
use mathlib.Core.Path.{refl, sym, ◌∙◌, subst}
use Prim.Native.Nat.{◌*◌}
use native.Mathlib.Omega.{arith}
use lib.ListN.{length}
use Rattle.algebra.specs.Tabulate.{tabulate}
use Rattle.algebra.specs.TabulateLaws.{length-tabulate}
use Rattle.refusals.specs.Answered.{counted_apart}
use Rattle.refusals.specs.Testing.{tested_none, tested_due, handed_on}
use Rattle.columns.specs.Choice.{Choice.selection, selected_column}
use Rattle.columns.specs.Listed.{Listed}
use Rattle.columns.proofs.Beginning.{front_long, code_refused, some_roots, few_blocks, selection_refused, selecting, word_short, selection_listed, written_front}
use Rattle.columns.proofs.selected_columns.Goals as goal

pub returns-in_err-check_code : goal.returns-in_err-check_code
returns-in_err-check_code c =
    let a = c.args in
    let (ne, due) = tested_due c.in_err-check_code.ensures.value in
    let handed = handed_on _ c.from_residual.ensures.1 in
    record {
      listed = subst (Listed a.c a.h.now (selection a.s.blocks.now a.s.shifts.now) a.lent.others a.lent.places _) (sym handed)
          (code_refused a.c a.h.now a.s.blocks.now a.s.shifts.now a.lent.others a.lent.places due _ ne);
      by_index = λ k e. absurd (counted_apart k _ (sym handed ∙ e));
    }

pub check_selection-requires : goal.check_selection-requires
check_selection-requires c =
    let a = c.args in
    let none = sym (tested_none c.in_ok-check_code.ensures.value) in (
      some_roots a.c a.h.now a.s.blocks.now a.s.shifts.now a.lent.others a.lent.places none (omega arith),
      few_blocks a.c a.h.now a.s.blocks.now a.s.shifts.now a.lent.others a.lent.places none (omega arith),
    )

pub returns-in_err-check_selection : goal.returns-in_err-check_selection
returns-in_err-check_selection c =
    let a = c.args in
    let none = sym (tested_none c.in_ok-check_code.ensures.value) in
    let (ne, due) = tested_due c.in_err-check_selection.ensures in
    let handed = handed_on _ c.from_residual-in_err-check_selection.ensures.1 in
    record {
      listed = subst (Listed a.c a.h.now (selection a.s.blocks.now a.s.shifts.now) a.lent.others a.lent.places _) (sym handed)
          (selection_refused a.c a.h.now a.s.blocks.now a.s.shifts.now a.lent.others a.lent.places none (omega arith) due _ ne);
      by_index = λ k e. absurd (counted_apart k _ (sym handed ∙ e));
    }

pub select_columns-requires : goal.select_columns-requires
select_columns-requires c =
    let a = c.args in
    let none = sym (tested_none c.in_ok-check_code.ensures.value) in
    let passed = sym (tested_none c.in_ok-check_selection.ensures) in
    let short = word_short a.c a.h.now a.s.blocks.now a.s.shifts.now a.lent.others a.lent.places none (omega arith) passed (omega arith) in (
      selecting a.c a.h.now a.s.blocks.now a.s.shifts.now a.lent.others a.lent.places none (omega arith) passed (omega arith),
      sym (front_long a.columns.now short c.requires.1),
    )

pub slice_bounds-select_columns-end : goal.slice_bounds-select_columns-end
slice_bounds-select_columns-end c =
    let a = c.args in
    let none = sym (tested_none c.in_ok-check_code.ensures.value) in
    let passed = sym (tested_none c.in_ok-check_selection.ensures) in
    let short = word_short a.c a.h.now a.s.blocks.now a.s.shifts.now a.lent.others a.lent.places none (omega arith) passed (omega arith) in
    omega arith

pub slice_bounds-select_columns-end-2 : goal.slice_bounds-select_columns-end-2
slice_bounds-select_columns-end-2 c =
    let a = c.args in
    let none = sym (tested_none c.in_ok-check_code.ensures.value) in
    let passed = sym (tested_none c.in_ok-check_selection.ensures) in
    let short = word_short a.c a.h.now a.s.blocks.now a.s.shifts.now a.lent.others a.lent.places none (omega arith) passed (omega arith) in
    front_long a.columns.now short c.requires.1

pub overflow_mul-n : goal.overflow_mul-n
overflow_mul-n c =
    let a = c.args in
    let none = sym (tested_none c.in_ok-check_code.ensures.value) in
    let passed = sym (tested_none c.in_ok-check_selection.ensures) in
    let short = word_short a.c a.h.now a.s.blocks.now a.s.shifts.now a.lent.others a.lent.places none (omega arith) passed (omega arith) in
    omega arith

pub returns : goal.returns
returns c =
    let a = c.args in
    let record { value = value; inverted = inverted } = c.in_ok-check_code.ensures in
    let none = sym (tested_none value) in
    let passed = sym (tested_none c.in_ok-check_selection.ensures) in
    let short = word_short a.c a.h.now a.s.blocks.now a.s.shifts.now a.lent.others a.lent.places none (omega arith) passed (omega arith) in
    let column = selected_column a.c.t a.s.blocks.now a.s.shifts.now in
    let n = length a.s.blocks.now * a.c.t in
    let numbered =
    written_front (λ n. tabulate n column) a.columns.now (length-tabulate n column) (omega arith) c.select_columns.ensures in
    record {
      listed = selection_listed a.c a.h.now a.s.blocks.now a.s.shifts.now a.lent.others a.lent.places none (omega arith) passed (omega arith) _
          numbered;
      by_index = λ k e. inverted refl;
    }
