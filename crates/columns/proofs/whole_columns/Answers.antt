-- `whole_columns` meets its contract: the code's number, or the columns numbered.
use mathlib.Core.Path.{refl, sym, ◌∙◌, subst}
use native.Mathlib.Omega.{arith}
use Rattle.refusals.specs.Answered.{counted_apart}
use Rattle.refusals.specs.Testing.{tested_none, tested_due, handed_on}
use Rattle.columns.specs.Choice.{Choice.whole_code}
use Rattle.columns.specs.Listed.{Listed}
use Rattle.parity.specs.Word.{whole}
use Rattle.parity.specs.Selected.{length_whole}
use Rattle.columns.proofs.Beginning.{front_long, written_front, whole_refused, whole_listed, whole_short}
use Rattle.columns.proofs.whole_columns.Goals as goal

pub returns-in_err-check_code : goal.returns-in_err-check_code
returns-in_err-check_code c =
    let a = c.args in
    let (ne, due) = tested_due c.in_err-check_code.ensures.value in
    let handed = handed_on _ c.from_residual.ensures.1 in
    record {
      listed = subst (Listed a.c a.h.now whole_code a.lent.others a.lent.places _) (sym handed)
          (whole_refused a.c a.h.now a.lent.others a.lent.places _ due ne);
      by_index = λ k e. absurd (counted_apart k _ (sym handed ∙ e));
    }

pub slice_bounds-number_columns-end : goal.slice_bounds-number_columns-end
slice_bounds-number_columns-end c =
    let a = c.args in
    let none = tested_none c.in_ok-check_code.ensures.value in
    let short = whole_short a.c a.h.now a.lent.others a.lent.places a.columns.now (sym none) (omega arith) in
    omega arith

pub slice_bounds-number_columns-end-2 : goal.slice_bounds-number_columns-end-2
slice_bounds-number_columns-end-2 c =
    let a = c.args in
    let none = tested_none c.in_ok-check_code.ensures.value in
    let short = whole_short a.c a.h.now a.lent.others a.lent.places a.columns.now (sym none) (omega arith) in
    front_long a.columns.now short c.requires.1

pub number_columns-requires : goal.number_columns-requires
number_columns-requires c =
    let a = c.args in
    let none = tested_none c.in_ok-check_code.ensures.value in
    let short = whole_short a.c a.h.now a.lent.others a.lent.places a.columns.now (sym none) (omega arith) in
    omega (arith, front_long a.columns.now short c.requires.1)

pub returns : goal.returns
returns c =
    let a = c.args in
    let record { value = value; inverted = inverted } = c.in_ok-check_code.ensures in
    let none = sym (tested_none value) in
    let short = whole_short a.c a.h.now a.lent.others a.lent.places a.columns.now none (omega arith) in
    let numbered = written_front whole a.columns.now (length_whole a.c.n) (omega arith) c.number_columns.ensures in
    record {
      listed = whole_listed a.c a.h.now a.lent.others a.lent.places _ none (omega arith) numbered;
      by_index = λ k e. inverted refl;
    }
