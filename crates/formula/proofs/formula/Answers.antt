-- `formula` meets its contract: the blocks refuse, or the text does, or the value that was worked out aside is copied into the buffer.
use mathlib.Core.Path.{◌≡◌, refl, sym, ◌∙◌}
use Prim.Native.Nat.{ℕ}
use Rattle.refusals.specs.Outcome.{Done, tested}
use Rattle.refusals.specs.Testing.{tested_none}
use Rattle.formula.specs.Letters.{Lent}
use Rattle.formula.specs.Answers.{lent_rules, lent_fault}
use Rattle.refusals.specs.RuleLaws.{hold}
use Rattle.slices.specs.Lengths.{is_power}
use mathlib.Core.Bool.{true}
use Rattle.formula.specs.Callers.{Ready}
use Rattle.formula.specs.CallerLaws.{ready}
use Rattle.slices.proofs.Room.{length_lent, filled}
use Rattle.formula.proofs.Ending.{lent_refuses, text_refuses, text_done}
use Rattle.formula.proofs.formula.Goals as goal

-- blocks that pass
checked : {m : ℕ} {β : Lent} {s : ℕ} → Done ≡ tested (lent_fault m β s) → Ready m β s
checked {m} {β} {s} is = ready m β s (tested_none is)

power_of : (m : ℕ) (β : Lent) (n : ℕ) → lent_fault m β n ≡ 0 → is_power n ≡ true
unfolding lent_fault lent_rules
power_of m β n z = (hold (lent_rules m β n) tt z).1.0

pub returns-in_err-check_lent : goal.returns-in_err-check_lent
returns-in_err-check_lent c = lent_refuses _ _ _ _ _ c.in_err-check_lent.ensures c.from_residual.ensures.1

pub slice_bounds-value-end : goal.slice_bounds-value-end
slice_bounds-value-end c = (checked c.in_ok-check_lent.ensures).room

pub slice_bounds-evaluate-end : goal.slice_bounds-evaluate-end
slice_bounds-evaluate-end c = sym (length_lent (checked c.in_ok-check_lent.ensures).room)

pub invariant_of-letters : goal.invariant_of-letters
invariant_of-letters c =
    let R = checked c.in_ok-check_lent.ensures in
    record { width = R.width; power = power_of _ _ _ (tested_none c.in_ok-check_lent.ensures); room = R.room; sized = R.sized; elements = R.elements }

pub evaluate-requires : goal.evaluate-requires
evaluate-requires c = length_lent (checked c.in_ok-check_lent.ensures).room

pub returns-in_err-evaluate : goal.returns-in_err-evaluate
returns-in_err-evaluate c = text_refuses _ _ _ _ c.in_ok-check_lent.ensures c.in_err-evaluate.ensures _ refl c.from_residual-in_err-evaluate.ensures.1

pub slice_bounds-value-end-2 : goal.slice_bounds-value-end-2
slice_bounds-value-end-2 c = (filled (checked c.in_ok-check_lent.ensures).room c.evaluate.auto.value).fits

pub slice_bounds-copy_from_slice-end : goal.slice_bounds-copy_from_slice-end
slice_bounds-copy_from_slice-end c = sym (filled (checked c.in_ok-check_lent.ensures).room c.evaluate.auto.value).length_front

pub copy_from_slice-requires : goal.copy_from_slice-requires
copy_from_slice-requires c = sym (filled (checked c.in_ok-check_lent.ensures).room c.evaluate.auto.value).length_front

pub returns : goal.returns
returns c =
    text_done _ _ _ _ c.in_ok-check_lent.ensures c.in_ok-evaluate.ensures refl
    (c.copy_from_slice.ensures.after ∙ (filled (checked c.in_ok-check_lent.ensures).room c.evaluate.auto.value).front)
