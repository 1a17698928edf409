-- `is_number` meets its contract.
use mathlib.Core.Path.{◌≡◌, refl, sym, ap, ◌∙◌, subst}
use mathlib.Core.Bool.{Bool, ◌&&◌}
use mathlib.Core.List.{List}
use Prim.Native.Nat.{ℕ, ◌+◌, ◌≤◌}
use native.Mathlib.Omega.{arith}
use lib.ListN.{length}
use lib.Dec.{eqb}
use borrow.Author.Rules.{rules}
use borrow.Author.Tests.{tests, lt-leb, le-leb, eqb-true, eq-eqb}
use Rattle.std.proofs.Common.{ext_get_or}
use Rattle.std.specs.Bool.{Decides}
use Rattle.std.specs.List.{between}
use Rattle.std.specs.Slice.Iter.{iter_rest}
use Rattle.std.proofs.lemmas.Bool.Decides.{same_from_decides}
use Rattle.std.proofs.lemmas.List.Edits.{length-between, get_or-between}
use Rattle.std.proofs.lemmas.Iterator.{same_from_all, YieldsList-from_slice, YieldsList-from_zip}
use Rattle.algebra.specs.AllLaws.{all_is, all_true}
use Rattle.algebra.specs.Lists.{entry_of}
use Rattle.fields.specs.Fields.{field_width, greatest, number_text, number_at, holds_at, is_number}
use Rattle.fields.specs.Reading.{length_number}
use Rattle.fields.specs.Written.{written, written_whole}
use Rattle.fields.proofs.is_number.Goals as goal

-- a text holds a part at a place if what stands there is that part
held : (text part : List ℕ) (p : ℕ) → p + length part ≤ length text → Decides (holds_at text p part) (between p (p + length part) text ≡ part)
unfolding holds_at
held text part p l =
    let n = length part in
    let same = λ (i : ℕ). eqb (entry_of text (p + i)) (entry_of part i) in (
      λ t. ext_get_or 0 _ part (length-between text p (p + n) l ∙ omega arith)
          (λ i li. get_or-between text p (p + n) i 0 (omega (arith, length-between text p (p + n))) ∙ eqb-true _ _ (all_is n same t i (omega (arith, length-between text p (p + n))))),
      λ e. all_true n same (λ i li. eq-eqb _ _ (sym (get_or-between text p (p + n) i 0 (omega arith)) ∙ ap (λ (x : List ℕ). entry_of x i) e)),
    )

-- what the number is printed as, compared with the text
number-held : (text printed old : List ℕ) (p v : ℕ) (r : Bool) → p + field_width ≤ length text → v ≡ number_at text p → v ≤ greatest → length old ≡ field_width
    → printed ≡ written old 0 (number_text v) → Decides r (between p (p + field_width) text ≡ printed) → r ≡ is_number text p
unfolding is_number
number-held text printed old p v r fits e l long w d =
    let whole : printed ≡ number_text (number_at text p) = w ∙ written_whole (number_text v) old (length_number v ∙ sym long) ∙ ap number_text e in
    let same : length printed ≡ field_width = ap length whole ∙ length_number (number_at text p) in
    same_from_decides r (holds_at text p printed)
    (subst (λ (k : ℕ). Decides r (between p (p + k) text ≡ printed)) (sym same) d)
    (held text printed p (omega arith))
    ∙ ap (holds_at text p) whole
    ∙ ap (λ (b : Bool). b && holds_at text p (number_text (number_at text p)))
    (sym (le-leb (number_at text p) greatest (subst (λ (k : ℕ). k ≤ greatest) e l)))

pub returns-then-v-gt-GREATEST : goal.returns-then-v-gt-GREATEST
unfolding is_number
returns-then-v-gt-GREATEST c =
    let a = c.args in
    let v = number_at a.text.now a.at in
    sym (ap (λ (b : Bool). b && holds_at a.text.now a.at (number_text v)) (lt-leb v greatest (omega (arith, c.value_at-v.ensures))))

pub returns : goal.returns
returns c =
    let a = c.args in
    number-held a.text.now _ _ a.at c.value_at-v.result _ c.requires c.value_at-v.ensures (omega arith) refl c.put_number.ensures
    (same_from_all c.all.new.self _ c.all.result (between a.at (a.at + field_width) a.text.now) _ c.all.ensures.ran
    (YieldsList-from_zip (YieldsList-from_slice _ (ap iter_rest c.zip.ensures.first ∙ c.iter.ensures.rest)) (YieldsList-from_slice _ (search rules)))
    (omega (arith, length-between a.text.now a.at (a.at + field_width), c.put_number.auto.out))
    (λ x q k. search (rules, tests)) (λ x q k. search (rules, tests)))
