-- The code on a sheet, as the program holds it: its numbers, and a buffer whose first n entries are the signature.
use mathlib.Core.Path.{◌≡◌, refl, sym, ap, ap₂, ◌∙◌, subst}
use mathlib.Core.Bool.{true}
use mathlib.Core.List.{List, ◌++◌}
use Prim.Native.Nat.{ℕ, ◌*◌, ◌+◌, ◌≤◌}
use lib.ListN.{length, take, drop}
use lib.Seq.{take_at, length-take-le}
use Rattle.algebra.specs.TabulateLaws.{length-tabulate}
use Rattle.refusals.specs.RuleLaws.{fault_past}
use Rattle.params.specs.declared.Parameters.{Parameters}
use Rattle.params.specs.Code.{code_fault, Accepted}
use Rattle.signature.specs.Inverses.{Inverted}
use Rattle.slices.specs.Lengths.{longest}
use Rattle.fields.specs.Fields.{field_width, number_at, numbers_at}
use Rattle.sheets.specs.Sheet.{second, sheet_parameters, sheet_n, sheet_h, is_sheet}
use Rattle.sheets.specs.Reading.{n_within}
use Rattle.sheets.specs.Fault.{sheet_rules, sheet_fault}
use Rattle.sheets.specs.Held.{SheetRead}
use Rattle.sheets.specs.Laws.{sheet_accepted}

pub n_small : (text : List ℕ) {n : ℕ} → is_sheet text ≡ true → n ≡ sheet_n text → n ≤ longest
n_small text s e = subst (λ (k : ℕ). k ≤ longest) (sym e) (n_within text s)

-- the signature after it was read into the first n entries
pub signature_read : (text h l : List ℕ) (n : ℕ) → n ≡ sheet_n text → n ≤ length h → l ≡ numbers_at text second (length (take n h))
    → take (sheet_n text) (l ++ drop n h) ≡ sheet_h text
unfolding numbers_at
signature_read text h l n e fits r =
    ap (λ (k : ℕ). take k (l ++ drop n h)) (sym e)
    ∙ take_at l (drop n h) n (ap length read ∙ length-tabulate n (λ i. number_at text (second + i * field_width))) ∙ read ∙ ap (numbers_at text second) e
  where
    read : l ≡ numbers_at text second n
    read = r ∙ ap (numbers_at text second) (length-take-le n h fits)

-- the numbers as they are held are those on the sheet
module _ (text : List ℕ) {c : Parameters} (on : c ≡ sheet_parameters text) where
  pub n_is : c.n ≡ sheet_n text
  n_is = ap (λ (p : Parameters). p.n) on

  -- and so is the signature
  module _ (h : List ℕ) (signature : take (sheet_n text) h ≡ sheet_h text) where
    pub h_is : take c.n h ≡ sheet_h text
    h_is = ap (λ (k : ℕ). take k h) n_is ∙ signature

    pub code_on_sheet : is_sheet text ≡ true → code_fault true c (take c.n h) ≡ sheet_fault text
    unfolding sheet_fault sheet_rules code_fault
    code_on_sheet s = ap₂ (code_fault true) on h_is ∙ sym (fault_past 13 _ s refl)

    pub sheet_held : {inverses : List ℕ} → sheet_fault text ≡ 0 → c.n ≤ length h → Inverted c.m (take c.n h) inverses
        → SheetRead text h inverses
    sheet_held {inverses} z fits I =
        record {
          none = z;
          fits = subst (λ (k : ℕ). k ≤ length h) n_is fits;
          signature = signature;
          inverted = subst (λ (l : List ℕ). Inverted (sheet_parameters text).m l inverses) h_is
              (subst (λ (d : Parameters). Inverted d.m (take c.n h) inverses) on I);
        }

  pub code_held : {h inverses : List ℕ} → SheetRead text h inverses → Accepted c (take c.n h) × Inverted c.m (take c.n h) inverses
  code_held {h} {inverses} S =
      subst (λ (l : List ℕ). Accepted c l × Inverted c.m l inverses) (sym (h_is h S.signature))
      (subst (λ (d : Parameters). Accepted d (sheet_h text) × Inverted d.m (sheet_h text) inverses) (sym on)
      (sheet_accepted text S.none, S.inverted))
