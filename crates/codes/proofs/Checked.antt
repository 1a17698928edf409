-- What `check` knows of a call that has begun, and once its number is 0.
use mathlib.Core.Path.{◌≡◌, subst}
use mathlib.Core.Bool.{Bool, true, ◌&&◌}
use mathlib.Core.List.{List}
use Prim.Native.Nat.{ℕ}
use Rattle.std.specs.Prelude.{Result}
use lib.Dec.{eqb}
use lib.ListN.{length}
use borrow.Author.Tests.{eqb-true}
use Rattle.algebra.specs.Flags.{both_true}
use Rattle.params.specs.declared.Parameters.{Parameters}
use Rattle.params.specs.Code.{Accepted}
use Rattle.parity.specs.declared.Code.{Code}
use Rattle.shortened.specs.Begun.{Begun}
use Rattle.shortened.specs.Setting.{Setting, short_code}
use Rattle.shortened.proofs.SettingLaws.{setting_accepted}
use Rattle.codes.specs.Answers.{check_fault}

-- a call that began at a setting that is the whole code
pub at_code : {c : Parameters} {h hidden : List ℕ} {s : Setting} {others words : Bool} {found : Result Code ℕ}
    → s ≡ short_code hidden → Begun c h s others words found → Begun c h (short_code hidden) others words found
at_code {c} {h} {others = others} {words = words} {found = found} e B = subst (λ (s : Setting). Begun c h s others words found) e B

-- the buffers of `check` have their lengths
pub checked : (c : Parameters) (h hidden roots support : List ℕ) → check_fault c h hidden roots support ≡ 0
    → (length roots ≡ c.n) × (length support ≡ c.n) × Accepted c h
unfolding check_fault
checked c h hidden roots support z =
    let (lent, w, A, F) =
    setting_accepted c h (short_code hidden) (eqb (length roots) c.n && eqb (length support) c.n) true z in
    let (r, s) = both_true (eqb (length roots) c.n) (eqb (length support) c.n) lent in
    (eqb-true (length roots) c.n r, eqb-true (length support) c.n s, A)
