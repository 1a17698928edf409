-- What is known once a call's rules have held.
use mathlib.Core.Path.{◌≡◌}
use mathlib.Core.List.{[], ◌∷◌}
use Prim.Native.Nat.{ℕ, ◌^◌, ◌<◌}
use Rattle.refusals.specs.Rules.{◌unless◌}
use Rattle.refusals.specs.RuleLaws.{hold}
use Rattle.field.specs.Range.{is_width, is_element}
use Rattle.field.specs.RangeLaws.{width_is, element_is}
use Rattle.field.specs.Answers.{element_rules, element_fault, pair_fault}
use Rattle.field.specs.Gf.{Width}

pub element_checked : (m a : ℕ) → element_fault m a ≡ 0 → Width m × (a < 2 ^ m)
unfolding element_fault element_rules
element_checked m a e =
    let h = hold ((1 unless is_width m) ∷ (3 unless is_element m a) ∷ []) tt e in
    (width_is m h.0, element_is m a h.1.0)

pub pair_checked : (m a b : ℕ) → pair_fault m a b ≡ 0 → Width m × (a < 2 ^ m) × (b < 2 ^ m)
unfolding pair_fault element_rules
pair_checked m a b e =
    let h = hold ((1 unless is_width m) ∷ (3 unless is_element m a) ∷ (3 unless is_element m b) ∷ []) tt e in
    (width_is m h.0, element_is m a h.1.0, element_is m b h.1.1.0)
