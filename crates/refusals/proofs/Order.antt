-- The derived order of the rules is that of their numbers.
use Rattle.std.specs.Prelude.{◌≡◌, refl, Bool, true, false, cond, ℕ, [], ◌∷◌, nat_lt, int_lt}
use Rattle.std.proofs.Common.{◌∙◌, ap₂, int_cmp, slice_index_or}
use Rattle.std.specs.Ordering.{is_lt}
use lib.IntN.{ℤ, pos}
use denote.Enum.Declared.{tag_of}
use Rattle.std.specs.declared.cmp.Ordering.TheVariants.{Less, Equal, Greater}
use Rattle.refusals.specs.declared.Rule.{Rule}
use Rattle.refusals.specs.declared.Rule.TheVariants.{Width, Length, Range, Zero, NotLinear, Repeated, RootCount, Bit, Singular, TooFar}
use Rattle.refusals.specs.declared.Rule.TheVariants.{NoSuchRow, TooFewBits, NoSheet, NoSuchBlock, Shift, NoFormula, Dependent, Sender, Waiting, Hidden}
use Rattle.refusals.specs.contracts.Rule.{the_type}
use Rattle.refusals.specs.Numbers.{number}

-- what the derive compares: the number that the source writes beside the name
abbrev pub value : Rule → ℤ
value r =
    slice_index_or (pos 1 ∷ pos 2 ∷ pos 3 ∷ pos 4 ∷ pos 5 ∷ pos 6 ∷ pos 7 ∷ pos 8 ∷ pos 9 ∷ pos 10 ∷ pos 11 ∷ pos 12 ∷ pos 13 ∷ pos 14 ∷ pos 15 ∷ pos 16 ∷ pos 17 ∷ pos 18 ∷ pos 19 ∷ pos 20 ∷ [])
    (tag_of the_type r) (pos 0)

value_is : (r : Rule) → value r ≡ pos (number r)
value_is Width = refl
value_is Length = refl
value_is Range = refl
value_is Zero = refl
value_is NotLinear = refl
value_is Repeated = refl
value_is RootCount = refl
value_is Bit = refl
value_is Singular = refl
value_is TooFar = refl
value_is NoSuchRow = refl
value_is TooFewBits = refl
value_is NoSheet = refl
value_is NoSuchBlock = refl
value_is Shift = refl
value_is NoFormula = refl
value_is Dependent = refl
value_is Sender = refl
value_is Waiting = refl
value_is Hidden = refl

pos_less : (a b : ℕ) → is_lt (int_cmp (pos a) (pos b)) ≡ nat_lt a b
pos_less a b = by (int_lt (pos a) (pos b)) (int_lt (pos b) (pos a))
  where
    by : (t u : Bool) → is_lt (cond t Less (cond u Greater Equal)) ≡ t
    by true u = refl
    by false true = refl
    by false false = refl

pub rules_ordered : (r s : Rule) → is_lt (int_cmp (value r) (value s)) ≡ nat_lt (number r) (number s)
rules_ordered r s = ap₂ (λ (a b : ℤ). is_lt (int_cmp a b)) (value_is r) (value_is s) ∙ pos_less (number r) (number s)
