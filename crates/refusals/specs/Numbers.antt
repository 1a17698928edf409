-- The rules that a call may break, by their numbers in 01's table.
use Rattle.std.specs.Prelude.{◌≡◌, refl, ℕ, List, [], ◌∷◌, get_or}
use Rattle.std.proofs.Common.{ap}
use Rattle.refusals.specs.declared.Rule.{Rule}
use Rattle.refusals.specs.declared.Rule.TheVariants.{Width, Length, Range, Zero, NotLinear, Repeated, RootCount, Bit, Singular, TooFar}
use Rattle.refusals.specs.declared.Rule.TheVariants.{NoSuchRow, TooFewBits, NoSheet, NoSuchBlock, Shift, NoFormula, Dependent, Sender, Waiting, Hidden}
use Rattle.refusals.specs.declared.Refusal.TheInside.{Inside}

abbrev pub number : Rule → ℕ
number Width = 1
number Length = 2
number Range = 3
number Zero = 4
number NotLinear = 5
number Repeated = 6
number RootCount = 7
number Bit = 8
number Singular = 9
number TooFar = 10
number NoSuchRow = 11
number TooFewBits = 12
number NoSheet = 13
number NoSuchBlock = 14
number Shift = 15
number NoFormula = 16
number Dependent = 17
number Sender = 18
number Waiting = 19
number Hidden = 20

-- the rules in the order of the table, which begins at 1
abbrev pub table : List Rule
table =
    Width ∷ Length ∷ Range ∷ Zero ∷ NotLinear ∷ Repeated ∷ RootCount ∷ Bit ∷ Singular ∷ TooFar ∷ NoSuchRow ∷ TooFewBits ∷ NoSheet ∷ NoSuchBlock ∷ Shift
    ∷ NoFormula ∷ Dependent ∷ Sender ∷ Waiting ∷ Hidden ∷ []

abbrev pub rule_of : ℕ → Rule
rule_of n = get_or (Width ∷ table) n Width

rule_same : (r : Rule) → rule_of (number r) ≡ r
rule_same Width = refl
rule_same Length = refl
rule_same Range = refl
rule_same Zero = refl
rule_same NotLinear = refl
rule_same Repeated = refl
rule_same RootCount = refl
rule_same Bit = refl
rule_same Singular = refl
rule_same TooFar = refl
rule_same NoSuchRow = refl
rule_same TooFewBits = refl
rule_same NoSheet = refl
rule_same NoSuchBlock = refl
rule_same Shift = refl
rule_same NoFormula = refl
rule_same Dependent = refl
rule_same Sender = refl
rule_same Waiting = refl
rule_same Hidden = refl

-- a rule is known by its number
pub rule_back : (refusal : Inside) → record { 0 = rule_of (number refusal.0) } ≡ refusal
rule_back refusal = ap (λ (r : Rule). record { 0 = r }) (rule_same refusal.0)
