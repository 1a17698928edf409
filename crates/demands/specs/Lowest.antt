-- 01: "the lowest number that applies". For a list of rules whose numbers rise, the number that is given is that of a rule which fails, and no rule
-- with a lower number fails.
use Rattle.std.specs.Prelude.{◌≡◌, refl, ◌≢◌, ◌↔◌, ◌⊎◌, Bool, true, false, not, ◌&&◌, List, [], ◌∷◌, ◌++◌, ℕ, zero, suc, ◌<◌, ◌≤◌, T, eqb, leb}
use Rattle.std.proofs.Common.{sym, ap, ◌∙◌, subst, inl, inr, append_assoc, arith, leb-true}
use Rattle.std.proofs.Math.Decide.{ℕ_discrete}
use Rattle.std.proofs.lemmas.Bool.{eqb-false, not-true}
use Rattle.algebra.specs.Flags.{both_true, both_hold}
use Rattle.refusals.specs.Rules.{Rule, ◌unless◌, Hold, fault, numbered}
use Rattle.refusals.specs.RuleLaws.{hold, fault_none, fault_here, fault_past, fault_first, fault_rest, numbered_both}

-- the numbers rise from l on, or stay
abbrev pub rising : ℕ → List Rule → Bool
rising l [] = true
rising l ((n unless t) ∷ rules) = leb l n && rising n rules

-- a rule with the number k fails
abbrev pub Fails : ℕ → List Rule → Type 0
Fails k [] = ⊥
Fails k ((n unless t) ∷ rules) = ((n ≡ k) × (t ≡ false)) ⊎ Fails k rules

-- every rule with a number below k holds
abbrev pub HoldBelow : ℕ → List Rule → Type 0
HoldBelow k [] = Unit {0}
HoldBelow k ((n unless t) ∷ rules) = (n < k → t ≡ true) × HoldBelow k rules

-- k is the lowest number that applies
pub record Lowest (k : ℕ) (rules : List Rule) : Type 0 where
  pub fails : Fails k rules
  pub below : HoldBelow k rules

-- none of the numbers from k on is below k
none_below : (k : ℕ) (rules : List Rule) → rising k rules ≡ true → (l : ℕ) → l ≤ k → HoldBelow l rules
none_below k [] r l le = tt
none_below k ((n unless t) ∷ rules) r l le =
    let (first, rest) = both_true (leb k n) (rising n rules) r in
    let low : k ≤ n = leb-true k n first in
    (λ less. absurd (above low le less), none_below n rules rest l (omega arith))
  where
    above : k ≤ n → l ≤ k → n < l → ⊥
    above a b c = omega arith

lowest_from : (l : ℕ) (rules : List Rule) → rising l rules ≡ true → fault rules ≢ 0 → Lowest (fault rules) rules × (l ≤ fault rules)
unfolding fault
lowest_from l [] r ne = absurd (ne refl)
lowest_from l ((n unless true) ∷ rules) r ne =
    let (first, rest) = both_true (leb l n) (rising n rules) r in
    let low : l ≤ n = leb-true l n first in
    let (L, at) = lowest_from n rules rest ne in
    (record { fails = inr L.fails; below = (λ less. refl, L.below) }, omega arith)
lowest_from l ((n unless false) ∷ rules) r ne =
    let (first, rest) = both_true (leb l n) (rising n rules) r in
    (record { fails = inl (refl, refl); below = (λ less. absurd (itself less), none_below n rules rest n (omega arith)) }, leb-true l n first)
  where
    itself : n < n → ⊥
    itself less = omega arith

-- the number of a call with such rules
pub lowest : (rules : List Rule) → rising 1 rules ≡ true → fault rules ≢ 0 → Lowest (fault rules) rules
lowest rules r ne = (lowest_from 1 rules r ne).0

-- ---- what holds below a number

hold_below : (k : ℕ) (rules : List Rule) → Hold rules → HoldBelow k rules
hold_below k [] holds = tt
hold_below k ((n unless t) ∷ rules) holds = (λ less. holds.0, hold_below k rules holds.1)

below_less : (j k : ℕ) → j ≤ k → (rules : List Rule) → HoldBelow k rules → HoldBelow j rules
below_less j k l [] below = tt
below_less j k l ((n unless t) ∷ rules) below = (λ less. below.0 (within less l), below_less j k l rules below.1)
  where
    within : n < j → j ≤ k → n < k
    within a b = omega arith

pub rising-numbered : (l : ℕ) (rules : List Rule) → 1 ≤ l → rising l rules ≡ true → T (numbered rules)
rising-numbered l [] low r = tt
rising-numbered l ((zero unless t) ∷ rules) low r =
    let first : l ≤ 0 = leb-true l 0 (both_true (leb l 0) (rising 0 rules) r).0 in absurd (omega arith)
rising-numbered l ((suc n unless t) ∷ rules) low r =
    rising-numbered (suc n) rules (omega arith) (both_true (leb l (suc n)) (rising (suc n) rules) r).1

-- below the number that is due, and anywhere where none is, the rules hold
pub below_fault : (rules : List Rule) → rising 1 rules ≡ true → (k : ℕ) → (fault rules ≡ 0) ⊎ (k ≤ fault rules) → HoldBelow k rules
below_fault rules r k due = decided (ℕ_discrete (fault rules) 0) due
  where
    decided : Dec (fault rules ≡ 0) → (fault rules ≡ 0) ⊎ (k ≤ fault rules) → HoldBelow k rules
    decided (yes z) due = hold_below k rules (hold rules (rising-numbered 1 rules (omega arith) r) z)
    decided (no ne) (inl z) = absurd (ne z)
    decided (no ne) (inr l) = below_less k (fault rules) l rules (lowest rules r ne).below

-- ---- a call whose rules come in parts, each of them rising: a part is looked at where all before it hold

abbrev pub all_rules : List (List Rule) → List Rule
all_rules [] = []
all_rules (part ∷ parts) = part ++ all_rules parts

abbrev pub rising_parts : List (List Rule) → Bool
rising_parts [] = true
rising_parts (part ∷ parts) = rising 1 part && rising_parts parts

-- k is the lowest number of the first part in which a rule fails
abbrev pub InOrder : ℕ → List (List Rule) → Type 0
InOrder k [] = ⊥
InOrder k (part ∷ parts) = Lowest k part ⊎ (Hold part × InOrder k parts)

pub parts-numbered : (parts : List (List Rule)) → rising_parts parts ≡ true → T (numbered (all_rules parts))
parts-numbered [] r = tt
parts-numbered (part ∷ parts) r =
    let (here, rest) = both_true (rising 1 part) (rising_parts parts) r in
    numbered_both part (all_rules parts) (rising-numbered 1 part (omega arith) here) (parts-numbered parts rest)

pub in_order : (parts : List (List Rule)) → rising_parts parts ≡ true → fault (all_rules parts) ≢ 0 → InOrder (fault (all_rules parts)) parts
unfolding fault
in_order [] r ne = absurd (ne refl)
in_order (part ∷ parts) r ne = decided (in_order parts both.1) (ℕ_discrete (fault part) 0)
  where
    both : (rising 1 part ≡ true) × (rising_parts parts ≡ true)
    both = both_true (rising 1 part) (rising_parts parts) r

    are : T (numbered part)
    are = rising-numbered 1 part (omega arith) both.0

    decided : (fault (all_rules parts) ≢ 0 → InOrder (fault (all_rules parts)) parts) → Dec (fault part ≡ 0)
        → InOrder (fault (part ++ all_rules parts)) (part ∷ parts)
    decided later (yes z) =
        let rest = fault_rest part (all_rules parts) are z in
        inr (hold part are z, subst (λ (k : ℕ). InOrder k parts) (sym rest) (later (λ q. ne (rest ∙ q))))
    decided later (no due) = inl (subst (λ (k : ℕ). Lowest k part) (sym (fault_first part (all_rules parts) due)) (lowest part both.0 due))

-- parts with more parts after them
pub all_both : (parts more : List (List Rule)) → all_rules (parts ++ more) ≡ all_rules parts ++ all_rules more
all_both [] more = refl
all_both (part ∷ parts) more =
    ap (λ (rules : List Rule). part ++ rules) (all_both parts more) ∙ sym (append_assoc part (all_rules parts) (all_rules more))

pub rising_both : (parts more : List (List Rule)) → rising_parts parts ≡ true → rising_parts more ≡ true → rising_parts (parts ++ more) ≡ true
rising_both [] more r q = q
rising_both (part ∷ parts) more r q =
    let (here, rest) = both_true (rising 1 part) (rising_parts parts) r in both_hold here (rising_both parts more rest q)

-- ---- no number of the rules is above l

abbrev pub up_to : ℕ → List Rule → Bool
up_to l [] = true
up_to l ((n unless t) ∷ rules) = leb n l && up_to l rules

pub fault_up_to : (l : ℕ) (rules : List Rule) → up_to l rules ≡ true → fault rules ≤ l
unfolding fault
fault_up_to l [] u = omega arith
fault_up_to l ((n unless true) ∷ rules) u = fault_up_to l rules (both_true (leb n l) (up_to l rules) u).1
fault_up_to l ((n unless false) ∷ rules) u = leb-true n l (both_true (leb n l) (up_to l rules) u).0

pub up_to_both : (l : ℕ) (rules more : List Rule) → up_to l rules ≡ true → up_to l more ≡ true → up_to l (rules ++ more) ≡ true
up_to_both l [] more u v = v
up_to_both l ((n unless t) ∷ rules) more u v =
    let (first, rest) = both_true (leb n l) (up_to l rules) u in both_hold first (up_to_both l rules more rest v)

-- ---- no number of the rules is k

abbrev pub lacks : ℕ → List Rule → Bool
lacks k [] = true
lacks k ((n unless t) ∷ rules) = not (eqb n k) && lacks k rules

pub fault-lacks : (k : ℕ) (rules : List Rule) → k ≢ 0 → lacks k rules ≡ true → fault rules ≢ k
unfolding fault
fault-lacks k [] ne f e = ne (sym e)
fault-lacks k ((n unless true) ∷ rules) ne f e = fault-lacks k rules ne (both_true (not (eqb n k)) (lacks k rules) f).1 e
fault-lacks k ((n unless false) ∷ rules) ne f e = eqb-false n k (not-true (eqb n k) (both_true (not (eqb n k)) (lacks k rules) f).0) e

-- so k is not the lowest that applies
pub not_lowest : {k : ℕ} {rules : List Rule} → Lowest k rules → lacks k rules ≡ true → ⊥
not_lowest {k} {rules} L l = none rules L.fails l
  where
    none : (rules : List Rule) → Fails k rules → lacks k rules ≡ true → ⊥
    none [] fails l = elim fails [ ]
    none ((n unless t) ∷ rules) (inl (is, _)) l = eqb-false n k (not-true (eqb n k) (both_true (not (eqb n k)) (lacks k rules) l).0) is
    none ((n unless t) ∷ rules) (inr later) l = none rules later (both_true (not (eqb n k)) (lacks k rules) l).1

-- a number that a single rule has is given exactly where the rules before that one hold and it does not
pub fault_exactly : (rules : List Rule) (k : ℕ) (t : Bool) (more : List Rule) → T (numbered rules) → k ≢ 0
    → lacks k rules ≡ true → lacks k more ≡ true → (fault (rules ++ (k unless t) ∷ more) ≡ k) ↔ (Hold rules × (t ≡ false))
fault_exactly rules k t more are ne before after = (
  λ e. passed e (ℕ_discrete (fault rules) 0),
  λ h. fault_rest rules ((k unless t) ∷ more) are (fault_none rules h.0) ∙ fault_here k more h.1,
)
  where
    failing : (b : Bool) → t ≡ b → fault ((k unless t) ∷ more) ≡ k → t ≡ false
    failing true is e = absurd (fault-lacks k more ne after (sym (fault_past k more is refl) ∙ e))
    failing false is e = is

    passed : fault (rules ++ (k unless t) ∷ more) ≡ k → Dec (fault rules ≡ 0) → Hold rules × (t ≡ false)
    passed e (yes z) = (hold rules are z, failing t refl (sym (fault_rest rules ((k unless t) ∷ more) are z) ∙ e))
    passed e (no due) = absurd (fault-lacks k rules ne before (sym (fault_first rules ((k unless t) ∷ more) due) ∙ e))
