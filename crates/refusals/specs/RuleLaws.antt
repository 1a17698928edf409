-- Laws of lists of rules, and of the answer that goes by one.
use Rattle.std.specs.Prelude.{◌≡◌, refl, ◌≢◌, Bool, true, false, List, [], ◌∷◌, ◌++◌, ℕ, zero, suc, T}
use Rattle.std.proofs.Common.{sym, ap, ◌∙◌, subst, arith}
use Rattle.std.proofs.Math.Decide.{ℕ_discrete}
use Rattle.refusals.specs.Rules.{Rule, ◌unless◌, fault, unless_refused, numbered, Hold}

suc_ne-zero : (n : ℕ) → suc n ≢ 0
suc_ne-zero n e = omega arith

pub fault_here : {t : Bool} (n : ℕ) (rules : List Rule) → t ≡ false → fault ((n unless t) ∷ rules) ≡ n
unfolding fault
fault_here n rules e = ap (λ (t : Bool). fault ((n unless t) ∷ rules)) e

pub fault_past : {t : Bool} {k : ℕ} (n : ℕ) (rules : List Rule) → t ≡ true → fault rules ≡ k → fault ((n unless t) ∷ rules) ≡ k
unfolding fault
fault_past n rules e f = ap (λ (t : Bool). fault ((n unless t) ∷ rules)) e ∙ f

pub fault_empty : fault [] ≡ 0
unfolding fault
fault_empty = refl

-- rules that hold ask for no number
pub fault_none : (rules : List Rule) → Hold rules → fault rules ≡ 0
fault_none [] hs = fault_empty
fault_none ((n unless t) ∷ rules) hs = fault_past n rules hs.0 (fault_none rules hs.1)

-- no number is due only if every test holds
pub hold : (rules : List Rule) → T (numbered rules) → fault rules ≡ 0 → Hold rules
unfolding fault
hold [] s e = tt
hold ((zero unless t) ∷ rules) s e = absurd s
hold ((suc n unless true) ∷ rules) s e = (refl, hold rules s e)
hold ((suc n unless false) ∷ rules) s e = absurd (suc_ne-zero n e)

-- a list that refuses still does with more rules after it, and one that does not leaves it to those
pub fault_first : (rules more : List Rule) → fault rules ≢ 0 → fault (rules ++ more) ≡ fault rules
unfolding fault
fault_first [] more ne = absurd (ne refl)
fault_first ((n unless true) ∷ rules) more ne = fault_first rules more ne
fault_first ((n unless false) ∷ rules) more ne = refl

-- rules that hold, with more after them, hold without
pub first_holds : (rules more : List Rule) → fault (rules ++ more) ≡ 0 → fault rules ≡ 0
first_holds rules more e = decided (ℕ_discrete (fault rules) 0)
  where
    decided : Dec (fault rules ≡ 0) → fault rules ≡ 0
    decided (yes z) = z
    decided (no ne) = absurd (ne (sym (fault_first rules more ne) ∙ e))

pub fault_rest : (rules more : List Rule) → T (numbered rules) → fault rules ≡ 0 → fault (rules ++ more) ≡ fault more
unfolding fault
fault_rest [] more s e = refl
fault_rest ((zero unless t) ∷ rules) more s e = absurd s
fault_rest ((suc n unless true) ∷ rules) more s e = fault_rest rules more s e
fault_rest ((suc n unless false) ∷ rules) more s e = absurd (suc_ne-zero n e)

-- two lists with rules after them give the same number if they do so without, and, where that number is none, the rules after them do
pub fault_alike : (rules rules' more more' : List Rule) → T (numbered rules) → T (numbered rules') → fault rules ≡ fault rules'
    → (fault rules ≡ 0 → fault more ≡ fault more') → fault (rules ++ more) ≡ fault (rules' ++ more')
fault_alike rules rules' more more' s s' e f = decided (ℕ_discrete (fault rules) 0)
  where
    decided : Dec (fault rules ≡ 0) → fault (rules ++ more) ≡ fault (rules' ++ more')
    decided (yes z) = fault_rest rules more s z ∙ f z ∙ sym (fault_rest rules' more' s' (sym e ∙ z))
    decided (no ne) = fault_first rules more ne ∙ e ∙ sym (fault_first rules' more' (λ z. ne (e ∙ z)))

pub numbered_both : (rules more : List Rule) → T (numbered rules) → T (numbered more) → T (numbered (rules ++ more))
numbered_both [] more s s' = s'
numbered_both ((zero unless t) ∷ rules) more s s' = absurd s
numbered_both ((suc n unless t) ∷ rules) more s s' = numbered_both rules more s s'

-- a call that found the number k and goes by it answers as it should
pub refuse : {A : Type 0} {k n : ℕ} (refused : ℕ → A) (value : A) → k ≡ n → k ≢ 0 → refused k ≡ unless_refused n refused value
unfolding unless_refused
refuse {k = k} refused value e ne = subst (λ (n : ℕ). refused k ≡ unless_refused n refused value) e (due k ne)
  where
    due : (k : ℕ) → k ≢ 0 → refused k ≡ unless_refused k refused value
    due zero ne = absurd (ne refl)
    due (suc k) ne = refl

pub accept : {A : Type 0} {k n : ℕ} (refused : ℕ → A) (value : A) → k ≡ n → k ≡ 0 → value ≡ unless_refused n refused value
unfolding unless_refused
accept refused value e z = ap (λ (n : ℕ). unless_refused n refused value) (sym z ∙ e)

-- where no number is due there is the value
pub given : {A : Type 0} {n : ℕ} (refused : ℕ → A) (value : A) → n ≡ 0 → unless_refused n refused value ≡ value
given refused value z = sym (accept {k = 0} refused value (sym z) refl)

-- two calls answer alike if they give the same number, and, where that is none, the same value
pub answer_alike : {A : Type 0} {k n : ℕ} (refused : ℕ → A) (value value' : A) → k ≡ n → (k ≡ 0 → value ≡ value')
    → unless_refused k refused value ≡ unless_refused n refused value'
unfolding unless_refused
answer_alike {k = k} refused value value' e f = same k f ∙ ap (λ (n : ℕ). unless_refused n refused value') e
  where
    same : (k : ℕ) → (k ≡ 0 → value ≡ value') → unless_refused k refused value ≡ unless_refused k refused value'
    same zero f = f refl
    same (suc k) f = refl
