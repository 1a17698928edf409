-- The test of rows is the rule in words. What else is said of allowed rows goes by the rule and not by the clauses of the test.
use Rattle.std.specs.Prelude.{◌≡◌, refl, ◌↔◌, ◌⊎◌, Bool, true, false, ◌||◌, ℕ, zero, suc, ◌<◌, ◌≤◌, eqb}
use Rattle.std.proofs.Common.{ap, ◌∙◌, inl, inr, arith, eqb-true, eq-eqb, leb-true, le-leb}
use Rattle.std.proofs.Math.Bool.{or-true}
use Rattle.std.proofs.lemmas.Bool.{false≢true}
use Rattle.gears.specs.Allowed.{Allowed, Allowed.dark, Allowed.green, Allowed.amber}
use Rattle.gears.specs.Rows.{neutral, high_neutral, is_row}

-- an allowed row fits into its bits
pub allowed_gear : {gear lamp : ℕ} → Allowed gear lamp → gear < 8
allowed_gear (dark l e) = omega arith
allowed_gear (green (inl z) e) = omega arith
allowed_gear (green (inr z) e) = omega arith
allowed_gear (amber l e) = omega arith

pub allowed_lamp : {gear lamp : ℕ} → Allowed gear lamp → lamp < 3
allowed_lamp (dark l e) = omega arith
allowed_lamp (green g e) = omega arith
allowed_lamp (amber l e) = omega arith

-- with the high neutral every lamp goes
pub high_allowed : (lamp : ℕ) → lamp ≤ 2 → Allowed high_neutral lamp
high_allowed zero l = dark (omega arith) refl
high_allowed (suc zero) l = green (inr refl) refl
high_allowed (suc (suc zero)) l = amber (omega arith) refl
high_allowed (suc (suc (suc lamp))) l = absurd (omega arith)

-- ---- the test says it

either_is : (gear : ℕ) (b : Bool) → eqb gear neutral ≡ b → (b || eqb gear high_neutral) ≡ true → (gear ≡ 0) ⊎ (gear ≡ 7)
either_is gear true e t = inl (eqb-true gear neutral e)
either_is gear false e t = inr (eqb-true gear high_neutral t)

either_true : (gear : ℕ) → (gear ≡ 0) ⊎ (gear ≡ 7) → (eqb gear neutral || eqb gear high_neutral) ≡ true
either_true gear (inl e) = ap (λ (b : Bool). b || eqb gear high_neutral) (eq-eqb gear neutral e)
either_true gear (inr e) = ap (λ (b : Bool). eqb gear neutral || b) (eq-eqb gear high_neutral e) ∙ or-true (eqb gear neutral)

row_allowed : (gear lamp : ℕ) → is_row gear lamp ≡ true → Allowed gear lamp
unfolding is_row
row_allowed gear zero t = dark (leb-true gear high_neutral t) refl
row_allowed gear (suc zero) t = green (either_is gear (eqb gear neutral) refl t) refl
row_allowed gear (suc (suc zero)) t = amber (leb-true gear high_neutral t) refl
row_allowed gear (suc (suc (suc lamp))) t = absurd (false≢true t)

allowed_row : (gear lamp : ℕ) → Allowed gear lamp → is_row gear lamp ≡ true
unfolding is_row
allowed_row gear lamp (dark l e) = ap (is_row gear) e ∙ le-leb gear high_neutral l
allowed_row gear lamp (green g e) = ap (is_row gear) e ∙ either_true gear g
allowed_row gear lamp (amber l e) = ap (is_row gear) e ∙ le-leb gear high_neutral l

pub row_exactly : (gear lamp : ℕ) → (is_row gear lamp ≡ true) ↔ Allowed gear lamp
row_exactly gear lamp = (row_allowed gear lamp, allowed_row gear lamp)
