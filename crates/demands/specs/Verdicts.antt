-- What a step of a ride ends in, by what was sent and what was read.
use Rattle.std.specs.Prelude.{◌≡◌, ◌↔◌, Bool, ℕ, eqb}
use Rattle.std.proofs.Math.Path.{refl, ap}
use Rattle.std.proofs.Common.{sym, ◌∙◌, eq-eqb, eqb-true}
use Rattle.std.proofs.Math.Bool.{true, false, cond, true≢false}
use Rattle.std.proofs.lemmas.Bool.{false≢true}
use Rattle.algebra.specs.Flags.{both_true, both_hold, refuted}
use Rattle.gears.specs.declared.Row.{Row}
use Rattle.gears.specs.Rows.{lamp_number}
use Rattle.rows.specs.declared.Reading.{Reading}
use Rattle.rows.specs.declared.Reading.TheVariants.{Read, Refused as NotRead}
use Rattle.simulation.specs.declared.Verdict.TheVariants.{Right, Held, Wrong}
use Rattle.simulation.specs.Ride.{as_sent, verdict_of, is_right, is_held, is_wrong}

module _ (gear lamp : ℕ) where
  -- the row that was sent
  abbrev pub AsSent : Row → Type 0
  AsSent row = (row.gear ≡ gear) × (lamp_number row.lamp ≡ lamp)

  as_sent_lem : (row : Row) → (as_sent gear lamp row ≡ true) ↔ AsSent row
  as_sent_lem row = (
    λ t.
        let (g, l) = both_true (eqb row.gear gear) (eqb (lamp_number row.lamp) lamp) t in
        (eqb-true row.gear gear g, eqb-true (lamp_number row.lamp) lamp l),
    λ same. both_hold (eq-eqb row.gear gear same.0) (eq-eqb (lamp_number row.lamp) lamp same.1),
  )

  right_or_wrong : (b : Bool) → ((cond b Right Wrong ≡ Right) → b ≡ true) × ((cond b Right Wrong ≡ Wrong) → b ≡ false)
  right_or_wrong true = (λ e. refl, λ e. absurd (true≢false (ap is_right e)))
  right_or_wrong false = (λ e. absurd (false≢true (ap is_right e)), λ e. refl)

  -- "right (read as sent)"
  pub right_exactly : (reading : Reading)
      → (verdict_of gear lamp reading ≡ Right) ↔ ((row : Row) × (repaired : ℕ) × (reading ≡ Read row repaired) × AsSent row)
  unfolding verdict_of
  right_exactly reading =
      (is reading, λ r. ap (verdict_of gear lamp) r.2 ∙ ap (λ (b : Bool). cond b Right Wrong) ((as_sent_lem r.0).1 r.3))
    where
      is : (reading : Reading) → verdict_of gear lamp reading ≡ Right → (row : Row) × (repaired : ℕ) × (reading ≡ Read row repaired) × AsSent row
      is (Read row repaired) e = (row, repaired, refl, (as_sent_lem row).0 ((right_or_wrong (as_sent gear lamp row)).0 e))
      is (NotRead k) e = absurd (false≢true (ap is_right e))

  -- "held (refused on reading)"
  pub held_exactly : (reading : Reading) → (verdict_of gear lamp reading ≡ Held) ↔ ((k : ℕ) × (reading ≡ NotRead k))
  unfolding verdict_of
  held_exactly reading = (is reading, λ r. ap (verdict_of gear lamp) r.1)
    where
      not_held : (b : Bool) → is_held (cond b Right Wrong) ≡ false
      not_held true = refl
      not_held false = refl

      is : (reading : Reading) → verdict_of gear lamp reading ≡ Held → (k : ℕ) × (reading ≡ NotRead k)
      is (Read row repaired) e = absurd (false≢true (sym (not_held (as_sent gear lamp row)) ∙ ap is_held e))
      is (NotRead k) e = (k, refl)

  -- "wrong (read, but not as sent)"
  pub wrong_exactly : (reading : Reading)
      → (verdict_of gear lamp reading ≡ Wrong) ↔ ((row : Row) × (repaired : ℕ) × (reading ≡ Read row repaired) × (AsSent row → ⊥))
  unfolding verdict_of
  wrong_exactly reading = (
    is reading,
    λ r.
        ap (verdict_of gear lamp) r.2
        ∙ ap (λ (b : Bool). cond b Right Wrong) (refuted (as_sent gear lamp r.0) (λ t. r.3 ((as_sent_lem r.0).0 t))),
  )
    where
      is : (reading : Reading) → verdict_of gear lamp reading ≡ Wrong
          → (row : Row) × (repaired : ℕ) × (reading ≡ Read row repaired) × (AsSent row → ⊥)
      is (Read row repaired) e =
          (row, repaired, refl, λ same. true≢false (sym ((as_sent_lem row).1 same) ∙ (right_or_wrong (as_sent gear lamp row)).1 e))
      is (NotRead k) e = absurd (false≢true (ap is_wrong e))
