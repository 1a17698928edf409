-- Demand 2 of what `check` answers: within 01's limits, and with marks that hide message columns only, it accepts a signature exactly if a Cauchy
-- pair exists, and what then stands in the buffers is such a pair.
use Rattle.std.specs.Prelude.{◌≡◌, refl, ◌↔◌, Bool, ◌&&◌, eqb, length}
use Rattle.std.proofs.Common.{sym, ap₂, ◌∙◌, subst, arith, eq-eqb}
use Rattle.std.proofs.Math.Path.{ap}
use Rattle.std.proofs.Math.Bool.{true}
use mathlib.Core.List.{List}
use Prim.Native.Nat.{ℕ, ◌*◌, ◌^◌, ◌≤◌, ◌<◌}
use Rattle.algebra.specs.Flags.{both_hold}
use Rattle.algebra.specs.Field.{Ops}
use Rattle.algebra.specs.Tabulate.{tabulate}
use Rattle.algebra.specs.TabulateLaws.{get_d_tabulate}
use Rattle.field.specs.Gf.{gf}
use Rattle.field.proofs.GfLaws.{gf_laws}
use Rattle.refusals.specs.Answered.{done_none}
use Rattle.refusals.specs.Rules.{unless_refused}
use Rattle.refusals.specs.RuleLaws.{given}
use Rattle.refusals.specs.Outcome.{Done, Refused}
use Rattle.params.specs.declared.Parameters.{Parameters}
use Rattle.signature.specs.Signature.{Cauchy, HasCauchy, root_at, support_at}
use Rattle.signature.specs.Existence.{pair_conditions}
use Rattle.signature.specs.Pigeonhole.{cauchy_short}
use Rattle.algebra.specs.Lists.{entry_of}
use Rattle.params.proofs.Accepted.{accepted_pair}
use Rattle.params.specs.Code.{Limits, Accepted}
use Rattle.shortened.specs.Fits.{Fits}
use Rattle.shortened.specs.Setting.{short_code}
use Rattle.shortened.proofs.SettingLaws.{setting_accepted, setting_accepts}
use Rattle.codes.specs.Answers.{check_fault, check_answer, roots_after, support_after}

-- a pair may be given by other sequences that agree below n
cauchy_cong : {A : Type 0} {K : Ops A} {n : ℕ} {h z L z' L' : ℕ → A} → ((i : ℕ) → i < n → z' i ≡ z i) → ((j : ℕ) → j < n → L' j ≡ L j)
    → Cauchy K n h z L → Cauchy K n h z' L'
cauchy_cong {K = K} p q P =
    record {
      z_in = λ i l. subst K.In (sym (p i l)) (P.z_in i l);
      L_in = λ j l. subst K.In (sym (q j l)) (P.L_in j l);
      z_distinct = λ i j l lj e. P.z_distinct i j l lj (sym (p i (omega arith)) ∙ e ∙ p j lj);
      L_distinct = λ i j l lj e. P.L_distinct i j l lj (sym (q i (omega arith)) ∙ e ∙ q j lj);
      disjoint = λ i j li lj e. P.disjoint i j li lj (sym (p i li) ∙ e ∙ q j lj);
      entry = λ i j li lj. ap K.inv (ap₂ K.add (p i li) (q j lj)) ∙ P.entry i j li lj;
    }

module _ (c : Parameters) (h hidden roots support : List ℕ) where
  -- both buffers have n entries
  abbrev lent : Bool
  lent = eqb (length roots) c.n && eqb (length support) c.n

  pub done_accepted : check_answer c h hidden roots support ≡ Done → Accepted c h × Fits c h (short_code hidden)
  unfolding check_answer check_fault
  done_accepted e =
      let (o, w, A, F) = setting_accepted c h (short_code hidden) lent true (done_none (check_fault c h hidden roots support) e) in (A, F)

  pub accepted_done : length roots ≡ c.n → length support ≡ c.n → Accepted c h → Fits c h (short_code hidden) → check_answer c h hidden roots support
      ≡ Done
  unfolding check_answer check_fault unless_refused
  accepted_done r s A F =
      ap (λ (k : ℕ). unless_refused k Refused Done)
      (setting_accepts A (short_code hidden) F (both_hold (eq-eqb (length roots) c.n r) (eq-eqb (length support) c.n s)) refl)

  -- demand 2: "Within 01's limits a signature is accepted exactly if two disjoint sequences of distinct field elements exist whose Cauchy matrix is
  -- its dyadic matrix"
  pub done_exactly : Limits c h → c.omega < 2 ^ c.m → Fits c h (short_code hidden) → length roots ≡ c.n → length support ≡ c.n
      → (check_answer c h hidden roots support ≡ Done) ↔ HasCauchy (gf c.m) c.n (entry_of h)
  done_exactly L o F r s = (
    λ e. (root_at (gf c.m) c.omega (entry_of h), support_at (gf c.m) c.omega (entry_of h), accepted_pair (done_accepted e).0),
    λ p. accepted_done r s
        (record {
          limits = L;
          ω_in = o;
          conditions = pair_conditions (gf c.m) (gf_laws c.m L.width) c.n (entry_of h) p.0 p.1
              p.2;
        })
        F,
  )

  -- what stands in the buffers of a code that is accepted
  pub done_root : check_answer c h hidden roots support ≡ Done
      → (i : ℕ) → i < c.n → entry_of (roots_after c h hidden roots support) i ≡ root_at (gf c.m) c.omega (entry_of h) i
  unfolding check_answer roots_after
  done_root e i l =
      let roots_of : List ℕ = tabulate c.n (root_at (gf c.m) c.omega (entry_of h)) in
      ap (λ (a : List ℕ). entry_of a i) (given (λ k. roots) roots_of (done_none (check_fault c h hidden roots support) e))
      ∙ get_d_tabulate c.n (root_at (gf c.m) c.omega (entry_of h)) i 0 l

  pub done_support : check_answer c h hidden roots support ≡ Done
      → (j : ℕ) → j < c.n → entry_of (support_after c h hidden roots support) j ≡ support_at (gf c.m) c.omega (entry_of h) j
  unfolding check_answer support_after
  done_support e j l =
      let support_of_here : List ℕ = tabulate c.n (support_at (gf c.m) c.omega (entry_of h)) in
      ap (λ (a : List ℕ). entry_of a j) (given (λ k. support) support_of_here (done_none (check_fault c h hidden roots support) e))
      ∙ get_d_tabulate c.n (support_at (gf c.m) c.omega (entry_of h)) j 0 l

  -- "such a pair then comes back"
  pub done_pair : check_answer c h hidden roots support ≡ Done
      → Cauchy (gf c.m) c.n (entry_of h) (entry_of (roots_after c h hidden roots support)) (entry_of (support_after c h hidden roots support))
  done_pair e = cauchy_cong (done_root e) (done_support e) (accepted_pair (done_accepted e).0)

  -- "n above q/2 is therefore never accepted"
  pub done_short : check_answer c h hidden roots support ≡ Done → 2 * c.n ≤ 2 ^ c.m
  done_short e =
      cauchy_short c.m c.n (entry_of h) (root_at (gf c.m) c.omega (entry_of h)) (support_at (gf c.m) c.omega (entry_of h))
      (accepted_pair (done_accepted e).0)
