-- Offsets count: codes are the same only if ω agrees as well. Beside it, what travels on the wire does not depend on ω: two accepted codes that
-- differ in it alone answer every call on words alike, for the whole code and for every selection, whatever places are hidden, and so every ride and
-- every dash with several senders.
use Rattle.std.specs.Prelude.{◌≡◌, refl, ◌≢◌, ◌↔◌, true, ◌&&◌, List, ℕ, ◌^◌, ◌<◌, length}
use Rattle.std.proofs.Common.{sym, ap, ap₂, ◌∙◌}
use Rattle.std.proofs.Math.Path.{subst}
use Rattle.std.proofs.Math.Dec.{eqb}
use Rattle.algebra.specs.Lists.{entry_of}
use Rattle.algebra.specs.Xor.{◌⊕◌}
use Rattle.field.specs.Gf.{gf}
use Rattle.field.proofs.GfLaws.{gf_laws}
use Rattle.refusals.specs.Outcome.{Done, Refused}
use Rattle.refusals.specs.Rules.{unless_refused}
use Rattle.signature.specs.Offsets.{roots_apart, support_apart}
use Rattle.signature.specs.Signature.{root_at, support_at}
use Rattle.params.specs.declared.Parameters.{Parameters}
use Rattle.params.proofs.Accepted.{with_offset_lem}
use Rattle.params.specs.Code.{Accepted, with_offset}
use Rattle.codes.specs.Sameness.{Same, Different}
use Rattle.codes.specs.Acceptance.{accepted_done, done_root, done_support, done_pair}
use Rattle.codes.specs.Agree.{Agree}
use Rattle.codes.proofs.Agreement.{same_exactly, different}
use Rattle.codes.specs.Answers.{check_fault, check_answer, roots_after, support_after, same_answer}
use Rattle.columns.specs.Choice.{Choice, Choice.whole_code}
use Rattle.columns.proofs.Offsets.{choice_offset, matrix_offset}
use Rattle.shortened.specs.Fits.{Fits}
use Rattle.shortened.specs.Setting.{Setting, short_code}
use Rattle.demands.specs.Alike.{Alike}
use Rattle.demands.specs.SameMatrix.{Matched, setting_due, answered_alike}

-- "From now on cards are the same only if ω agrees as well": m, n, t, ω and h, and the marks, since "Two cards are the same only if their marks agree
-- too"
pub same_if_all_agree : {c₁ c₂ : Parameters} {h₁ h₂ hidden₁ hidden₂ : List ℕ} → Accepted c₁ h₁ → Fits c₁ h₁ (short_code hidden₁)
    → Accepted c₂ h₂ → Fits c₂ h₂ (short_code hidden₂) → (same_answer c₁ h₁ hidden₁ c₂ h₂ hidden₂ ≡ Same) ↔ Agree c₁ h₁ hidden₁ c₂ h₂ hidden₂
same_if_all_agree = same_exactly

-- an accepted code and the same with another offset, for every choice of columns
offset_matched : {c : Parameters} {h : List ℕ} → Accepted c h → (ω : ℕ) → ω < 2 ^ c.m → (k : Choice) → Matched c h k (with_offset c ω) h k
offset_matched A ω l k = record { rows = refl; due = choice_offset A ω l k; matrix = matrix_offset A ω l k }

-- two accepted codes with the same m, n, t and h: they differ in ω alone, if at all
module _ {c₁ c₂ : Parameters} {h : List ℕ} (A₁ : Accepted c₁ h) (A₂ : Accepted c₂ h)
    (m_same : c₁.m ≡ c₂.m) (n_same : c₁.n ≡ c₂.n) (t_same : c₁.t ≡ c₂.t) where
  -- "two cards with one signature and two offsets", whatever message columns each of them hides
  pub two_offsets : {hidden₁ hidden₂ : List ℕ} → Fits c₁ h (short_code hidden₁) → Fits c₂ h (short_code hidden₂) → c₁.omega ≢ c₂.omega
      → same_answer c₁ h hidden₁ c₂ h hidden₂ ≡ Different
  two_offsets F₁ F₂ apart = different A₁ F₁ A₂ F₂ (λ agree. apart agree.ω_same)

  -- the second is the first with another offset
  abbrev ω : ℕ
  ω = c₂.omega

  ω_in : ω < 2 ^ c₁.m
  ω_in = subst (λ (m : ℕ). c₂.omega < 2 ^ m) (sym m_same) A₂.ω_in

  second : c₂ ≡ with_offset c₁ ω
  second = with_offset_lem c₁ c₂ m_same n_same t_same

  -- they "encode, repair and read every input alike"
  pub offsets_alike : (s : Setting) → Alike c₁ h s c₂ h s
  offsets_alike s =
      subst (λ (c : Parameters). Alike c₁ h s c h s) (sym second) (answered_alike (offset_matched A₁ ω ω_in s.choice) s.hidden)

  -- ---- check answers alike; what it leaves in buffers of n entries differs by the sum of both offsets, so that the Cauchy matrix is the same

  module _ (hidden roots support : List ℕ) where
    pub checked_alike : check_answer c₁ h hidden roots support ≡ check_answer c₂ h hidden roots support
    unfolding check_answer check_fault
    checked_alike =
        subst (λ (c : Parameters). check_answer c₁ h hidden roots support ≡ check_answer c h hidden roots support) (sym second)
        (ap (λ (k : ℕ). unless_refused k Refused Done)
        (setting_due (offset_matched A₁ ω ω_in whole_code) hidden (eqb (length roots) c₁.n && eqb (length support) c₁.n) true))

    -- of marks that hide message columns only
    module _ (F : Fits c₁ h (short_code hidden)) (r : length roots ≡ c₁.n) (s : length support ≡ c₁.n) where
      abbrev z : Parameters → ℕ → ℕ
      z c = entry_of (roots_after c h hidden roots support)

      abbrev L : Parameters → ℕ → ℕ
      L c = entry_of (support_after c h hidden roots support)

      done₁ : check_answer c₁ h hidden roots support ≡ Done
      done₁ = accepted_done c₁ h hidden roots support r s A₁ F

      done₂ : check_answer c₂ h hidden roots support ≡ Done
      done₂ = sym checked_alike ∙ done₁

      below₂ : {i : ℕ} → i < c₁.n → i < c₂.n
      below₂ {i} l = subst (λ (n : ℕ). i < n) n_same l

      pub roots_differ : (i : ℕ) → i < c₁.n → z c₁ i ⊕ z c₂ i ≡ c₁.omega ⊕ c₂.omega
      roots_differ i l =
          ap₂ (λ (x y : ℕ). x ⊕ y) (done_root c₁ h hidden roots support done₁ i l) (done_root c₂ h hidden roots support done₂ i (below₂ l))
          ∙ ap (λ (m : ℕ). root_at (gf c₁.m) c₁.omega (entry_of h) i ⊕ root_at (gf m) c₂.omega (entry_of h) i) (sym m_same)
          ∙ roots_apart (gf c₁.m) (gf_laws c₁.m A₁.limits.width) c₁.omega c₂.omega (entry_of h) i

      pub support_differs : (j : ℕ) → j < c₁.n → L c₁ j ⊕ L c₂ j ≡ c₁.omega ⊕ c₂.omega
      support_differs j l =
          ap₂ (λ (x y : ℕ). x ⊕ y) (done_support c₁ h hidden roots support done₁ j l) (done_support c₂ h hidden roots support done₂ j (below₂ l))
          ∙ ap (λ (m : ℕ). support_at (gf c₁.m) c₁.omega (entry_of h) j ⊕ support_at (gf m) c₂.omega (entry_of h) j) (sym m_same)
          ∙ support_apart (gf c₁.m) (gf_laws c₁.m A₁.limits.width) c₁.omega c₂.omega (entry_of h) j

      -- 1/(z_i + L_j)
      pub same_cauchy_matrix : (i j : ℕ) → i < c₁.n → j < c₁.n → (gf c₁.m).inv (z c₁ i ⊕ L c₁ j) ≡ (gf c₂.m).inv (z c₂ i ⊕ L c₂ j)
      same_cauchy_matrix i j li lj =
          (done_pair c₁ h hidden roots support done₁).entry i j li lj
          ∙ sym ((done_pair c₂ h hidden roots support done₂).entry i j (below₂ li) (below₂ lj))
