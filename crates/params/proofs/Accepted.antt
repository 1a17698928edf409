-- Laws of accepted codes: no number is due for them, and for no others; their roots and their support are a Cauchy pair; and with any other offset
-- the code is accepted too.
use Rattle.std.specs.Prelude.{◌≡◌, refl, Bool, true, false, cond, List, ℕ, ◌/◌, ◌^◌, ◌≤◌, ◌<◌, T, leb}
use Rattle.std.proofs.Common.{sym, ap, ◌∙◌, arith, pow_pos, pow_mono}
use Rattle.std.proofs.Math.Path.{subst}
use Rattle.std.proofs.Math.Decide.{dec_lt}
use Rattle.std.proofs.Math.ListN.{length}
use borrow.Author.Tests.{leb-true, le-leb, eqb-true, eq-eqb}
use Rattle.algebra.specs.Flags.{both_true, both_hold}
use Rattle.algebra.specs.Lists.{entry_of}
use Rattle.algebra.specs.Xor.{◌⊕◌}
use Rattle.algebra.specs.XorLaws.{⊕-lt}
use Rattle.refusals.specs.Rules.{fault, numbered}
use Rattle.refusals.specs.RuleLaws.{fault_here, fault_past, fault_none, hold}
use Rattle.field.specs.Gf.{gf}
use Rattle.field.proofs.GfLaws.{gf_laws}
use Rattle.field.specs.RangeLaws.{width, width_is, element, element_is}
use Rattle.slices.specs.ElementLaws.{elements_are}
use Rattle.slices.specs.Lengths.{longest, is_power}
use Rattle.slices.specs.LengthLaws.{power_is, power, power_short}
use Rattle.signature.specs.Signature.{root_at, support_at, Conditions, Cauchy}
use Rattle.signature.specs.Existence.{offset_pair}
use Rattle.signature.specs.Tests.{signature_rules}
use Rattle.signature.specs.TestLaws.{conditions_are}
use Rattle.params.specs.declared.Parameters.{Parameters}
use Rattle.params.specs.Code.{is_length, is_root_count, shape_rules, code_rules, Limits, Accepted, with_offset}

module _ {c : Parameters} {h : List ℕ} (L : Limits c h) where
  pub n_short : c.n ≤ longest
  n_short = power_short c.n L.e L.n_high L.n_power

  pub t_short : c.t ≤ c.n
  t_short = omega (arith, L.t_high)

  -- in exponents: t is a proper divisor of n
  roots_fewer : L.f < L.e
  roots_fewer = decided (dec_lt L.f L.e)
    where
      decided : Dec (L.f < L.e) → L.f < L.e
      decided (yes l) = l
      decided (no nl) =
          let more : 2 ^ L.e ≤ 2 ^ L.f = pow_mono {i = L.e} {j = L.f} (omega arith) in
          let positive : 0 < 2 ^ L.e = pow_pos L.e in
          absurd (omega (arith, L.n_power, L.t_power, L.t_high))

  -- n is a power of two, so that i ⊕ j is a column again
  pub index_below : (i j : ℕ) → i < c.n → j < c.n → i ⊕ j < c.n
  index_below i j li lj =
      subst (λ (k : ℕ). i ⊕ j < k) (sym L.n_power)
      (⊕-lt L.e i j (subst (λ (k : ℕ). i < k) L.n_power li) (subst (λ (k : ℕ). j < k) L.n_power lj))

-- calls that ask for more put their rules after these
pub code_numbered : (buffers : Bool) (c : Parameters) (h : List ℕ) → T (numbered (code_rules buffers c h))
unfolding code_rules shape_rules signature_rules
code_numbered buffers c h = tt

-- no number is due exactly if the buffers have their lengths and the code is accepted
module _ (buffers : Bool) (c : Parameters) (h : List ℕ) where
  pub accepted : fault (code_rules buffers c h) ≡ 0 → (buffers ≡ true) × Accepted c h
  unfolding code_rules shape_rules signature_rules is_length is_root_count
  accepted z =
      let (is_width_here, r₁) = hold (code_rules buffers c h) tt z in
      let (is_length_here, r₂) = r₁ in
      let (h_long, r₃) = r₂ in
      let (lent, r₄) = r₃ in
      let (h_elements, r₅) = r₄ in
      let (ω_element, r₆) = r₅ in
      let (no_zero, r₇) = r₆ in
      let (is-linear, r₈) = r₇ in
      let (is-distinct, r₉) = r₈ in
      let (least, n_power) = both_true (leb 2 c.n) (is_power c.n) is_length_here in
      let (t_power, half) = both_true (is_power c.t) (leb c.t (c.n / 2)) r₉.0 in
      let (e, e-high, n_is) = power_is c.n n_power in
      let (f, f-high, t-is) = power_is c.t t_power in
      let long : length h ≡ c.n = eqb-true (length h) c.n h_long in (
        lent,
        record {
          limits = record {
            width = width_is c.m is_width_here;
            e = e;
            n_power = n_is;
            n_low = leb-true 2 c.n least;
            n_high = e-high;
            h_length = long;
            h_in = (elements_are c.m h).0 h_elements;
            f = f;
            t_power = t-is;
            t_high = leb-true c.t (c.n / 2) half;
          };
          ω_in = element_is c.m c.omega ω_element;
          conditions = subst (λ (k : ℕ). Conditions (gf c.m) k (entry_of h)) long
              ((conditions_are c.m h).0 (no_zero, (is-linear, (is-distinct, tt))));
        },
      )

  pub accepts : buffers ≡ true → Accepted c h → fault (code_rules buffers c h) ≡ 0
  unfolding code_rules shape_rules signature_rules is_length is_root_count
  accepts lent A =
      let L = A.limits in
      let C = subst (λ (k : ℕ). Conditions (gf c.m) k (entry_of h)) (sym L.h_length) A.conditions in
      let is_width_here = width c.m L.width.low L.width.high in
      let is_length_here = both_hold (le-leb 2 c.n L.n_low) (power c.n L.e L.n_high L.n_power) in
      let h_long = eq-eqb (length h) c.n L.h_length in
      let h_elements = (elements_are c.m h).1 L.h_in in
      let ω_element = element c.m c.omega A.ω_in in
      let (no_zero, (is-linear, (is-distinct, none))) = (conditions_are c.m h).1 C in
      let t_power = power c.t L.f (omega (arith, roots_fewer L, L.n_high)) L.t_power in
      let is_count = both_hold t_power (le-leb c.t (c.n / 2) L.t_high) in
      fault_none (code_rules buffers c h)
      (is_width_here, (is_length_here, (h_long, (lent, (h_elements, (ω_element, (no_zero, (is-linear, (is-distinct, (is_count, tt))))))))))

-- of an accepted code, a length is all that can be refused
pub lengths_fault : {c : Parameters} {h : List ℕ} → Accepted c h → (buffers : Bool) → fault (code_rules buffers c h) ≡ cond buffers 0 2
unfolding code_rules shape_rules signature_rules
lengths_fault {c} {h} A true = accepts true c h refl A
lengths_fault {c} {h} A false =
    let (width, (n_is, (h_long, more))) = hold (code_rules true c h) tt (accepts true c h refl A) in
    fault_past 1 _ width (fault_past 2 _ n_is (fault_past 2 _ h_long (fault_here 2 _ refl)))

-- so that of any two the same number is due
pub accepted_fault : {c₁ c₂ : Parameters} {h₁ h₂ : List ℕ} → Accepted c₁ h₁ → Accepted c₂ h₂ → (buffers : Bool)
    → fault (code_rules buffers c₁ h₁) ≡ fault (code_rules buffers c₂ h₂)
accepted_fault A₁ A₂ buffers = lengths_fault A₁ buffers ∙ sym (lengths_fault A₂ buffers)

-- ---- the pair

-- the roots and the support of an accepted code
pub accepted_pair : {c : Parameters} {h : List ℕ} → Accepted c h
    → Cauchy (gf c.m) c.n (entry_of h) (root_at (gf c.m) c.omega (entry_of h)) (support_at (gf c.m) c.omega (entry_of h))
accepted_pair {c} {h} A =
    let L = A.limits in
    let h_in : (i : ℕ) → i < c.n → entry_of h i < 2 ^ c.m = λ i l. L.h_in i (subst (λ (k : ℕ). i < k) (sym L.h_length) l) in
    offset_pair (gf c.m) (gf_laws c.m L.width) c.n L.e L.n_power (entry_of h) h_in A.conditions c.omega A.ω_in

-- ---- "for every offset"

-- two codes that differ in the offset alone, if at all, are a code and the same with another offset
pub with_offset_lem : (c₁ c₂ : Parameters) → c₁.m ≡ c₂.m → c₁.n ≡ c₂.n → c₁.t ≡ c₂.t → c₂ ≡ with_offset c₁ c₂.omega
with_offset_lem c₁ c₂ m_same n_same t_same =
    ap (λ (m : ℕ). record { m = m; n = c₂.n; t = c₂.t; omega = c₂.omega }) (sym m_same)
    ∙ ap (λ (n : ℕ). record { m = c₁.m; n = n; t = c₂.t; omega = c₂.omega }) (sym n_same)
    ∙ ap (λ (t : ℕ). record { m = c₁.m; n = c₁.n; t = t; omega = c₂.omega }) (sym t_same)

-- the code with any other offset below 2^m is accepted too
pub offset_accepted : {c : Parameters} {h : List ℕ} (ω : ℕ) → ω < 2 ^ c.m → Accepted c h → Accepted (with_offset c ω) h
offset_accepted {c} {h} ω l A =
    let L = A.limits in
    record {
      limits = record {
        width = L.width;
        e = L.e;
        n_power = L.n_power;
        n_low = L.n_low;
        n_high = L.n_high;
        h_length = L.h_length;
        h_in = L.h_in;
        f = L.f;
        t_power = L.t_power;
        t_high = L.t_high;
      };
      ω_in = l;
      conditions = A.conditions;
    }
