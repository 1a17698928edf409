-- Essence cards in plain words, of what the calls answer and leave: "Each accepted signature comes back from its essence unaltered, and each accepted
-- essence from its signature. An essence converts exactly if no non-empty choice of its values sums to zero."
--
-- A choice is a number whose bits say which values are taken, and is non-empty if it is not 0 (`Choices` of the crate essence). `Shape` says that 1
-- to 3 refuse nothing: there are 2^e entries and e + 1 values.
use Rattle.std.specs.Prelude.{◌≡◌, ◌↔◌, true, ℕ, zero, suc, ◌-◌, ◌/◌, ◌^◌, ◌≤◌, ◌<◌, leb}
use Rattle.std.proofs.Math.Path.{refl, sym, ap, subst}
use Rattle.std.proofs.Common.{◌∙◌, arith, pow_mono}
use Rattle.std.proofs.Math.Bool.{not}
use mathlib.Core.List.{List, []}
use Rattle.std.proofs.Math.ListN.{length}
use borrow.Author.Tests.{leb-true, not-true, not-false}
use Rattle.algebra.specs.Flags.{both_true}
use Rattle.algebra.specs.Lists.{entry_of}
use Rattle.algebra.specs.Xor.{◌⊕◌}
use Rattle.refusals.specs.Outcome.{Done, Refused}
use Rattle.refusals.specs.Answered.{done_none}
use Rattle.refusals.specs.Rules.{Hold}
use Rattle.refusals.specs.RuleLaws.{given}
use Rattle.field.specs.Gf.{gf}
use Rattle.slices.specs.Lengths.{is_power}
use Rattle.slices.specs.LengthLaws.{power_is}
use Rattle.signature.specs.Signature.{Conditions}
use Rattle.signature.specs.Tests.{inverse_at, signature_rules}
use Rattle.signature.specs.TestLaws.{conditions_are}
use Rattle.params.specs.declared.Parameters.{Parameters}
use Rattle.params.specs.Code.{is_root_count, Accepted}
use Rattle.shortened.specs.Fits.{Fits}
use Rattle.shortened.specs.Setting.{short_code}
use Rattle.codes.specs.Answers.{check_answer}
use Rattle.codes.specs.Acceptance.{accepted_done}
use Rattle.essence.specs.Choices.{dependent, Independent, Dependent}
use Rattle.essence.proofs.ChoiceLaws.{dependent_is, independent_is}
use Rattle.essence.specs.Essence.{essence_of, signature_of}
use Rattle.essence.proofs.ChosenLaws.{Values}
use Rattle.essence.proofs.EssenceLaws.{signature_long, signature_elements, signature_conditions, essence_of_signature}
use Rattle.essence.proofs.EssenceLaws.{Signature, essence_values, essence_last, essence_other, essence_independent, signature_of_essence}
use Rattle.essence.specs.Shape.{Shape}
use Rattle.essence.proofs.ShapeLaws.{shape_is, shape_values, shape_signature}
use Rattle.essence.specs.Answers.{shape_rules, essence_rules, essence_fault, essence_answer, essence_after}
use Rattle.essence.specs.Answers.{value_rules, signature_fault, signature_answer, signature_after}
use Rattle.demands.specs.Demand1.{essence_refuses, signature_refuses}
use Rattle.demands.specs.Zero.{refused_exactly}

-- ---- when a signature has an essence, and what that is

module _ (m : ℕ) (h out : List ℕ) where
  -- exactly if nothing from 1 to 3 is wrong and 01's three conditions hold of it
  pub essence_done_exactly : (essence_answer m h out ≡ Done) ↔ (Shape m h (length h) (length out) × Conditions (gf m) (length h) (entry_of h))
  unfolding essence_rules shape_rules signature_rules
  essence_done_exactly =
      let exactly = (essence_refuses m h out).0 in (
        λ e.
            let (w, (k, (n, (a, conditions)))) = exactly.1 e in
            ((shape_is m h (length h) (length out)).0 (w, (k, (n, (a, tt)))), (conditions_are m h).0 conditions),
        λ p.
            let (w, (k, (n, (a, none)))) = (shape_is m h (length h) (length out)).1 p.0 in
            exactly.0 (w, (k, (n, (a, (conditions_are m h).1 p.1)))),
      )

  module _ (e : essence_answer m h out ≡ Done) where
    shape : Shape m h (length h) (length out)
    shape = (essence_done_exactly.0 e).0

    signature : Signature m shape.e h
    signature = shape_signature shape (essence_done_exactly.0 e).1

    left : essence_after m h out ≡ essence_of m shape.e h
    unfolding essence_answer essence_after
    left =
        let one_less : length out - 1 ≡ shape.e = omega (arith, shape.values) in
        given (λ k. out) (essence_of m (length out - 1) h) (done_none (essence_fault m h (length out)) e) ∙ ap (λ (e : ℕ). essence_of m e h) one_less

    -- 01: "the e values 1/h at 2^s plus 1/h_0, s from 0 to e − 1 .."
    pub essence_value : (s : ℕ) → suc s < length out → entry_of (essence_after m h out) s ≡ inverse_at m h (2 ^ s) ⊕ inverse_at m h 0
    essence_value s l = ap (λ (a : List ℕ). entry_of a s) left ∙ essence_other signature s (omega (arith, shape.values))

    -- ".. followed by 1/h_0"
    pub essence_last_value : entry_of (essence_after m h out) (length out - 1) ≡ inverse_at m h 0
    essence_last_value =
        let one_less : length out - 1 ≡ shape.e = omega (arith, shape.values) in
        ap (entry_of (essence_after m h out)) one_less ∙ ap (λ (a : List ℕ). entry_of a shape.e) left ∙ essence_last signature

-- every signature that is accepted as a code's has one
pub accepted_has_essence : {c : Parameters} {h : List ℕ} (A : Accepted c h) (out : List ℕ) → length out ≡ suc A.limits.e
    → essence_answer c.m h out ≡ Done
accepted_has_essence {c} {h} A out long =
    let L = A.limits in
    (essence_done_exactly c.m h out).1 (
      record {
        width = L.width;
        e = L.e;
        low = positive L.e L.n_power L.n_low;
        high = L.n_high;
        entries = L.h_length ∙ L.n_power;
        values = long;
        elements = L.h_in;
      },
      subst (λ (k : ℕ). Conditions (gf c.m) k (entry_of h)) (sym L.h_length) A.conditions,
    )
  where
    positive : (e : ℕ) → c.n ≡ 2 ^ e → 2 ≤ c.n → 1 ≤ e
    positive zero p l = absurd (omega arith)
    positive (suc e) p l = omega arith

-- ---- when an essence has a signature

module _ (m : ℕ) (v out : List ℕ) where
  holds_independent : Hold (value_rules m v (length out)) ↔ (Shape m v (length out) (length v) × Independent m v)
  unfolding value_rules shape_rules
  holds_independent = (
    λ held.
        let (w, (k, (n, (a, (apart, none))))) = held in
        ((shape_is m v (length out) (length v)).0 (w, (k, (n, (a, tt)))), (independent_is m v).0 (not-true (dependent m v) apart)),
    λ p.
        let (w, (k, (n, (a, none)))) = (shape_is m v (length out) (length v)).1 p.0 in
        (w, (k, (n, (a, (ap not ((independent_is m v).1 p.1), tt))))),
  )

  -- "An essence converts exactly if no non-empty choice of its values sums to zero", where nothing from 1 to 3 is wrong
  pub converts_exactly : (signature_answer m v out ≡ Done) ↔ (Shape m v (length out) (length v) × Independent m v)
  converts_exactly =
      let exactly = (signature_refuses m v out).0 in (λ e. holds_independent.0 (exactly.1 e), λ p. exactly.0 (holds_independent.1 p))

  -- 17: "such a choice exists. It is looked for after 3"
  pub refused_17_exactly : (signature_answer m v out ≡ Refused 17) ↔ (Shape m v (length out) (length v) × Dependent m v)
  unfolding signature_answer signature_fault value_rules shape_rules
  refused_17_exactly =
      let exactly =
      refused_exactly (shape_rules m v (length out) (length v)) 17 (not (dependent m v)) [] tt (λ z. omega arith) refl refl in (
        λ e.
            let (held, found) = exactly.0 e in
            ((shape_is m v (length out) (length v)).0 held, (dependent_is m v).0 (not-false (dependent m v) found)),
        λ p. exactly.1 ((shape_is m v (length out) (length v)).1 p.0, ap not ((dependent_is m v).1 p.1)),
      )

  module _ (e : signature_answer m v out ≡ Done) where
    sizes : Shape m v (length out) (length v)
    sizes = (converts_exactly.0 e).0

    essence : Values m sizes.e v
    essence = shape_values sizes

    stored : signature_after m v out ≡ signature_of m (length v - 1) v
    unfolding signature_answer signature_after
    stored = given (λ k. out) (signature_of m (length v - 1) v) (done_none (signature_fault m v (length out)) e)

    written : signature_after m v out ≡ signature_of m sizes.e v
    written =
        let one_less : length v - 1 ≡ sizes.e = omega (arith, sizes.values) in stored ∙ ap (λ (e : ℕ). signature_of m e v) one_less

-- ---- there and back

-- "Each accepted signature comes back from its essence unaltered"
pub there_and_back : (m : ℕ) (h short long : List ℕ) → essence_answer m h short ≡ Done → length long ≡ length h
    → (signature_answer m (essence_after m h short) long ≡ Done) × (signature_after m (essence_after m h short) long ≡ h)
there_and_back m h short long e room =
    subst (λ (v : List ℕ). (signature_answer m v long ≡ Done) × (signature_after m v long ≡ h)) (sym (left m h short e))
    (done, written m values long done ∙ ap (λ (k : ℕ). signature_of m k values) same ∙ signature_of_essence H)
  where
    S : Shape m h (length h) (length short)
    S = shape m h short e

    H : Signature m S.e h
    H = signature m h short e

    values : List ℕ
    values = essence_of m S.e h

    done : signature_answer m values long ≡ Done
    done =
        (converts_exactly m values long).1 (
          record {
            width = S.width;
            e = S.e;
            low = S.low;
            high = S.high;
            entries = room ∙ S.entries;
            values = (essence_values H).long;
            elements = (essence_values H).elements;
          },
          essence_independent H,
        )

    same : (sizes m values long done).e ≡ S.e
    same = omega (arith, (sizes m values long done).values, (essence_values H).long)

-- "and each accepted essence from its signature"
pub back_and_there : (m : ℕ) (v long short : List ℕ) → signature_answer m v long ≡ Done → length short ≡ length v
    → (essence_answer m (signature_after m v long) short ≡ Done) × (essence_after m (signature_after m v long) short ≡ v)
back_and_there m v long short e room =
    subst (λ (h : List ℕ). (essence_answer m h short ≡ Done) × (essence_after m h short ≡ v)) (sym (written m v long e))
    (done, left m H short done ∙ ap (λ (k : ℕ). essence_of m k H) same ∙ essence_of_signature E I)
  where
    S : Shape m v (length long) (length v)
    S = sizes m v long e

    E : Values m S.e v
    E = essence m v long e

    I : Independent m v
    I = ((converts_exactly m v long).0 e).1

    H : List ℕ
    H = signature_of m S.e v

    done : essence_answer m H short ≡ Done
    done =
        (essence_done_exactly m H short).1 (
          record {
            width = S.width;
            e = S.e;
            low = S.low;
            high = S.high;
            entries = signature_long E;
            values = room ∙ S.values;
            elements = signature_elements E;
          },
          subst (λ (k : ℕ). Conditions (gf m) k (entry_of H)) (sym (signature_long E)) (signature_conditions E I),
        )

    same : (shape m H short done).e ≡ S.e
    same = omega (arith, (shape m H short done).values, room, S.values)

-- so that no two signatures have the same essence
pub same_essence : (m : ℕ) (h h' short short' : List ℕ) → essence_answer m h short ≡ Done → essence_answer m h' short' ≡ Done
    → essence_after m h short ≡ essence_after m h' short' → h ≡ h'
same_essence m h h' short short' e e' same =
    let (done, comes) = there_and_back m h short h e refl in
    let (done', comes') = there_and_back m h' short' h' e' refl in
    sym comes ∙ stored m (essence_after m h short) h done ∙ ap (λ (v : List ℕ). signature_of m (length v - 1) v) same
    ∙ sym (stored m (essence_after m h' short') h' done')
    ∙ comes'

-- ---- the signature that is written is accepted as a code's, with every offset and every number of roots that goes with its length

module _ (m : ℕ) (v out : List ℕ) (e : signature_answer m v out ≡ Done) (t ω : ℕ) (count : is_root_count (length out) t ≡ true) (ω_in : ω < 2 ^ m) where
  -- the code with this signature
  abbrev pub drawn : Parameters
  drawn = record { m = m; n = length out; t = t; omega = ω }

  pub drawn_accepted : Accepted drawn (signature_after m v out)
  unfolding is_root_count
  drawn_accepted =
      let S = sizes m v out e in
      let E = essence m v out e in
      let (t_power, half) = both_true (is_power t) (leb t (length out / 2)) count in
      let (f, f-high, t-is) = power_is t t_power in
      subst (Accepted drawn) (sym (written m v out e))
      (record {
        limits = record {
          width = S.width;
          e = S.e;
          n_power = S.entries;
          n_low = subst (λ (n : ℕ). 2 ≤ n) (sym S.entries) (pow_mono S.low);
          n_high = S.high;
          h_length = signature_long E ∙ sym S.entries;
          h_in = signature_elements E;
          f = f;
          t_power = t-is;
          t_high = leb-true t (length out / 2) half;
        };
        ω_in = ω_in;
        conditions = subst (λ (n : ℕ). Conditions (gf m) n (entry_of (signature_of m S.e v))) (sym S.entries)
            (signature_conditions E ((converts_exactly m v out).0 e).1);
      })

  -- with marks that hide message columns only
  pub drawn_checked : (hidden roots support : List ℕ) → Fits drawn (signature_after m v out) (short_code hidden)
      → length roots ≡ length out → length support ≡ length out → check_answer drawn (signature_after m v out) hidden roots support ≡ Done
  drawn_checked hidden roots support F r s = accepted_done drawn (signature_after m v out) hidden roots support r s drawn_accepted F
