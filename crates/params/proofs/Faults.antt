-- The number of a code, part after part: what is known once a part of its rules has held, and what the number then is.

use mathlib.Core.Path.{◌≡◌, refl, sym, ◌∙◌, subst}
use mathlib.Core.Logic.{◌≢◌}
use mathlib.Core.Bool.{Bool, true, false, ◌&&◌}
use mathlib.Core.List.{List, [], ◌∷◌, ◌++◌}
use Prim.Native.Nat.{ℕ, ◌≤◌}
use native.Mathlib.Omega.{arith}
use lib.Dec.{leb, eqb}
use lib.ListN.{length}
use borrow.Author.Tests.{eqb-true}
use Rattle.algebra.specs.Flags.{both_true}
use Rattle.refusals.specs.Rules.{Rule, ◌unless◌, fault}
use Rattle.refusals.specs.RuleLaws.{fault_here, fault_past, fault_none, fault_first, fault_rest, hold}
use Rattle.field.specs.Range.{is_width, is_element}
use Rattle.field.specs.RangeLaws.{width_is}
use Rattle.slices.specs.Lengths.{longest, is_power}
use Rattle.slices.specs.LengthLaws.{power_is, power_short}
use Rattle.slices.specs.Elements.{all_elements}
use Rattle.slices.specs.ElementLaws.{elements_are}
use Rattle.params.specs.declared.Parameters.{Parameters}
use Rattle.params.specs.Code.{is_length, is_root_count, shape_rules, code_rules, code_fault}
use Rattle.signature.specs.Tests.{signature_rules}
use Rattle.signature.specs.Inverses.{Entries}

-- three rules of one number, tested together
pub fault_of_three : (n : ℕ) (a b c : Bool) (rules : List Rule) → (a && b && c) ≡ false
    → fault ((n unless a) ∷ (n unless b) ∷ (n unless c) ∷ rules) ≡ n
unfolding fault
fault_of_three n true true c rules e = fault_here n rules e
fault_of_three n true false c rules e = refl
fault_of_three n false b c rules e = refl

module _ (buffers : Bool) (c : Parameters) (h : List ℕ) where
  -- n, h and the buffers have their lengths
  abbrev sized : Bool
  sized = is_length c.n && eqb (length h) c.n && buffers

  pub width_number : is_width c.m ≡ false → 1 ≡ fault (shape_rules buffers c h)
  unfolding shape_rules
  width_number f = sym (fault_here 1 _ f)

  pub size_number : is_width c.m ≡ true → sized ≡ false → 2 ≡ fault (shape_rules buffers c h)
  unfolding shape_rules
  size_number w f = sym (fault_past 1 _ w (fault_of_three 2 (is_length c.n) (eqb (length h) c.n) buffers _ f))

  -- the rest of the shape: entries and offset are elements
  pub element_number : {k : ℕ} → is_width c.m ≡ true → sized ≡ true
      → k ≡ fault ((3 unless all_elements c.m h) ∷ (3 unless is_element c.m c.omega) ∷ []) → k ≡ fault (shape_rules buffers c h)
  unfolding shape_rules
  element_number w s e =
      let (lengths, lent) = both_true (is_length c.n && eqb (length h) c.n) buffers s in
      let (n-length, h_length) = both_true (is_length c.n) (eqb (length h) c.n) lengths in
      sym (fault_past 1 _ w (fault_past 2 _ n-length (fault_past 2 _ h_length (fault_past 2 _ lent (sym e)))))

  -- what the signature's tests ask for
  pub shaped : (room : List ℕ) → longest ≤ length room → fault (shape_rules buffers c h) ≡ 0 → Entries c.m h room
  unfolding shape_rules is_length
  shaped room fits z =
      let (is_width_here, r₁) = hold (shape_rules buffers c h) tt z in
      let (is_length_here, r₂) = r₁ in
      let (is-long, r₃) = r₂ in
      let long : length h ≡ c.n = eqb-true (length h) c.n is-long in
      let power : is_power (length h) ≡ true =
      subst (λ (k : ℕ). is_power k ≡ true) (sym long) (both_true (leb 2 c.n) (is_power c.n) is_length_here).1 in
      let (e, l, v) = power_is (length h) power in
      let short : length h ≤ longest = power_short (length h) e l v in
      record { width = width_is c.m is_width_here; elements = (elements_are c.m h).0 r₃.1.0; power = power; fits = omega arith }

  -- 7, the last rule
  roots : List Rule
  roots = (7 unless is_root_count c.n c.t) ∷ []

  module _ (z : fault (shape_rules buffers c h) ≡ 0) where
    after_shape : code_fault buffers c h ≡ fault (signature_rules c.m h ++ roots)
    unfolding code_fault code_rules shape_rules roots
    after_shape = fault_rest (shape_rules buffers c h) (signature_rules c.m h ++ roots) tt z

    after_signature : fault (signature_rules c.m h) ≡ 0 → code_fault buffers c h ≡ fault roots
    unfolding signature_rules
    after_signature y = after_shape ∙ fault_rest (signature_rules c.m h) roots tt y

    pub signature_number : {k : ℕ} → k ≡ fault (signature_rules c.m h) → k ≢ 0 → k ≡ code_fault buffers c h
    signature_number e ne = e ∙ sym (after_shape ∙ fault_first (signature_rules c.m h) roots (λ y. ne (e ∙ y)))

    pub roots_number : fault (signature_rules c.m h) ≡ 0 → is_root_count c.n c.t ≡ false → 7 ≡ code_fault buffers c h
    unfolding roots
    roots_number y f = sym (after_signature y ∙ fault_here 7 [] f)

    pub no_number : fault (signature_rules c.m h) ≡ 0 → is_root_count c.n c.t ≡ true → 0 ≡ code_fault buffers c h
    unfolding roots
    no_number y f = sym (after_signature y ∙ fault_none roots (f, tt))

  pub shape_number : {k : ℕ} → k ≡ fault (shape_rules buffers c h) → k ≢ 0 → k ≡ code_fault buffers c h
  unfolding code_fault code_rules
  shape_number e ne =
      e ∙ sym (fault_first (shape_rules buffers c h) (signature_rules c.m h ++ (7 unless is_root_count c.n c.t) ∷ []) (λ z. ne (e ∙ z)))
