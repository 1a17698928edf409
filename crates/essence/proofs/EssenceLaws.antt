-- Laws of essences. The signature of an independent essence is accepted, and its essence is the one it came from. The essence of an accepted
-- signature is independent, and its signature is the one it came from.
use Rattle.std.specs.Prelude.{◌≡◌, ℕ, suc, ◌+◌, ◌^◌, ◌<◌, length}
use Rattle.std.proofs.Math.Path.{sym, ap, ap₂}
use Rattle.std.proofs.Common.{◌∙◌, subst, pow_pos}
use mathlib.Core.List.{List, [], ◌∷◌, ◌++◌}
use Rattle.std.proofs.Math.Decide.{dec_lt}
use native.Mathlib.Omega.{arith}
use Rattle.std.proofs.Math.Numerals.{add-one}
use Rattle.std.proofs.Math.ListN.{length-append, get_or-append}
use Rattle.std.proofs.Math.Pow.{pow-lt}
use Rattle.std.proofs.Math.Seq.{get_or_at}
use Rattle.algebra.specs.Field.{Laws}
use Rattle.algebra.specs.FieldLaws.{inv≢nought}
use Rattle.algebra.specs.Lists.{entry_of}
use Rattle.algebra.specs.Tabulate.{tabulate}
use Rattle.algebra.specs.TabulateLaws.{length-tabulate, get_d_tabulate, tabulate_cong, tabulate-get_or}
use Rattle.algebra.specs.Xor.{◌⊕◌}
use Rattle.algebra.specs.XorLaws.{xor, ⊕-lt}
use Rattle.field.specs.Gf.{Width, gf}
use Rattle.field.proofs.GfLaws.{gf_laws}
use Rattle.slices.specs.Elements.{Elements}
use Rattle.signature.specs.Existence.{inv-inv, inv_injective}
use Rattle.signature.specs.Signature.{Conditions}
use Rattle.signature.specs.Tests.{inverse_at}
use Rattle.essence.specs.Affine.{affine_agree}
use Rattle.essence.specs.Choices.{Independent}
use Rattle.essence.proofs.ChosenLaws.{Values, chosen_in, chosen_first, chosen_power, chosen_affine}
use Rattle.essence.proofs.ChosenLaws.{chosen_nonzero, chosen_distinct, independent_by}
use Rattle.essence.specs.Essence.{essence_from, essence_of, chosen_at, signature_of}

-- ---- from an independent essence to its signature

module _ {m e : ℕ} {v : List ℕ} (E : Values m e v) where
  pub signature_entry : (i : ℕ) → i < 2 ^ e → entry_of (signature_of m e v) i ≡ (gf m).inv (chosen_at m e v i)
  unfolding signature_of
  signature_entry i l = get_d_tabulate (2 ^ e) (λ i. (gf m).inv (chosen_at m e v i)) i 0 l

  pub signature_long : length (signature_of m e v) ≡ 2 ^ e
  unfolding signature_of
  signature_long = length-tabulate (2 ^ e) (λ i. (gf m).inv (chosen_at m e v i))

  pub signature_elements : Elements m (signature_of m e v)
  signature_elements i l =
      subst (λ (x : ℕ). x < 2 ^ m) (sym (signature_entry i (subst (λ (k : ℕ). i < k) signature_long l)))
      ((gf_laws m E.width).in_inv (chosen_at m e v i))

  module _ (I : Independent m v) where
    -- 1/h is what the signature was made of
    pub signature_inverse : (i : ℕ) → i < 2 ^ e → inverse_at m (signature_of m e v) i ≡ chosen_at m e v i
    unfolding inverse_at
    signature_inverse i l =
        ap (gf m).inv (signature_entry i l)
        ∙ inv-inv (gf m) (gf_laws m E.width) (chosen_at m e v i) (chosen_in E i) (chosen_nonzero E I i l)

    -- it keeps 01's three conditions
    pub signature_conditions : Conditions (gf m) (2 ^ e) (entry_of (signature_of m e v))
    unfolding inverse_at
    signature_conditions =
        let F = gf_laws m E.width in
        record {
          no_zero = λ i l z.
              inv≢nought (gf m) F (chosen_at m e v i) (chosen_in E i) (chosen_nonzero E I i l) (sym (signature_entry i l) ∙ z);
          linear = λ i j li lj.
              signature_inverse (i ⊕ j) (⊕-lt e i j li lj) ∙ chosen_affine E i j li lj
              ∙ sym
              (ap₂ (λ (x y : ℕ). x ⊕ y) (ap₂ (λ (x y : ℕ). x ⊕ y) (signature_inverse i li) (signature_inverse j lj))
              (signature_inverse 0 (pow_pos e)));
          distinct = λ i j l lj q.
              chosen_distinct E I i j l lj
              (sym (signature_inverse i (omega arith)) ∙ ap (gf m).inv q ∙ signature_inverse j lj);
        }

    -- ".. and each accepted essence from its signature"
    pub essence_of_signature : essence_of m e (signature_of m e v) ≡ v
    unfolding essence_of essence_from tabulate
    essence_of_signature =
        let f = inverse_at m (signature_of m e v) in
        let first : f 0 ≡ entry_of v e = signature_inverse 0 (pow_pos e) ∙ chosen_first E in
        ap₂ (λ (l : List ℕ) (x : ℕ). l ++ x ∷ [])
        (tabulate_cong e
        (λ s l.
        ap₂ (λ (x y : ℕ). x ⊕ y) (signature_inverse (2 ^ s) (pow-lt l) ∙ chosen_power E s l) first ∙ cancelled (entry_of v e) (entry_of v s)))
        first
        ∙ ap (λ (k : ℕ). tabulate k (entry_of v)) (sym E.long)
        ∙ tabulate-get_or v 0
      where
        cancelled : (a b : ℕ) → (a ⊕ b) ⊕ a ≡ b
        cancelled a b = simp xor

-- ---- from an accepted signature to its essence

pub record Signature (m e : ℕ) (h : List ℕ) : Type 0 where
  pub width : Width m
  pub long : length h ≡ 2 ^ e
  pub elements : Elements m h
  pub conditions : Conditions (gf m) (2 ^ e) (entry_of h)

module _ {m e : ℕ} {h : List ℕ} (H : Signature m e h) where
  abbrev f : ℕ → ℕ
  f = inverse_at m h

  abbrev others : ℕ → ℕ
  others s = f (2 ^ s) ⊕ f 0

  entry_in : (i : ℕ) → i < 2 ^ e → entry_of h i < 2 ^ m
  entry_in i l = H.elements i (subst (λ (k : ℕ). i < k) (sym H.long) l)

  pub essence_long : length (essence_of m e h) ≡ suc e
  unfolding essence_of essence_from
  essence_long = length-append (tabulate e others) (f 0 ∷ []) ∙ ap (λ (k : ℕ). k + 1) (length-tabulate e others) ∙ add-one e

  pub essence_last : entry_of (essence_of m e h) e ≡ f 0
  unfolding essence_of essence_from
  essence_last = get_or_at (tabulate e others) (f 0) [] 0 e (length-tabulate e others)

  pub essence_other : (s : ℕ) → s < e → entry_of (essence_of m e h) s ≡ others s
  unfolding essence_of essence_from
  essence_other s l =
      get_or-append (tabulate e others) (f 0 ∷ []) 0 s (subst (λ (k : ℕ). s < k) (sym (length-tabulate e others)) l)
      ∙ get_d_tabulate e others s 0 l

  inverse_in : (i : ℕ) → f i < 2 ^ m
  unfolding inverse_at
  inverse_in i = (gf_laws m H.width).in_inv (entry_of h i)

  essence_elements : Elements m (essence_of m e h)
  essence_elements s l = decided (dec_lt s e)
    where
      decided : Dec (s < e) → entry_of (essence_of m e h) s < 2 ^ m
      decided (yes low) =
          subst (λ (x : ℕ). x < 2 ^ m) (sym (essence_other s low)) (⊕-lt m (f (2 ^ s)) (f 0) (inverse_in (2 ^ s)) (inverse_in 0))
      decided (no high) =
          let last : e ≡ s = omega (arith, essence_long) in
          subst (λ (k : ℕ). entry_of (essence_of m e h) k < 2 ^ m) last (subst (λ (x : ℕ). x < 2 ^ m) (sym essence_last) (inverse_in 0))

  pub essence_values : Values m e (essence_of m e h)
  essence_values = record { width = H.width; long = essence_long; elements = essence_elements }

  -- the sums of the essence's choices are 1/h: both keep the rule, and they agree at 0 and at the powers of two
  pub essence_chosen : (i : ℕ) → i < 2 ^ e → chosen_at m e (essence_of m e h) i ≡ f i
  unfolding inverse_at
  essence_chosen =
      affine_agree e (chosen_at m e (essence_of m e h)) f (chosen_affine essence_values) H.conditions.linear
      (chosen_first essence_values ∙ essence_last)
      (λ s l.
      chosen_power essence_values s l ∙ ap₂ (λ (x y : ℕ). x ⊕ y) essence_last (essence_other s l) ∙ cancelled (f 0) (f (2 ^ s)))
    where
      cancelled : (a b : ℕ) → a ⊕ (b ⊕ a) ≡ b
      cancelled a b = simp xor

  -- so that an accepted signature has an accepted essence
  pub essence_independent : Independent m (essence_of m e h)
  unfolding inverse_at
  essence_independent =
      independent_by essence_values
      (λ i l z.
      inv≢nought (gf m) F (entry_of h i) (entry_in i l) (H.conditions.no_zero i l) (sym (essence_chosen i l) ∙ z))
      (λ i j l lj q.
      let li : i < 2 ^ e = omega arith in
      H.conditions.distinct i j l lj
      (inv_injective (gf m) F (entry_of h i) (entry_of h j) (entry_in i li) (entry_in j lj) (H.conditions.no_zero i li)
      (H.conditions.no_zero j lj) (sym (essence_chosen i li) ∙ q ∙ essence_chosen j lj)))
    where
      F : Laws (gf m)
      F = gf_laws m H.width

  -- "Each accepted signature comes back from its essence unaltered"
  pub signature_of_essence : signature_of m e (essence_of m e h) ≡ h
  unfolding signature_of inverse_at
  signature_of_essence =
      tabulate_cong (2 ^ e)
      (λ i l.
      ap (gf m).inv (essence_chosen i l)
      ∙ inv-inv (gf m) (gf_laws m H.width) (entry_of h i) (entry_in i l) (H.conditions.no_zero i l))
      ∙ ap (λ (k : ℕ). tabulate k (entry_of h)) (sym H.long)
      ∙ tabulate-get_or h 0
