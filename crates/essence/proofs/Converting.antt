-- Why `convert` is right: on the table of the sums of which the signature has the inverses, the tests of a signature's entries tell independence.
use mathlib.Core.Path.{◌≡◌, refl, sym, ap, ◌∙◌, subst}
use mathlib.Core.Bool.{Bool, true, false, not, ◌&&◌, true≢false}
use mathlib.Core.List.{List}
use Prim.Native.Nat.{ℕ, ◌+◌, ◌-◌, ◌^◌, ◌<◌}
use native.Mathlib.Omega.{arith}
use lib.ListN.{length}
use lib.Seq.{ext_get_or}
use Rattle.algebra.specs.Distinct.{distinct}
use Rattle.algebra.specs.DistinctLaws.{distinct_is}
use Rattle.algebra.specs.Flags.{both_true, both_hold, refuted}
use Rattle.algebra.specs.Lists.{entry_of}
use Rattle.algebra.specs.Tabulate.{tabulate}
use Rattle.algebra.specs.TabulateLaws.{length-tabulate, get_d_tabulate}
use Rattle.algebra.specs.Xor.{◌⊕◌}
use Rattle.algebra.specs.XorLaws.{⊕-lt}
use Rattle.field.specs.Gf.{gf}
use Rattle.slices.specs.Lengths.{is_power}
use Rattle.slices.specs.LengthLaws.{power}
use Rattle.signature.specs.Inverses.{Entries, Inverted}
use Rattle.signature.specs.Tests.{inverse_at, no_zero}
use Rattle.signature.specs.TestLaws.{EqualToFirst, no_zero_is}
use Rattle.signature.proofs.Inverses.{affine_first}
use Rattle.essence.specs.Choices.{choice_sum, dependent}
use Rattle.essence.proofs.ChoiceLaws.{independent_is}
use Rattle.essence.specs.Essence.{chosen_at, signature_of}
use Rattle.essence.proofs.ChosenLaws.{chosen_in, chosen_affine, chosen_nonzero, chosen_distinct, independent_by}
use Rattle.essence.proofs.EssenceLaws.{signature_long, signature_entry}
use Rattle.essence.specs.Shape.{Shape}
use Rattle.essence.proofs.ShapeLaws.{shape_values}

module _ {m n : ℕ} {v table : List ℕ} (S : Shape m v n (length v)) (stored : table ≡ tabulate n (λ i. choice_sum m v (n + i))) where
  abbrev e : ℕ
  e = S.e

  table_is : table ≡ tabulate (2 ^ e) (chosen_at m e v)
  unfolding chosen_at
  table_is = stored ∙ ap (λ (n : ℕ). tabulate n (λ i. choice_sum m v (n + i))) S.entries

  table_long : length table ≡ 2 ^ e
  table_long = ap length table_is ∙ length-tabulate (2 ^ e) (chosen_at m e v)

  table_entry : (i : ℕ) → i < 2 ^ e → entry_of table i ≡ chosen_at m e v i
  table_entry i l = ap (λ (a : List ℕ). entry_of a i) table_is ∙ get_d_tabulate (2 ^ e) (chosen_at m e v) i 0 l

  inside : {i : ℕ} → i < length table → i < 2 ^ e
  inside {i} l = subst (λ (k : ℕ). i < k) table_long l

  is_power_lem : is_power (length table) ≡ true
  is_power_lem = power (length table) e S.high table_long

  -- equal sums put another beside the first
  pub table_first : EqualToFirst table
  table_first =
      affine_first table (entry_of table) is_power_lem
      (λ i j li lj.
      let below = inside li in
      let below' = inside lj in
      table_entry (i ⊕ j) (⊕-lt e i j below below') ∙ chosen_affine (shape_values S) i j below below' ∙ sym (sums i j below below'))
      (λ i j li lj. (λ q. q, λ q. q))
    where
      sums : (i j : ℕ) → i < 2 ^ e → j < 2 ^ e
          → entry_of table i ⊕ entry_of table j ⊕ entry_of table 0 ≡ chosen_at m e v i ⊕ chosen_at m e v j ⊕ chosen_at m e v 0
      sums i j li lj = rw (table_entry i li) (rw (table_entry j lj) (rw (table_entry 0 (omega arith)) refl))

  -- no sum is zero and no two are equal exactly if the essence is independent
  pub table_tells : (no_zero table && distinct table) ≡ not (dependent m v)
  table_tells = decided (dependent m v) refl
    where
      told : (no_zero table && distinct table) ≡ true → dependent m v ≡ false
      told t =
          let (nonzero, different) = both_true (no_zero table) (distinct table) t in
          (independent_is m v).1
          (independent_by (shape_values S)
          (λ i l z. (no_zero_is m table).0 nonzero i (subst (λ (k : ℕ). i < k) (sym table_long) l) (table_entry i l ∙ z))
          (λ i j l lj q.
          let li : i < 2 ^ e = omega arith in
          (distinct_is table).0 different i j l (subst (λ (k : ℕ). j < k) (sym table_long) lj) (table_entry i li ∙ q ∙ sym (table_entry j lj))))

      decided : (d : Bool) → dependent m v ≡ d → (no_zero table && distinct table) ≡ not d
      decided true q = refuted (no_zero table && distinct table) (λ t. true≢false (sym q ∙ told t))
      decided false q =
          let I = (independent_is m v).0 q in
          both_hold ((no_zero_is m table).1 (λ i l z. chosen_nonzero (shape_values S) I i (inside l) (sym (table_entry i (inside l)) ∙ z)))
          ((distinct_is table).1
          (λ i j l lj z.
          let below = inside lj in
          let li : i < 2 ^ e = omega arith in
          chosen_distinct (shape_values S) I i j l below (sym (table_entry i li) ∙ z ∙ table_entry j below)))

  -- the table can be inverted
  pub table_entries : {room : List ℕ} → length room ≡ n → Entries m table room
  table_entries {room} long =
      record {
        width = S.width;
        elements = λ i l. subst (λ (x : ℕ). x < 2 ^ m) (sym (table_entry i (inside l))) (chosen_in (shape_values S) i);
        power = is_power_lem;
        fits = omega (arith, table_long, S.entries);
      }

  -- and its inverses are the signature
  pub table_inverted : {out : List ℕ} → length out ≡ n → Inverted m table out → out ≡ signature_of m (length v - 1) v
  unfolding inverse_at
  table_inverted {out} long I =
      ext_get_or 0 out (signature_of m e v) (long ∙ S.entries ∙ sym (signature_long (shape_values S)))
      (λ i l.
      let below : i < 2 ^ e = subst (λ (k : ℕ). i < k) (long ∙ S.entries) l in
      I.are i (subst (λ (k : ℕ). i < k) (sym table_long) below) ∙ ap (gf m).inv (table_entry i below)
      ∙ sym (signature_entry (shape_values S) i below))
      ∙ ap (λ (k : ℕ). signature_of m k v) one_less
    where
      one_less : e ≡ length v - 1
      one_less = omega (arith, S.values)
