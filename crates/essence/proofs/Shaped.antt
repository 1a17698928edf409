-- What the functions know once 1 to 3 have refused nothing.
use mathlib.Core.Path.{◌≡◌, sym, ap, ap₂, ◌∙◌, subst}
use mathlib.Core.Bool.{true}
use mathlib.Core.List.{List, [], ◌∷◌, ◌++◌}
use Prim.Native.Nat.{ℕ, ◌-◌, ◌^◌, ◌≤◌, ◌<◌}
use native.Mathlib.Omega.{arith}
use lib.ListN.{length}
use lib.Pow.{pow_mono, pow-lt, pow_pos}
use Rattle.algebra.specs.Lists.{entry_of}
use Rattle.algebra.specs.TabulateLaws.{tabulate_cong}
use Rattle.algebra.specs.Xor.{◌⊕◌}
use Rattle.refusals.specs.Rules.{fault}
use Rattle.refusals.specs.RuleLaws.{hold, first_holds}
use Rattle.slices.specs.Lengths.{longest_log, longest}
use Rattle.slices.specs.LengthLaws.{power, power_short}
use Rattle.signature.specs.Inverses.{Entries, Inverted}
use Rattle.signature.specs.Tests.{inverse_at, signature_rules}
use Rattle.essence.specs.Answers.{is_value_count, shape_rules, essence_rules, essence_fault}
use Rattle.essence.specs.Essence.{essence_from, essence_of}
use Rattle.essence.specs.Shape.{Shape}
use Rattle.essence.proofs.ShapeLaws.{value_count, shape_is}

pub shaped : (m : ℕ) (a : List ℕ) (n k : ℕ) → fault (shape_rules m a n k) ≡ 0 → Shape m a n k
unfolding shape_rules
shaped m a n k z = (shape_is m a n k).0 (hold (shape_rules m a n k) tt z)

-- the same from all the rules of a signature
pub first_shaped : (m : ℕ) (h : List ℕ) (k : ℕ) → essence_fault m h k ≡ 0 → Shape m h (length h) k
unfolding essence_fault essence_rules
first_shaped m h k z = shaped m h (length h) k (first_holds (shape_rules m h (length h) k) (signature_rules m h) z)

pub shape_value_count : {m : ℕ} {a : List ℕ} {n k : ℕ} → Shape m a n k → is_value_count k ≡ true
shape_value_count {k = k} S = value_count k (omega (arith, S.values, S.low)) (omega (arith, S.values, S.high))

-- no signature is longer than the longest
pub entries_short : {m : ℕ} {a : List ℕ} {n k : ℕ} → Shape m a n k → n ≤ longest
entries_short {n = n} S = power_short n S.e S.high S.entries

pub shape_entries : {m : ℕ} {h room : List ℕ} {k : ℕ} → Shape m h (length h) k → longest ≤ length room → Entries m h room
shape_entries {h = h} S l =
    record {
      width = S.width;
      elements = S.elements;
      power = power (length h) S.e S.high S.entries;
      fits = omega (arith, entries_short S);
    }

-- one entry for each power of two that the essence asks for, and more
pub shape_room : {m : ℕ} {a : List ℕ} {n k : ℕ} → Shape m a n k → 2 ^ (k - 1) ≤ longest
shape_room {k = k} S =
    let one_less : k - 1 ≤ longest_log = omega (arith, S.values, S.high) in pow_mono one_less

-- the essence asks for the inverses of the entries alone
pub inverted_essence : {m : ℕ} {h inverses : List ℕ} {k : ℕ} → Shape m h (length h) k → Inverted m h inverses
    → essence_from (k - 1) (entry_of inverses) ≡ essence_of m (k - 1) h
unfolding essence_of essence_from
inverted_essence {m} {h} {inverses} {k} S I =
    ap₂ (λ (l : List ℕ) (x : ℕ). l ++ x ∷ [])
    (tabulate_cong (k - 1) (λ s l. ap₂ (λ (x y : ℕ). x ⊕ y) (I.are (2 ^ s) (below s l)) first))
    first
  where
    whole : length h ≡ 2 ^ (k - 1)
    whole =
        let one_less : S.e ≡ k - 1 = omega (arith, S.values) in
        S.entries ∙ ap (λ (e : ℕ). 2 ^ e) one_less

    below : (s : ℕ) → s < k - 1 → 2 ^ s < length h
    below s l = subst (λ (n : ℕ). 2 ^ s < n) (sym whole) (pow-lt l)

    first : entry_of inverses 0 ≡ inverse_at m h 0
    first = I.are 0 (subst (λ (n : ℕ). 0 < n) (sym whole) (pow_pos (k - 1)))
