-- The loop of `syndromes::syndrome_at`, over plain numbers and lists: the sum over the places passed.
use mathlib.Core.Path.{◌≡◌, refl, sym, ap, ap₂, ◌∙◌}
use mathlib.Core.List.{List}
use Prim.Native.Nat.{ℕ, zero, suc, ◌+◌, ◌*◌, ◌^◌, ◌<◌, ◌≤◌}
use native.Mathlib.Nat.{zero-mul, one-mul}
use native.Mathlib.Numerals.{add-one}
use native.Mathlib.Omega.{arith}
use lib.ListN.{length}
use lib.Pow.{pow_pos}
use Rattle.algebra.specs.BitLaws.{bit_times_lt}
use Rattle.algebra.specs.Lists.{entry_of}
use Rattle.algebra.specs.Sum.{sum}
use Rattle.algebra.specs.Xor.{◌⊕◌}
use Rattle.algebra.specs.XorLaws.{⊕-lt}
use Rattle.field.specs.Gf.{gf}
use Rattle.parity.specs.Word.{held}

-- what place j adds to entry i of the syndrome
abbrev pub summand : List ℕ → List ℕ → List ℕ → ℕ → ℕ → ℕ
summand h cols word i j = held (entry_of word j) (entry_of h (i ⊕ entry_of cols j))

-- the product of a bit and an element is the element, held or not
bit_held : (b x : ℕ) → b < 2 → b * x ≡ held b x
unfolding held
bit_held zero x l = zero-mul x
bit_held (suc zero) x l = one-mul x
bit_held (suc (suc b)) x l = absurd (omega arith)

pub record Summing (m : ℕ) (h cols word : List ℕ) (i s j : ℕ) : Type 0 where
  pub bound : j ≤ length cols
  pub element : s < 2 ^ m
  pub so_far : s ≡ sum (gf m) j (summand h cols word i)

pub sum_start : (m : ℕ) (h cols word : List ℕ) (i : ℕ) → Summing m h cols word i 0 0
unfolding sum
sum_start m h cols word i = record { bound = omega arith; element = pow_pos m; so_far = refl }

module _ {m : ℕ} {h cols word : List ℕ} {i s j : ℕ} (S : Summing m h cols word i s j) where
  pub sum_turn : j < length cols → entry_of word j < 2 → entry_of h (i ⊕ entry_of cols j) < 2 ^ m
      → Summing m h cols word i (s ⊕ entry_of word j * entry_of h (i ⊕ entry_of cols j)) (j + 1)
  unfolding sum
  sum_turn l hb hx =
      let b = entry_of word j in
      let x = entry_of h (i ⊕ entry_of cols j) in
      record {
        bound = omega arith;
        element = ⊕-lt m s (b * x) S.element (bit_times_lt m b x hb hx);
        so_far =
            ap₂ (λ (y z : ℕ). y ⊕ z) S.so_far (bit_held b x hb)
            ∙ ap (λ (k : ℕ). sum (gf m) k (summand h cols word i)) (sym (add-one j));
      }

  pub sum_end : length cols ≤ j → s ≡ sum (gf m) (length cols) (summand h cols word i)
  sum_end l =
      let whole : j ≡ length cols = omega (arith, S.bound) in
      S.so_far ∙ ap (λ (k : ℕ). sum (gf m) k (summand h cols word i)) whole
