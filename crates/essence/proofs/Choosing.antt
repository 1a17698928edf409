-- The loop of `choice_sum`, over plain numbers and lists: the sum of the values taken so far.
use mathlib.Core.Path.{◌≡◌, refl, sym, ap, ◌∙◌}
use mathlib.Core.List.{List}
use Prim.Native.Nat.{ℕ, ◌+◌, ◌*◌, ◌≤◌, ◌<◌}
use native.Mathlib.Numerals.{add-one}
use native.Mathlib.Omega.{arith}
use lib.ListN.{length}
use Rattle.algebra.specs.Bits.{bit_at}
use Rattle.algebra.specs.Lists.{entry_of}
use Rattle.algebra.specs.Sum.{sum}
use Rattle.algebra.specs.Xor.{◌⊕◌}
use Rattle.field.specs.Gf.{gf}
use Rattle.essence.specs.Choices.{choice_sum}

abbrev taken : List ℕ → ℕ → ℕ → ℕ
taken v c s = bit_at c s * entry_of v s

-- `total` is the sum over the places passed, in the field of any width
pub record Choosing (v : List ℕ) (c total s : ℕ) : Type 0 where
  pub bound : s ≤ length v
  pub so_far : (m : ℕ) → total ≡ sum (gf m) s (taken v c)

pub choosing_start : (v : List ℕ) (c : ℕ) → Choosing v c 0 0
unfolding sum
choosing_start v c = record { bound = omega arith; so_far = λ m. refl }

module _ {v : List ℕ} {c total s : ℕ} (C : Choosing v c total s) where
  pub choosing_turn : s < length v → Choosing v c (total ⊕ bit_at c s * entry_of v s) (s + 1)
  unfolding sum
  choosing_turn l =
      record {
        bound = omega arith;
        so_far = λ m.
            ap (λ (x : ℕ). x ⊕ bit_at c s * entry_of v s) (C.so_far m) ∙ ap (λ (k : ℕ). sum (gf m) k (taken v c)) (sym (add-one s));
      }

  pub choosing_end : length v ≤ s → (m : ℕ) → total ≡ choice_sum m v c
  unfolding choice_sum
  choosing_end l m =
      let whole : s ≡ length v = omega (arith, C.bound) in
      C.so_far m ∙ ap (λ (k : ℕ). sum (gf m) k (taken v c)) whole
