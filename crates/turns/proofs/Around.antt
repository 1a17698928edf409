-- Once round the senders, as the two ranges that are gone through: from `next` up to the last, and then from the first up to `next`.
use mathlib.Core.Path.{◌≡◌, sym, ◌∙◌}
use mathlib.Core.List.{List, ◌++◌}
use Prim.Native.Nat.{ℕ, ◌+◌, ◌-◌, ◌%◌, ◌<◌, ◌≤◌}
use native.Mathlib.Decide.{dec_lt}
use native.Mathlib.Omega.{arith}
use lib.ListN.{length, get_or}
use Rattle.std.specs.List.{range_with_len}
use Rattle.std.proofs.Math.Nat.{mod-eq_of_lt, mod-eq-sub-mod}
use Rattle.std.proofs.lemmas.List.{get_or_append_left, get_or-append_right, length-append}
use Rattle.std.proofs.lemmas.List.FromFn.{length-range_with_len, get_or-range_with_len}
use Rattle.turns.specs.Turns.{sender_at}

abbrev pub around : ℕ → ℕ → List ℕ
around S next = range_with_len next (S - next) ++ range_with_len 0 next

module _ {S next : ℕ} (inside : next < S) where
  pub length-around : length (around S next) ≡ S
  length-around =
      length-append (range_with_len next (S - next)) (range_with_len 0 next)
      ∙ omega (arith, length-range_with_len next (S - next), length-range_with_len 0 next)

  -- in turn i it is sender_at i
  pub around_at : (i d : ℕ) → i < S → get_or (around S next) i d ≡ sender_at S next i
  unfolding sender_at
  around_at i d l = decided (dec_lt i (S - next))
    where
      first : length (range_with_len next (S - next)) ≡ S - next
      first = length-range_with_len next (S - next)

      decided : Dec (i < S - next) → get_or (around S next) i d ≡ (next + i) % S
      decided (yes less) =
          let below : next + i < S = omega arith in
          get_or_append_left (range_with_len next (S - next)) (range_with_len 0 next) d i (omega (arith, first))
          ∙ get_or-range_with_len next (S - next) i d less ∙ sym (mod-eq_of_lt below)
      decided (no more) =
          let past : S ≤ next + i = omega arith in
          let rest : next + i - S < S = omega arith in
          let same : 0 + (i - (S - next)) ≡ next + i - S = omega arith in
          get_or-append_right (range_with_len next (S - next)) (range_with_len 0 next) (S - next) i d first (omega arith)
          ∙ get_or-range_with_len 0 next (i - (S - next)) d (omega arith) ∙ same ∙ sym (mod-eq-sub-mod past ∙ mod-eq_of_lt rest)
