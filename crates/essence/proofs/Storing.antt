-- What `store_essence` stores, over plain numbers and lists: the values before the last one by one, and then the last.
use mathlib.Core.Path.{◌≡◌, ap, ◌∙◌}
use mathlib.Core.List.{List, ◌∷◌, ◌++◌}
use Prim.Native.Nat.{ℕ, suc, ◌^◌, ◌≤◌, ◌<◌}
use native.Mathlib.Nat.{le_of_eq}
use native.Mathlib.Omega.{arith}
use lib.ListN.{length, get_or, drop, set, drop_of_length-le}
use lib.Pow.{pow-lt}
use lib.Seq.{drop-cons, set_at}
use Rattle.algebra.specs.Tabulate.{tabulate}
use Rattle.algebra.specs.TabulateLaws.{length-tabulate}
use Rattle.algebra.specs.Xor.{◌⊕◌}
use Rattle.essence.specs.Essence.{essence_from}

-- r, the entry that is looked at for value s, is one of the 2^e
pub reached : {r s e n : ℕ} → r ≡ 2 ^ s → s < e → 2 ^ e ≤ n → r < n
reached {s = s} {e = e} q l fits = omega (arith, pow-lt {i = s} {j = e} l)

module _ (f : ℕ → ℕ) where
  abbrev pub value : ℕ → ℕ
  value s = f (2 ^ s) ⊕ f 0

  pub stored : (e : ℕ) (old : List ℕ) {now : List ℕ} → length old ≡ suc e → now ≡ tabulate e value → set (now ++ drop e old) e (f 0) ≡ essence_from e f
  unfolding essence_from
  stored e old long made =
      ap (λ (a : List ℕ). set (a ++ drop e old) e (f 0)) made
      ∙ ap (λ (a : List ℕ). set (tabulate e value ++ a) e (f 0)) (drop-cons old e 0 (omega (arith, long)))
      ∙ set_at (tabulate e value) (get_or old e 0) (drop (suc e) old) (f 0) e (length-tabulate e value)
      ∙ ap (λ (a : List ℕ). tabulate e value ++ f 0 ∷ a) (drop_of_length-le old (le_of_eq long))
