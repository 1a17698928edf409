-- The loop that adds the entries of a list to those of another, each at its place: what is added, and what is still as it was.
use Rattle.std.proofs.Common.{◌≡◌, refl, sym, subst, ◌∙◌, List, ℕ, ◌+◌, ◌<◌, ◌≤◌, length, get_or, length-set, arith, ext_get_or}
use Rattle.std.specs.Int.Bits.{bit_xor}
use lib.ListN.{set}
use Rattle.std.proofs.Math.Decide.{dec_lt}
use Rattle.algebra.specs.Lists.{entry_of}
use Rattle.algebra.specs.Tabulate.{tabulate}
use Rattle.algebra.specs.TabulateLaws.{length-tabulate, get_d_tabulate}
use Rattle.algebra.specs.Xor.{◌⊕◌}
use Rattle.std.proofs.lemmas.List.{get_or_default, get_or-set_same, get_or-set_other}

module _ {A : Type 0} (gives : A → A → A → Type 0) (from old : List A) where
  pub record Adding (now : List A) (i : ℕ) : Type 0 where
    pub long : length now ≡ length old
    pub passed : (k : ℕ) (x : A) → k < i → gives (get_or old k x) (get_or from k x) (get_or now k x)
    pub rest : (k : ℕ) (x : A) → i ≤ k → get_or now k x ≡ get_or old k x

  pub adding_start : Adding old 0
  adding_start = record { long = refl; passed = λ k x l. absurd (omega arith); rest = λ k x l. refl }

  module _ {now : List A} {i : ℕ} (G : Adding now i) (within : i < length old) (fits : length from ≡ length old) (entry : A) {other new : A}
      (e : other ≡ get_or from i other) (sum : gives (get_or now i entry) other new) where
    pub adding_turn : Adding (set now i new) (i + 1)
    adding_turn = record { long = length-set now i new ∙ G.long; passed = passed; rest = rest }
      where
        rest : (k : ℕ) (x : A) → i + 1 ≤ k → get_or (set now i new) k x ≡ get_or old k x
        rest k x l = get_or-set_other now i k new x (λ q. omega arith) ∙ G.rest k x (omega arith)

        here : (x : A) → gives (get_or old i x) (get_or from i x) (get_or (set now i new) i x)
        here x =
            let l = G.long in
            rw (get_or-set_same now i new x (omega arith), ← G.rest i x (omega arith), get_or_default now i x entry (omega arith), get_or_default from i x other (omega arith), ← e) sum

        passed : (k : ℕ) (x : A) → k < i + 1 → gives (get_or old k x) (get_or from k x) (get_or (set now i new) k x)
        passed k x l = by (dec_lt k i)
          where
            by : Dec (k < i) → gives (get_or old k x) (get_or from k x) (get_or (set now i new) k x)
            by (yes m) = rw (get_or-set_other now i k new x (λ q. omega arith)) (G.passed k x m)
            by (no nm) =
                let same : i ≡ k = omega arith in
                subst (λ (j : ℕ). gives (get_or old j x) (get_or from j x) (get_or (set now i new) j x)) same (here x)

-- of numbers, whose sum is the exclusive or
pub sums_are : (from old new : List ℕ) → length new ≡ length old
    → ((k x : ℕ) → k < length old → get_or new k x ≡ bit_xor (get_or old k x) (get_or from k x))
    → new ≡ tabulate (length old) (λ k. entry_of old k ⊕ entry_of from k)
unfolding ◌⊕◌
sums_are from old new long sums =
    let f = λ (k : ℕ). entry_of old k ⊕ entry_of from k in
    ext_get_or 0 new (tabulate (length old) f) (long ∙ sym (length-tabulate (length old) f))
    (λ k l. sums k 0 (omega arith) ∙ sym (get_d_tabulate (length old) f k 0 (omega arith)))
