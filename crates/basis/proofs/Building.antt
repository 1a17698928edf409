-- A packed row that is built bit by bit: the places passed hold what they should, and the others nothing.
use mathlib.Core.Path.{◌≡◌, sym, ap, ◌∙◌, subst}
use mathlib.Core.List.{List}
use Prim.Native.Nat.{ℕ, ◌+◌, ◌*◌, ◌≤◌, ◌<◌}
use native.Mathlib.Nat.{not-suc-le-zero, le_refl}
use native.Mathlib.Omega.{arith}
use borrow.Author.Count.{below_more}
use lib.ListN.{length, get_or, replicate}
use Rattle.std.proofs.lemmas.List.{length-replicate, get_or-replicate}
use Rattle.algebra.specs.Tabulate.{tabulate}
use Rattle.algebra.specs.TabulateLaws.{tabulate-get_or, tabulate_cong}
use Rattle.algebra.specs.Xor.{◌⊕◌}
use Rattle.algebra.specs.XorLaws.{zero-⊕}
use Rattle.basis.specs.Packed.{packed_bit, Packs, Cleared, cleared, Marked}

pub record Building (f : ℕ → ℕ) (n : ℕ) (row : List ℕ) (j : ℕ) : Type 0 where
  pub room : n ≤ length row * 64
  pub bound : j ≤ n
  pub done : Packs j f row
  pub empty : (q : ℕ) → j ≤ q → q < n → packed_bit row q ≡ 0

zeros : (n : ℕ) → replicate {A = ℕ} n 0 ≡ tabulate n (λ (i : ℕ). 0)
zeros n =
    sym (tabulate-get_or (replicate n 0) 0)
    ∙ ap (λ (k : ℕ). tabulate k (λ i. get_or (replicate n 0) i 0)) (length-replicate n 0)
    ∙ tabulate_cong n (λ i l. get_or-replicate n i 0 0 l)

-- a row that is filled with zeros
pub filled : (old : List ℕ) {row : List ℕ} → row ≡ replicate (length old) 0 → Cleared old row
filled old e = subst (Cleared old) (sym (e ∙ zeros (length old))) (cleared old)

pub building_start : (f : ℕ → ℕ) (n : ℕ) {old row : List ℕ} → n ≤ length old * 64 → Cleared old row → Building f n row 0
building_start f n h c =
    record {
      room = subst (λ (k : ℕ). n ≤ k * 64) (sym c.long) h;
      bound = omega arith;
      done = λ q l. absurd (not-suc-le-zero l);
      empty = λ q a l. c.empty q (omega arith);
    }

module _ {f : ℕ → ℕ} {n : ℕ} {row : List ℕ} {j : ℕ} (B : Building f n row j) where
  pub building_turn : {b : ℕ} {new : List ℕ} → j < n → b ≡ f j → Marked row j b new → Building f n new (j + 1)
  building_turn {b} {new} l e k =
      record {
        room = subst (λ (i : ℕ). n ≤ i * 64) (sym k.long) B.room;
        bound = omega arith;
        done =
            below_more (λ (q : ℕ). packed_bit new q ≡ f q) j (λ q a. k.other q (λ z. omega arith) ∙ B.done q a)
            (k.at ∙ ap (λ (x : ℕ). x ⊕ b) (B.empty j (le_refl j) l) ∙ zero-⊕ b ∙ e);
        empty = λ q a m. k.other q (λ z. omega arith) ∙ B.empty q (omega arith) m;
      }
