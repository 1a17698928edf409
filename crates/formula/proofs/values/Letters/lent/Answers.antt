-- `lent` meets its contract, letter by letter; a byte that is none of the four is no letter.
use mathlib.Core.Path.{◌≡◌, refl, sym, ap, subst, ◌∙◌}
use mathlib.Core.Logic.{◌≢◌}
use mathlib.Core.Bool.{Bool, not, true, false}
use mathlib.Core.List.{List, []}
use Prim.Native.Nat.{ℕ}
use native.Mathlib.Omega.{arith}
use lib.Dec.{eqb}
use lib.ListN.{length}
use denote.Bor.{Bor}
use Rattle.std.specs.Prelude.{Option}
use Rattle.std.specs.Bool.{then_some}
use Rattle.std.specs.Option.{option_copied}
use Rattle.formula.specs.Letters.{Letter, A, B, C, D, letter_byte, Lent, block_of, is_lent}
use Rattle.formula.specs.Lending.{lent}
use Rattle.formula.specs.Callers.{LentFor}
use Rattle.formula.specs.Parser.{Name, token}
use Rattle.formula.proofs.values.Letters.lent.Goals as goal
use Rattle.formula.proofs.values.Letters.lent.Goals.{in-65, in-66, in-67, in-68, in_default}

-- no two letters have the same byte: the parser tells them apart
letter-token : (l : Letter) → token (letter_byte l) ≡ Name l
letter-token A = refl
letter-token B = refl
letter-token C = refl
letter-token D = refl

same-letter : (l k : Letter) → Name l ≡ Name k → l ≡ k
same-letter l k e = cc

same-byte : (l k : Letter) → letter_byte l ≡ letter_byte k → l ≡ k
same-byte l k e = same-letter l k (sym (letter-token l) ∙ ap token e ∙ letter-token k)

now : {a b : Bor (List ℕ)} → a ≡ b → a.now ≡ b.now
now e = ap (λ (x : Bor (List ℕ)). x.now) e

-- what is answered of a block, which stands for a letter or is empty
module _ (β : Lent) {byte : ℕ} (b : Bor (List ℕ)) {empty : Bool} {r : Option (Bor (List ℕ))} (e : empty ≡ eqb (length b.now) 0)
    (z : r ≡ then_some (not empty) b) where
  letter : (l : Letter) → byte ≡ letter_byte l → b.now ≡ block_of β l → LentFor β byte (option_copied r)
  unfolding is_lent
  letter l at same = by empty r e z
    where
      length-same : length b.now ≡ length (block_of β l)
      length-same = ap length same

      by : (t : Bool) (r : Option (Bor (List ℕ))) → t ≡ eqb (length b.now) 0 → r ≡ then_some (not t) b → LentFor β byte (option_copied r)
      by false r e z = rw z (record { block = (l, at, ap not (ap (λ (n : ℕ). eqb n 0) (sym length-same) ∙ sym e), same) })
      by true r e z =
          rw z
          (record {
            block =
                λ k f. subst (λ (x : Letter). is_lent β x ≡ false) (same-byte l k (sym at ∙ f))
                (ap not (ap (λ (n : ℕ). eqb n 0) (sym length-same) ∙ sym e));
          })

  none : ((l : Letter) → byte ≢ letter_byte l) → b.now ≡ [] → LentFor β byte (option_copied r)
  none ne same = rw (z, e, same) (record { block = λ l f. absurd (ne l f) })

pub returns : goal.returns
unfolding is_lent block_of
returns c =
    let β = lent c.args.self.now.blocks in
    let b = c.match-byte.block in
    let e = c.is_empty.ensures in
    let z = c.then_some.ensures in
    elim c.match-byte.branch [
      | in-65 w ↦ letter β b e z A w.in-65.is (now w.block-is)
      | in-66 w ↦ letter β b e z B w.in-66.is (now w.block-is)
      | in-67 w ↦ letter β b e z C w.in-67.is (now w.block-is)
      | in-68 w ↦ letter β b e z D w.in-68.is (now w.block-is)
      | in_default w ↦ none β b e z (λ l. elim l as (λ (k : Letter). c.args.byte ≢ letter_byte k) [ A ↦ omega arith | B ↦ omega arith | C ↦ omega arith | D ↦ omega arith ]) (now w.block-is)
    ]
