-- The loop of `named_once`, over plain lists: how it begins, what one turn makes of it, and what it ends with.
use mathlib.Core.Path.{◌≡◌, sym, ap, ◌∙◌, subst}
use mathlib.Core.Logic.{◌≢◌}
use mathlib.Core.Bool.{Bool, true, false, ◌||◌, or-false, false≢true}
use mathlib.Core.List.{List}
use Prim.Native.Nat.{ℕ, suc, ◌+◌, ◌<◌, ◌≤◌}
use native.Mathlib.Nat.{not-suc-le-zero}
use native.Mathlib.Decide.{ℕ_discrete}
use native.Mathlib.Numerals.{add-one}
use native.Mathlib.Omega.{arith}
use lib.Dec.{eqb}
use lib.ListN.{length, get_or, set, replicate, length-set, length-replicate, get_or-replicate}
use lib.Seq.{get_or-set_same, get_or-set_other}
use borrow.Author.Tests.{eqb-true, eq-eqb, ne_eqb}
use Rattle.algebra.specs.All.{some}
use Rattle.algebra.specs.AllLaws.{below_suc, some_is, some-true}
use Rattle.algebra.specs.Distinct.{Distinct, distinct}
use Rattle.algebra.specs.DistinctLaws.{distinct_is}
use Rattle.algebra.specs.Flags.{refuted}
use Rattle.algebra.specs.Lists.{entry_of}
use Rattle.slices.specs.Lengths.{longest}
use Rattle.columns.specs.Fits.{Below}

-- whether one of the first b blocks is x
abbrev met_before : List ℕ → ℕ → ℕ → Bool
met_before blocks b x = some b (λ i. eqb (entry_of blocks i) x)

-- the first b blocks are different, and they are what is marked
pub record Naming (blocks : List ℕ) (named : List Bool) (b : ℕ) : Type 0 where
  pub long : length named ≡ longest
  pub marks : (x : ℕ) → x < longest → get_or named x false ≡ met_before blocks b x
  pub once : Distinct b (entry_of blocks)

pub naming_start : (blocks : List ℕ) → Naming blocks (replicate longest false) 0
unfolding some
naming_start blocks =
    record {
      long = length-replicate longest false;
      marks = λ x l. get_or-replicate longest x false false l;
      once = λ i j l lj. absurd (not-suc-le-zero lj);
    }

module _ {blocks : List ℕ} {named : List Bool} {b : ℕ} (N : Naming blocks named b) (low : Below longest blocks) (l : b < length blocks) where
  -- block b is marked, so it was met before
  pub naming_fails : get_or named (entry_of blocks b) false ≡ true → false ≡ distinct blocks
  naming_fails t =
      let (i, li, e) = some_is b (λ i. eqb (entry_of blocks i) (entry_of blocks b)) (sym (N.marks (entry_of blocks b) (low b l)) ∙ t) in
      sym (refuted (distinct blocks) (λ d. (distinct_is blocks).0 d i b li l (eqb-true (entry_of blocks i) (entry_of blocks b) e)))

  -- block b is not marked, so it is new, and is marked now
  pub naming_turn : get_or named (entry_of blocks b) false ≡ false → Naming blocks (set named (entry_of blocks b) true) (b + 1)
  unfolding some
  naming_turn f =
      record {
        long = length-set named x true ∙ N.long;
        marks = λ y ly. marked y ly (ℕ_discrete y x) ∙ ap (λ (k : ℕ). met_before blocks k y) (sym (add-one b));
        once = λ i j li lj. below_suc (λ (j : ℕ). (i : ℕ) → i < j → entry_of blocks i ≢ entry_of blocks j) b earlier new j (omega arith) i li;
      }
    where
      x : ℕ
      x = entry_of blocks b

      marked : (y : ℕ) → y < longest → Dec (y ≡ x) → get_or (set named x true) y false ≡ met_before blocks (suc b) y
      marked y ly (yes e) =
          ap (λ (y : ℕ). get_or (set named x true) y false) e
          ∙ get_or-set_same named x true false (subst (λ (n : ℕ). x < n) (sym N.long) (low b l))
          ∙ sym (some-true (suc b) (λ i. eqb (entry_of blocks i) y) b (omega arith) (eq-eqb x y (sym e)))
      marked y ly (no ne) =
          get_or-set_other named x y true false ne
          ∙ N.marks y ly
          ∙ sym (ap (λ (a : Bool). met_before blocks b y || a) (ne_eqb x y (λ e. ne (sym e))) ∙ or-false (met_before blocks b y))

      earlier : (j : ℕ) → j < b → (i : ℕ) → i < j → entry_of blocks i ≢ entry_of blocks j
      earlier j lj i li = N.once i j li lj

      new : (i : ℕ) → i < b → entry_of blocks i ≢ x
      new i li e =
          false≢true (sym f ∙ N.marks x (low b l) ∙ some-true b (λ i. eqb (entry_of blocks i) x) i li (eq-eqb (entry_of blocks i) x e))

pub naming_end : {blocks : List ℕ} {named : List Bool} {b : ℕ} → Naming blocks named b → length blocks ≤ b → true ≡ distinct blocks
naming_end {blocks} N h = sym ((distinct_is blocks).1 (λ i j l lj. N.once i j l (omega arith)))
