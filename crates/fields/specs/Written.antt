-- A buffer with a text stored in it from some place on.
use Rattle.std.specs.Prelude.{◌≡◌, refl, List, [], ◌∷◌, ◌++◌, ℕ, suc, ◌+◌, ◌≤◌, ◌<◌, length, drop, set}
use Rattle.std.proofs.Common.{sym, ap, ◌∙◌, append-nil, add-zero, add-suc, suc-add, zero-add, le_of_eq, arith, drop_of_length-le}
use Rattle.std.proofs.lemmas.List.Edits.{sets, sets-eq}
use Rattle.std.proofs.Math.Seq.{length-sets}
use Rattle.std.proofs.lemmas.List.{set_comm}
use Rattle.fields.specs.Over.{over}

unfoldable pub written : List ℕ → ℕ → List ℕ → List ℕ
written old at text = sets old at text

pub length-written : (old : List ℕ) (at : ℕ) (text : List ℕ) → length (written old at text) ≡ length old
unfolding written
length-written old at text = length-sets old at text

pub written_none : (old : List ℕ) (at : ℕ) → old ≡ written old at []
unfolding written
written_none old at = refl

pub written_one : (old : List ℕ) (at x : ℕ) → set old at x ≡ written old at (x ∷ [])
unfolding written
written_one old at x = refl

pub written_more : (a b old : List ℕ) (at : ℕ) → written (written old at a) (at + length a) b ≡ written old at (a ++ b)
unfolding written
written_more [] b old at = ap (λ (k : ℕ). sets old k b) (add-zero at)
written_more (x ∷ a) b old at =
    ap (λ (k : ℕ). sets (sets (set old at x) (suc at) a) k b) (add-suc at (length a) ∙ sym (suc-add at (length a)))
    ∙ written_more a b (set old at x) (suc at)

-- a store in front of what was stored already
pub written_front : (text old : List ℕ) (at x : ℕ) → set (written old (suc at) text) at x ≡ written old at (x ∷ text)
unfolding written
written_front text old at x = earlier text old (suc at) (omega arith)
  where
    earlier : (vs l : List ℕ) (j : ℕ) → at < j → set (sets l j vs) at x ≡ sets (set l at x) j vs
    earlier [] l j h = refl
    earlier (v ∷ vs) l j h =
        earlier vs (set l j v) (suc j) (omega arith) ∙ ap (λ (k : List ℕ). sets k (suc j) vs) (set_comm l j at v x (λ e. omega arith))

pub written_over : (text old : List ℕ) → length text ≤ length old → written old 0 text ≡ over text old
unfolding written over
written_over text old h =
    sets-eq text old 0 (omega arith) ∙ ap (λ (k : ℕ). text ++ drop k old) (zero-add (length text))

pub written_whole : (text old : List ℕ) → length text ≡ length old → written old 0 text ≡ text
unfolding over
written_whole text old e =
    written_over text old (le_of_eq e)
    ∙ ap (λ (l : List ℕ). text ++ l) (drop_of_length-le old (le_of_eq (sym e))) ∙ append-nil text
