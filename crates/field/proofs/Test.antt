-- "That each is a field is shown with the table": one test, computed over the whole table, and one law that carries it to each width.
-- The test makes about m² products a word (the traces of m powers of u), so it stays cheap at widths where trying every element would not be.
use Rattle.std.specs.Prelude.{◌≡◌, refl, Bool, true, ◌&&◌, List, [], ◌∷◌, ℕ, zero, suc, ◌+◌, ◌-◌, ◌^◌, ◌≤◌, ◌<◌, leb, ltb, eqb, length, get_or, drop}
use Rattle.std.proofs.Common.{sym, ◌∙◌, subst, add-zero, add-suc, suc-add, le_of_suc-le-suc, not-suc-le-zero, arith, leb-true, ltb-true, eqb-true, get_or-drop}
use Rattle.field.specs.Product.{product, poly_product, cut_back, remainder}
use Rattle.field.specs.Horner.{times_u}
use Rattle.field.specs.Inverse.{power, squared, trace, IsField}
use Rattle.field.specs.Words.{narrowest, widest, words, word}
use Rattle.algebra.specs.Xor.{◌⊕◌}
use Rattle.algebra.specs.All.{all, some}
use Rattle.algebra.specs.Flags.{both_true}
use Rattle.algebra.specs.AllLaws.{all_is, some_is}

-- the four facts of `IsField`, as one test
passes : ℕ → ℕ → Bool
passes m w =
    leb 2 m && (leb (2 ^ m) w && (ltb w (2 ^ suc m) && (eqb (squared m w m 2) 2
    && (all m (λ i. ltb (trace m w m (power m w i)) 2) && some m (λ i. eqb (trace m w m (power m w i)) 1)))))

passes_sound : (m w : ℕ) → passes m w ≡ true → IsField m w
unfolding passes
passes_sound m w t =
    let (t₀, u₁) = both_true (leb 2 m) (leb (2 ^ m) w && rest₁) t in
    let (t₁, u₂) = both_true (leb (2 ^ m) w) rest₁ u₁ in
    let (t₂, u₃) = both_true (ltb w (2 ^ suc m)) rest₂ u₂ in
    let (t₃, u₄) = both_true (eqb (squared m w m 2) 2) rest₃ u₃ in
    let (t₄, t₅) = both_true (all m bit) (some m unit) u₄ in
    let l : 2 ≤ m = leb-true 2 m t₀ in
    let (i, h, e) = some_is m unit t₅ in
    record {
      two = l;
      degree = record { positive = omega arith; monic = leb-true (2 ^ m) w t₁; top = ltb-true w (2 ^ suc m) t₂ };
      fixes_u = eqb-true (squared m w m 2) 2 t₃;
      trace_bit = λ i h. ltb-true (trace m w m (power m w i)) 2 (all_is m bit t₄ i h);
      some_trace = (i, eqb-true (trace m w m (power m w i)) 1 e);
    }
  where
    bit : ℕ → Bool
    bit i = ltb (trace m w m (power m w i)) 2

    unit : ℕ → Bool
    unit i = eqb (trace m w m (power m w i)) 1

    rest₃ : Bool
    rest₃ = all m bit && some m unit

    rest₂ : Bool
    rest₂ = eqb (squared m w m 2) 2 && rest₃

    rest₁ : Bool
    rest₁ = ltb w (2 ^ suc m) && rest₂

-- ---- the test at every entry of a list, the first having the width i

every : ℕ → List ℕ → Bool
every i [] = true
every i (w ∷ ws) = passes i w && every (suc i) ws

carried : (ws : List ℕ) (i : ℕ) → every i ws ≡ true → (k : ℕ) → k < length ws → passes (i + k) (get_or ws k 0) ≡ true
unfolding every
carried [] i t k h = absurd (not-suc-le-zero h)
carried (w ∷ ws) i t zero h = subst (λ (n : ℕ). passes n w ≡ true) (sym (add-zero i)) (both_true (passes i w) (every (suc i) ws) t).0
carried (w ∷ ws) i t (suc k) h =
    subst (λ (n : ℕ). passes n (get_or ws k 0) ≡ true) (suc-add i k ∙ sym (add-suc i k))
    (carried ws (suc i) (both_true (passes i w) (every (suc i) ws) t).1 k (le_of_suc-le-suc h))

table_passes : every narrowest (drop narrowest words) ≡ true
unfolding every words passes all some power squared trace times_u product poly_product cut_back remainder ◌⊕◌
table_passes = refl

pub word_is_field : (m : ℕ) → narrowest ≤ m → m ≤ widest → IsField m (word m)
unfolding word words
word_is_field m l h =
    passes_sound m (word m)
    (subst (λ (n : ℕ). passes n (get_or words n 0) ≡ true) from_narrowest
    (subst (λ (x : ℕ). passes (narrowest + (m - narrowest)) x ≡ true) (get_or-drop narrowest words (m - narrowest) 0)
    (carried (drop narrowest words) narrowest table_passes (m - narrowest) (omega arith))))
  where
    from_narrowest : narrowest + (m - narrowest) ≡ m
    from_narrowest = omega arith
