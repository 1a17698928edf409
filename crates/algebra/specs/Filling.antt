-- A loop that stores f i at i: what is filled, and what is still as it was.
use Rattle.std.specs.Prelude.{◌≡◌, ℕ, suc, ◌+◌, ◌-◌, ◌<◌, ◌≤◌}
use Rattle.std.proofs.Math.Path.{refl, sym, ap, ap₂}
use Rattle.std.proofs.Common.{◌∙◌, subst, le_of_eq, add-one, length-drop, drop_of_length-le, drop-cons, ext_get_or}
use mathlib.Core.List.{List, [], ◌∷◌, ◌++◌, append_assoc, append-nil}
use Rattle.std.proofs.Math.Decide.{dec_lt}
use native.Mathlib.Omega.{arith}
use Rattle.std.proofs.Math.ListN.{length, get_or, drop, set, length-append, get_or-append}
use Rattle.std.proofs.Math.Seq.{get_or-append-add, get_or-drop, set_at}
use Rattle.algebra.specs.Tabulate.{tabulate}
use Rattle.algebra.specs.TabulateLaws.{length-tabulate, get_d_tabulate}

module _ {A : Type 0} where
  unfoldable pub filled : (ℕ → A) → ℕ → List A → List A
  filled f i old = tabulate i f ++ drop i old

  pub filled_start : (f : ℕ → A) (old : List A) → old ≡ filled f 0 old
  unfolding filled tabulate
  filled_start f old = refl

  pub filled_turn : (f : ℕ → A) (i : ℕ) (old : List A) → i < length old → set (filled f i old) i (f i) ≡ filled f (i + 1) old
  unfolding filled tabulate
  filled_turn f i old h =
      ap (λ (l : List A). set (tabulate i f ++ l) i (f i)) (drop-cons old i (f i) h)
      ∙ set_at (tabulate i f) (get_or old i (f i)) (drop (suc i) old) (f i) i (length-tabulate i f)
      ∙ sym (append_assoc (tabulate i f) (f i ∷ []) (drop (suc i) old))
      ∙ ap (λ (k : ℕ). tabulate k f ++ drop k old) (sym (add-one i))

  pub filled_end : (f : ℕ → A) (n : ℕ) (old : List A) → length old ≡ n → filled f n old ≡ tabulate n f
  unfolding filled
  filled_end f n old h =
      ap (λ (l : List A). tabulate n f ++ l) (drop_of_length-le old (le_of_eq h)) ∙ append-nil (tabulate n f)

  pub length-filled : (f : ℕ → A) (i : ℕ) (old : List A) → i ≤ length old → length (filled f i old) ≡ length old
  unfolding filled
  length-filled f i old h = length-append (tabulate i f) (drop i old) ∙ ap₂ (λ (x y : ℕ). x + y) (length-tabulate i f) (length-drop i old)
      ∙ omega arith

  -- what a loop has stored stands at its place
  pub get_or_stored : (f : ℕ → A) (n : ℕ) (old : List A) (i : ℕ) (d : A) → i < n → get_or (filled f n old) i d ≡ f i
  unfolding filled
  get_or_stored f n old i d h =
      get_or-append (tabulate n f) (drop n old) d i (subst (λ (k : ℕ). i < k) (sym (length-tabulate n f)) h) ∙ get_d_tabulate n f i d h

  -- what is not yet filled is still there
  pub get_or-filled : (f : ℕ → A) (i : ℕ) (old : List A) (j : ℕ) (d : A) → i ≤ j → get_or (filled f i old) j d ≡ get_or old j d
  unfolding filled
  get_or-filled f i old j d h =
      let apart : length (tabulate i f) + (j - i) ≡ j = ap (λ (k : ℕ). k + (j - i)) (length-tabulate i f) ∙ together in
      ap (λ (k : ℕ). get_or (tabulate i f ++ drop i old) k d) (sym apart) ∙ get_or-append-add (tabulate i f) (drop i old) (j - i) d
      ∙ get_or-drop i old (j - i) d ∙ ap (λ (k : ℕ). get_or old k d) together
    where
      together : i + (j - i) ≡ j
      together = omega arith

  -- a second loop over the same places leaves nothing of the first
  pub filled_again : (f g : ℕ → A) (n : ℕ) (old : List A) (d : A) → n ≤ length old → filled f n (filled g n old) ≡ filled f n old
  filled_again f g n old d l =
      let first : length (filled g n old) ≡ length old = length-filled g n old l in
      let second : length (filled f n (filled g n old)) ≡ length (filled g n old) = length-filled f n (filled g n old) (omega arith) in
      ext_get_or d (filled f n (filled g n old)) (filled f n old) (second ∙ first ∙ sym (length-filled f n old l)) (λ j lj. at j (dec_lt j n))
    where
      at : (j : ℕ) → Dec (j < n) → get_or (filled f n (filled g n old)) j d ≡ get_or (filled f n old) j d
      at j (yes lj) = get_or_stored f n (filled g n old) j d lj ∙ sym (get_or_stored f n old j d lj)
      at j (no nl) =
          get_or-filled f n (filled g n old) j d (omega arith) ∙ get_or-filled g n old j d (omega arith) ∙ sym (get_or-filled f n old j d (omega arith))

  -- ---- the same as an invariant: `now` is what the loop has made of `old`, of n entries, when i are filled

  pub record Filling (f : ℕ → A) (n : ℕ) (old now : List A) (i : ℕ) : Type 0 where
    pub bound : i ≤ n
    pub long : length old ≡ n
    pub so_far : now ≡ filled f i old

  pub filling_start : (f : ℕ → A) (n : ℕ) (old : List A) → length old ≡ n → Filling f n old old 0
  filling_start f n old h = record { bound = omega arith; long = h; so_far = filled_start f old }

  module _ {f : ℕ → A} {n : ℕ} {old now : List A} {i : ℕ} (F : Filling f n old now i) where
    pub filling_length : length now ≡ length old
    filling_length = ap length F.so_far ∙ length-filled f i old (subst (λ (k : ℕ). i ≤ k) (sym F.long) F.bound)

    pub filling_index : i < n → i < length now
    filling_index l = subst (λ (k : ℕ). i < k) (sym (filling_length ∙ F.long)) l

    pub filling_turn : {v : A} → i < n → v ≡ f i → Filling f n old (set now i v) (i + 1)
    filling_turn {v} l e =
        record {
          bound = omega arith;
          long = F.long;
          so_far = ap₂ (λ (x : List A) (y : A). set x i y) F.so_far e ∙ filled_turn f i old (subst (λ (k : ℕ). i < k) (sym F.long) l);
        }

    -- what is not yet filled is still there
    pub filling_old : (j : ℕ) (d : A) → i ≤ j → get_or now j d ≡ get_or old j d
    filling_old j d h = ap (λ (l : List A). get_or l j d) F.so_far ∙ get_or-filled f i old j d h

    pub filling_end : n ≤ i → now ≡ tabulate n f
    filling_end h =
        let whole : i ≡ n = omega (arith, F.bound) in
        F.so_far ∙ ap (λ (k : ℕ). filled f k old) whole ∙ filled_end f n old F.long
