-- The loop that copies the entries of a list to another: what an entry becomes, and that all of them make the list.
use Rattle.std.proofs.Common.{◌≡◌, refl, sym, ◌∙◌, List, [], ◌∷◌, ℕ, ◌<◌, ◌≤◌, length, get_or, arith, ext_get_or}
use Rattle.slices.proofs.Adding.{Adding}

module _ {A : Type 0} where
  -- an entry becomes the other list's
  abbrev pub taken : A → A → A → Type 0
  taken old other new = new ≡ other

  empty : (l : List A) → length l ≡ 0 → l ≡ []
  empty [] e = refl
  empty (x ∷ xs) e = absurd (omega arith)

  pub copied : (from old : List A) {now : List A} {i : ℕ} → length old ≡ length from → Adding taken from old now i → length old ≤ i → now ≡ from
  copied [] old same G whole = empty _ (G.long ∙ same)
  copied (y ∷ ys) old same G whole = ext_get_or y _ (y ∷ ys) (G.long ∙ same) (λ k l. G.passed k y (omega arith))
