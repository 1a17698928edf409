-- The lines of a listing, as the program computes them and prints them one after the other.
use mathlib.Core.Path.{◌≡◌, sym, ap, ap₂, ◌∙◌, subst}
use mathlib.Core.List.{List, ◌++◌}
use Prim.Native.Nat.{ℕ, ◌+◌, ◌≤◌}
use lib.ListN.{length}
use Rattle.algebra.specs.Parts.{joined}
use Rattle.params.specs.declared.Parameters.{Parameters}
use Rattle.parity.specs.Word.{whole}
use Rattle.parity.specs.Columns.{roles_of, message_length}
use Rattle.fields.specs.Fields.{line_length}
use Rattle.fields.specs.Written.{written, written_more, written_over}
use Rattle.fields.specs.Over.{over}
use Rattle.lines.specs.Listing.{code_line, column_line, lines_text, support_of, listing_text, listing_length}
use Rattle.lines.specs.Lengths.{length_code, length_lines}

-- what is computed is the listing's
pub listing_written : (c : Parameters) (h old : List ℕ) {k : ℕ} {support roles new : List ℕ} → k ≡ message_length c h → support ≡ support_of c h
    → roles ≡ roles_of c h (whole c.n) → new ≡ over (lines_text c k h support roles) old → new ≡ over (listing_text c h) old
unfolding listing_text
listing_written c h old {roles = roles} e s r w =
    w ∙ ap₂ (λ (i : ℕ) (l : List ℕ). over (lines_text c i h l roles) old) e s
    ∙ ap (λ (l : List ℕ). over (lines_text c (message_length c h) h (support_of c h) l) old) r

-- the line of the code, and then those of its columns
module _ (c : Parameters) (k : ℕ) (h support roles old : List ℕ) where
  pub lines_written : {p : ℕ} {mid new : List ℕ} → length h ≡ c.n → listing_length c.n ≤ length old
      → mid ≡ written old 0 (code_line c k) → p ≡ 0 + line_length 6
      → new ≡ written mid p (joined (length h) (column_line h support roles)) → new ≡ over (lines_text c k h support roles) old
  unfolding lines_text
  lines_written {p} long fits first at rest =
      let lines = joined c.n (column_line h support roles) in
      rest ∙ ap₂ (λ (x : List ℕ) (i : ℕ). written x p (joined i (column_line h support roles))) first long
      ∙ ap (λ (i : ℕ). written (written old 0 (code_line c k)) i lines) (at ∙ ap (λ (i : ℕ). 0 + i) (sym (length_code c k)))
      ∙ written_more (code_line c k) lines old 0
      ∙ written_over (code_line c k ++ lines) old (subst (λ (i : ℕ). i ≤ length old) (sym (length_lines c k h support roles)) fits)
