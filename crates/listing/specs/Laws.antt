-- Laws of the answers: what a call says that it stored is in its buffer, and room for the longest listing is room for whatever is printed.
use Rattle.std.specs.Prelude.{◌≡◌, Bool, true, false, ℕ, ◌≤◌, ◌<◌, leb}
use Rattle.std.proofs.Math.Path.{refl, sym, ap}
use Rattle.std.proofs.Common.{◌∙◌, subst, leb-true, leb-false, le-leb}
use mathlib.Core.List.{List, [], ◌∷◌}
use Rattle.std.proofs.Math.Decide.{ℕ_discrete}
use native.Mathlib.Omega.{arith}
use Rattle.std.proofs.Math.ListN.{length}
use Rattle.std.proofs.lemmas.Bool.{lt-leb}
use Rattle.refusals.specs.RuleLaws.{fault_here, fault_past, fault_empty, refuse, accept}
use Rattle.params.proofs.Accepted.{n_short}
use Rattle.fields.specs.Fields.{line_text}
use Rattle.fields.specs.Reading.{length_line}
use Rattle.fields.specs.Over.{over}
use Rattle.sheets.specs.Sheet.{sheet_parameters, sheet_h}
use Rattle.sheets.specs.Fault.{sheet_fault}
use Rattle.sheets.specs.Laws.{sheet_accepted}
use Rattle.lines.specs.Lengths.{length_listing}
use Rattle.refusals.specs.Counted.{Count, Refused}
use Rattle.lines.specs.Listing.{longest_listing}
use Rattle.listing.specs.Answers.{room_rules, stored_answer, stored_after, sheet_listing, printed_text, printed_answer}

-- ---- a text for a buffer

module _ (text out : List ℕ) where
  pub stored_short : length out < length text → (Refused 2 ≡ stored_answer text out) × (out ≡ stored_after text out)
  unfolding stored_answer stored_after room_rules
  stored_short l =
      let due = sym (fault_here 2 [] (lt-leb (length text) (length out) l)) in
      (refuse Refused (Count (length text)) due (λ z. omega arith), refuse (λ k. out) (over text out) due (λ z. omega arith))

  pub stored_done : {k : ℕ} {new : List ℕ} → length text ≤ length out → k ≡ length text → new ≡ over text out
      → (Count k ≡ stored_answer text out) × (new ≡ stored_after text out)
  unfolding stored_answer stored_after room_rules
  stored_done l e w =
      let none = fault_past 2 [] (le-leb (length text) (length out) l) fault_empty in
      (ap Count e ∙ accept Refused (Count (length text)) refl none, w ∙ accept (λ k. out) (over text out) refl none)

  pub stored_fits : (k : ℕ) → stored_answer text out ≡ Count k → k ≤ length out
  stored_fits k e = decided (leb (length text) (length out)) refl
    where
      decided : (b : Bool) → leb (length text) (length out) ≡ b → k ≤ length out
      decided true t =
          let done : Count (length text) ≡ Count k = (stored_done (leb-true (length text) (length out) t) refl refl).0 ∙ e in
          let same : length text ≡ k = cc in
          subst (λ (i : ℕ). i ≤ length out) same (leb-true (length text) (length out) t)
      decided false f =
          let refused : Refused 2 ≡ Count k = (stored_short (leb-false (length text) (length out) f)).0 ∙ e in
          let z : ◌≡◌ {A = ℕ} 0 1 = cc in absurd (omega arith)

-- ---- what is printed

module _ (text : List ℕ) where
  pub printed_short : length (printed_text text) ≤ longest_listing
  unfolding printed_text sheet_listing
  printed_short = decided (ℕ_discrete (sheet_fault text) 0)
    where
      decided : Dec (sheet_fault text ≡ 0) → length (printed_text text) ≤ longest_listing
      decided (yes z) =
          omega (
            arith,
            ap length (accept (λ k. line_text (k ∷ [])) (sheet_listing text) refl z),
            length_listing (sheet_parameters text) (sheet_h text),
            n_short (sheet_accepted text z).limits,
          )
      decided (no ne) =
          omega (arith, ap length (refuse (λ k. line_text (k ∷ [])) (sheet_listing text) refl ne), length_line (sheet_fault text ∷ []))

  pub printed_done : (out : List ℕ) → longest_listing ≤ length out → printed_answer text out ≡ Count (length (printed_text text))
  unfolding printed_answer
  printed_done out l = sym (stored_done (printed_text text) out (omega (arith, printed_short)) refl refl).0
