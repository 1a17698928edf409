-- What a sender is marked with, and what it is answered and handed by its mark, over plain numbers and lists.
use mathlib.Core.Path.{◌≡◌, refl, sym, ap, ◌∙◌, subst}
use mathlib.Core.Logic.{◌≢◌}
use mathlib.Core.Bool.{Bool, true, false, cond}
use mathlib.Core.List.{List}
use Prim.Native.Nat.{ℕ, ◌+◌, ◌*◌, ◌<◌, ◌≤◌}
use native.Mathlib.Omega.{arith}
use lib.ListN.{length, set}
use borrow.Author.Tests.{eq-eqb, ne_eqb}
use Rattle.algebra.specs.Filling.{Filling, filling_turn, filling_old}
use Rattle.algebra.specs.Lists.{entry_of}
use Rattle.algebra.specs.Parts.{part}
use Rattle.algebra.specs.PartLaws.{part_room, length_part, Wide}
use Rattle.slices.specs.Bits.{IsBits}
use Rattle.params.specs.declared.Parameters.{Parameters}
use Rattle.parity.specs.Selected.{OnColumns}
use Rattle.parity.specs.Word.{is_code_word}
use Rattle.repair.specs.declared.Recovery.{Recovery}
use Rattle.repair.specs.Decoding.{word_answer, word_after}
use Rattle.repair.proofs.Decoding.{code_word_decoded, repaired_copied}
use Rattle.turns.specs.declared.Mark.{Mark}
use Rattle.turns.specs.declared.Mark.TheVariants.{Stays, CodeWord, Other}
use Rattle.turns.specs.Marks.{stays, mark_in}
use Rattle.wire.specs.Wire.{recovery_code}
use Rattle.scheduler.specs.Round.{none}
use Rattle.scheduler.specs.RoundLaws.{length_after}
use Rattle.scheduler.specs.Parts.{mark_of, answer_of, handed_of, LentHands}

-- ---- marks

module _ (c : Parameters) (h cols : List ℕ) {wait : ℕ} (word : List ℕ) where
  pub mark_none : wait ≢ 1 → Stays ≡ mark_of c h cols wait word
  unfolding mark_of
  mark_none ne = ap (λ (b : Bool). cond b (cond (is_code_word c h cols word) CodeWord Other) Stays) (sym (ne_eqb wait 1 ne))

  waiting_mark : wait ≡ 1 → {b : Bool} → is_code_word c h cols word ≡ b → cond b CodeWord Other ≡ mark_of c h cols wait word
  unfolding mark_of
  waiting_mark e is =
      ap (λ (b : Bool). cond b CodeWord Other) (sym is)
      ∙ ap (λ (b : Bool). cond b (cond (is_code_word c h cols word) CodeWord Other) Stays) (sym (eq-eqb wait 1 e))

  pub mark_code_word : wait ≡ 1 → is_code_word c h cols word ≡ true → CodeWord ≡ mark_of c h cols wait word
  mark_code_word e is = waiting_mark e is

  pub mark_other : wait ≡ 1 → is_code_word c h cols word ≡ false → Other ≡ mark_of c h cols wait word
  mark_other e is = waiting_mark e is

-- ---- one sender

module _ (c : Parameters) (h cols : List ℕ) (mark : Mark) (word old : List ℕ) where
  pub none_handed : stays mark ≡ true → (none ≡ answer_of c h cols mark word) × (old ≡ handed_of c h cols mark word old)
  unfolding answer_of handed_of
  none_handed e = (
    ap (λ (b : Bool). cond b none (recovery_code (word_answer c h cols word))) (sym e),
    ap (λ (b : Bool). cond b old (word_after c h cols word old)) (sym e),
  )

  pub some_handed : {recovery : Recovery} {answer : ℕ} {new : List ℕ} → stays mark ≡ false → answer ≡ recovery_code recovery
      → recovery ≡ word_answer c h cols word → new ≡ word_after c h cols word old
      → (answer ≡ answer_of c h cols mark word) × (new ≡ handed_of c h cols mark word old)
  unfolding answer_of handed_of
  some_handed ne shown is copied = (
    shown ∙ ap recovery_code is ∙ ap (λ (b : Bool). cond b none (recovery_code (word_answer c h cols word))) (sym ne),
    copied ∙ ap (λ (b : Bool). cond b old (word_after c h cols word old)) (sym ne),
  )

  -- a code word is its own repair
  pub code_word_handed : OnColumns c h cols → IsBits (length cols) word → is_code_word c h cols word ≡ true → stays mark ≡ false → {new : List ℕ}
      → new ≡ word → (0 ≡ answer_of c h cols mark word) × (new ≡ handed_of c h cols mark word old)
  code_word_handed O bits is ne copied =
      let D = code_word_decoded O word bits refl is in some_handed ne refl D.answer_is (repaired_copied D old copied)

module _ {c : Parameters} {h cols : List ℕ} {marks : List Mark} {words answers handed : List ℕ} (L : LentHands c h cols marks words answers handed)
  where
    -- a place of the answers is one of the marks
    pub taken_in : {p : ℕ} → p < length answers → p < length marks
    taken_in l = omega (arith, L.answers_long)

    pub all_taken : {p : ℕ} → length answers ≤ p → length marks ≤ p
    all_taken l = omega (arith, L.answers_long)

    -- what is handed to each sender fits its part
    pub handed_wide : Wide (length cols) (λ p. handed_of c h cols (mark_in marks p) (part (length cols) words p) (part (length cols) handed p)) (length marks)
    unfolding handed_of
    handed_wide p l = either (stays (mark_in marks p))
      where
        old : length (part (length cols) handed p) ≡ length cols
        old =
            length_part (length cols) handed p
            (subst (λ (x : ℕ). p * length cols + length cols ≤ x) (sym L.handed_long) (part_room (length cols) l))

        either : (b : Bool)
            → length (cond b (part (length cols) handed p) (word_after c h cols (part (length cols) words p) (part (length cols) handed p))) ≡ length cols
        either true = old
        either false = length_after c h cols (part (length cols) words p) (part (length cols) handed p) old

-- ---- who no longer waits

abbrev pub kept_mark : List Mark → List ℕ → ℕ → ℕ
kept_mark marks waiting p = cond (stays (mark_in marks p)) (entry_of waiting p) 0

module _ (marks : List Mark) {waiting now : List ℕ} {n p : ℕ} (F : Filling (kept_mark marks waiting) n waiting now p) (l : p < n) where
  pub dismissed : stays (mark_in marks p) ≡ false → Filling (kept_mark marks waiting) n waiting (set now p 0) (p + 1)
  dismissed ne = filling_turn F l (ap (λ (b : Bool). cond b (entry_of waiting p) 0) (sym ne))

  pub kept : stays (mark_in marks p) ≡ true → Filling (kept_mark marks waiting) n waiting (set now p (entry_of now p)) (p + 1)
  kept e = filling_turn F l (filling_old F p 0 (omega arith) ∙ ap (λ (b : Bool). cond b (entry_of waiting p) 0) (sym e))

-- the same of a list that was computed another way
pub filling_as : {f : ℕ → ℕ} {n : ℕ} {old now now' : List ℕ} {i : ℕ} → now' ≡ now → Filling f n old now i → Filling f n old now' i
filling_as {f} {n} {old} {i = i} e F = subst (λ (x : List ℕ). Filling f n old x i) (sym e) F
