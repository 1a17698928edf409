-- How the calls on rows end, over plain numbers and lists: which number is due, and what the buffer then holds.
use mathlib.Core.Path.{◌≡◌, refl, sym, ap, ap₂, ◌∙◌, subst}
use mathlib.Core.Logic.{◌≢◌}
use mathlib.Core.Bool.{true, false}
use mathlib.Core.List.{List, [], ◌∷◌, ◌++◌}
use Prim.Native.Nat.{ℕ, zero, suc, ◌≤◌, ◌<◌}
use native.Mathlib.Omega.{arith}
use borrow.Author.Tests.{le-leb, lt-leb}
use lib.Dec.{leb}
use lib.ListN.{length}
use Rattle.algebra.specs.Lists.{entry_of}
use Rattle.algebra.specs.Places.{chosen}
use Rattle.refusals.specs.Answered.{refused_leaves}
use Rattle.refusals.specs.Ending.{Ended, ended_refused, ended_done}
use Rattle.refusals.specs.Outcome.{Outcome, Done, Refused}
use Rattle.refusals.specs.Rules.{◌unless◌, fault, unless_refused}
use Rattle.refusals.specs.RuleLaws.{fault_here, fault_past, fault_none, fault_first, fault_rest, refuse, accept}
use Rattle.params.specs.declared.Parameters.{Parameters}
use Rattle.basis.specs.Table.{free_at, Carried}
use Rattle.messages.specs.CodeBasis.{MessageColumns, CodeBasis, message_is}
use Rattle.parity.specs.Columns.{dimension, message_of, encoding_of}
use Rattle.nearest.specs.Repair.{repaired_of}
use Rattle.repair.specs.declared.Recovery.{Recovery}
use Rattle.repair.specs.declared.Recovery.TheVariants.{Repaired, Refused as NotRepaired}
use Rattle.repair.specs.Answers.{word_rules, turned_count}
use Rattle.repair.specs.Decoding.{word_answer, Decoded}
use Rattle.gears.specs.declared.Row.{Row}
use Rattle.gears.specs.Rows.{is_row, row_bits, row_message, gear_in, lamp_in, is_row_message, row_of}
use Rattle.gears.specs.Messages.{length_message, message_bits}
use Rattle.rows.specs.declared.Reading.{Reading}
use Rattle.rows.specs.declared.Reading.TheVariants.{Read, Refused as NotRead}
use Rattle.rows.specs.Answers.{write_rules, row_word, carried, read_rules, row_read, reading_answer, reading_after}
use Rattle.rows.proofs.Laws.{read_is, read_apart}
use Rattle.rows.specs.Parts.{ReadInto}

-- ---- what repair's answer says of its rules

module _ {answer : Recovery} (turned : ℕ) where
  refusal_is : (f : ℕ) {number : ℕ} → answer ≡ unless_refused f NotRepaired (Repaired turned) → answer ≡ NotRepaired number
      → (number ≡ f) × (f ≢ 0)
  unfolding unless_refused
  refusal_is zero {number} e is =
      let z : ◌≡◌ {A = ℕ} 0 1 = cc in absurd (omega arith)
  refusal_is (suc f) e is = (cc, λ z. omega arith)

  repair_is : (f : ℕ) {count : ℕ} → answer ≡ unless_refused f NotRepaired (Repaired turned) → answer ≡ Repaired count
      → (f ≡ 0) × (count ≡ turned)
  unfolding unless_refused
  repair_is zero e is = (refl, cc)
  repair_is (suc f) e is = (cc, cc)

-- ---- the rules, where k is the number of message columns

module _ (c : Parameters) (h cols : List ℕ) {k : ℕ} (k-is : k ≡ dimension c h cols) where
  pub narrow : k < row_bits → leb row_bits (dimension c h cols) ≡ false
  narrow l = lt-leb row_bits (dimension c h cols) (subst (λ (i : ℕ). i < row_bits) k-is l)

  pub wide : row_bits ≤ k → leb row_bits (dimension c h cols) ≡ true
  wide l = le-leb row_bits (dimension c h cols) (subst (λ (i : ℕ). row_bits ≤ i) k-is l)

  module _ (gear lamp : ℕ) (old : List ℕ) where
    abbrev Written : Outcome → List ℕ → Type 0
    Written found new = Ended found (write_rules c h cols gear lamp) old (row_word c h cols gear lamp) new

    pub write_narrow : k < row_bits → Written (Refused 12) old
    unfolding write_rules
    write_narrow l = ended_refused {k = 12} (write_rules c h cols gear lamp) old _ (sym (fault_here 12 _ (narrow l))) (λ z. omega arith)

    pub write_no_row : row_bits ≤ k → is_row gear lamp ≡ false → Written (Refused 11) old
    unfolding write_rules
    write_no_row l e =
        ended_refused {k = 11} (write_rules c h cols gear lamp) old _ (sym (fault_past 12 _ (wide l) (fault_here 11 _ e))) (λ z. omega arith)

    pub write_fits : row_bits ≤ k → is_row gear lamp ≡ true → {new : List ℕ} → new ≡ row_word c h cols gear lamp → Written Done new
    unfolding write_rules
    write_fits l e w = ended_done {k = 0} (write_rules c h cols gear lamp) old _ (sym (fault_none _ (wide l, (e, tt)))) refl w

  module _ (received : List ℕ) where
    pub read_narrow : k < row_bits → (old : List ℕ)
        → (NotRead 12 ≡ reading_answer c h cols received) × (old ≡ reading_after c h cols received old)
    unfolding reading_answer reading_after read_rules
    read_narrow l old =
        let f = sym (fault_here 12 _ (narrow l)) in
        (refuse {k = 12} NotRead _ f (λ q. omega arith), refuse {k = 12} (λ i. old) _ f (λ q. omega arith))

    module _ (l : row_bits ≤ k) where
      -- past 12 there are repair's rules, and after those the message's
      past_wide : fault (read_rules c h cols received)
          ≡ fault (word_rules c h cols received ++ (11 unless is_row_message (carried c h cols received)) ∷ [])
      unfolding read_rules
      past_wide = fault_past 12 _ (wide l) refl

      module _ {answer : Recovery} {word : List ℕ} (D : Decoded c h cols received answer word) where
        abbrev Ends : Reading → Type 0
        Ends reading = ReadInto c h cols received reading word

        due_refused : {number : ℕ} → number ≡ fault (read_rules c h cols received) → number ≢ 0 → Ends (NotRead number)
        unfolding reading_answer
        due_refused f broken = record { answer = refuse NotRead _ f broken; repaired = λ z. absurd (broken (f ∙ z)) }

        -- repair's refusal is handed back
        pub not_repaired : {number : ℕ} → answer ≡ NotRepaired number → Ends (NotRead number)
        unfolding word_answer
        not_repaired is =
            let (due, broken) = refusal_is (turned_count c h cols received) (fault (word_rules c h cols received)) D.answer_is is in
            due_refused (due ∙ sym (past_wide ∙ fault_first (word_rules c h cols received) _ broken)) (λ z. broken (sym due ∙ z))

        -- what a repaired word carries decides
        module _ {turned : ℕ} (is : answer ≡ Repaired turned) {message : List ℕ} (said : message ≡ message_of c h cols word) where
          passes : (fault (word_rules c h cols received) ≡ 0) × (turned ≡ turned_count c h cols received)
          unfolding word_answer
          passes = repair_is (turned_count c h cols received) (fault (word_rules c h cols received)) D.answer_is is

          word_is : word ≡ repaired_of c h cols received
          word_is = D.word_is passes.0

          said_is : message ≡ carried c h cols received
          unfolding carried
          said_is = said ∙ ap (message_of c h cols) word_is

          last_rule : fault ((11 unless is_row_message message) ∷ []) ≡ fault (read_rules c h cols received)
          unfolding word_rules
          last_rule =
              ap (λ (x : List ℕ). fault ((11 unless is_row_message x) ∷ [])) said_is
              ∙ sym (past_wide ∙ fault_rest (word_rules c h cols received) _ tt passes.0)

          pub no_row : is_row_message message ≡ false → Ends (NotRead 11)
          no_row e = due_refused (sym (fault_here 11 [] e) ∙ last_rule) (λ q. omega arith)

          pub row_found : is_row_message message ≡ true → {row : Row} → row ≡ row_of (gear_in message) (lamp_in message) → Ends (Read row turned)
          unfolding reading_answer row_read
          row_found e row_is =
              record {
                answer =
                    ap₂ Read (row_is ∙ ap (λ (x : List ℕ). row_of (gear_in x) (lamp_in x)) said_is) passes.1
                    ∙ accept {k = 0} NotRead _ (sym (fault_none ((11 unless is_row_message message) ∷ []) (e, tt)) ∙ last_rule) refl;
                repaired = λ z. word_is;
              }

-- ---- what is copied of the word: nothing where the answer is a refusal, and else the repaired word

module _ {c : Parameters} {h cols received word : List ℕ} where
  pub row_copied : {row : Row} {turned : ℕ} → ReadInto c h cols received (Read row turned) word → (old : List ℕ) {new : List ℕ} → new ≡ word
      → new ≡ reading_after c h cols received old
  unfolding reading_answer reading_after
  row_copied R old e =
      let z = (read_is (fault (read_rules c h cols received)) (sym R.answer)).0 in
      e ∙ R.repaired z ∙ accept {k = 0} (λ k. old) _ (sym z) refl

  pub refused_left : {number : ℕ} → ReadInto c h cols received (NotRead number) word → (old : List ℕ) → old ≡ reading_after c h cols received old
  unfolding reading_answer reading_after row_read
  refused_left R old = sym (refused_leaves NotRead _ (read_apart _ _) (fault (read_rules c h cols received)) old _ (sym R.answer))

-- ---- a word and the message at its free places

-- what is taken out of these is the message that the word carries
pub taken_out : {c : Parameters} {h cols leads : List ℕ} {k : ℕ} → MessageColumns c h cols leads k → {message : List ℕ} (word : List ℕ)
    → message ≡ chosen (length word) (free_at leads) (entry_of word) → length word ≡ length cols → message ≡ message_of c h cols word
taken_out {leads = leads} M word e long = e ∙ ap (λ (i : ℕ). chosen i (free_at leads) (entry_of word)) long ∙ sym (message_is M word)

-- a row's message at these, completed, is the row's word
pub row_carried : {c : Parameters} {h cols rows leads : List ℕ} {k : ℕ} → CodeBasis c h cols rows leads k
    → (gear lamp : ℕ) {long n : ℕ} {new : List ℕ}
    → long ≡ k → n ≡ length cols → length new ≡ n → Carried n rows leads (row_message long gear lamp) new → new ≡ row_word c h cols gear lamp
unfolding row_word
row_carried {c} {h} {cols} {rows} {leads} {k} B gear lamp {long} {n} {new} fits n_is new-long C =
    let here = subst (λ (i : ℕ). Carried (length cols) rows leads (row_message i gear lamp) new) fits
    (subst (λ (i : ℕ). Carried i rows leads (row_message long gear lamp) new) n_is C) in
    B.encodes (row_message k gear lamp) new (length_message k gear lamp) (message_bits k gear lamp) (new-long ∙ n_is) here
    ∙ ap (λ (i : ℕ). encoding_of c h cols (row_message i gear lamp)) B.columns.number
