-- What the calls on words answer, and what they leave in the lent buffers, for every input, at each setting: for the whole code, or for a selection
-- of its blocks, each without its hidden places.
use Rattle.std.specs.Prelude.{true, ◌&&◌, List, [], ◌∷◌, ◌++◌, ℕ, eqb, length}
use Rattle.refusals.specs.Counted.{Counted}
use Rattle.refusals.specs.Counted.{Count, Refused as NotCounted}
use Rattle.refusals.specs.Outcome.{Outcome}
use Rattle.refusals.specs.Outcome.{Done, Refused}
use Rattle.refusals.specs.Rules.{Rule, ◌unless◌, fault, unless_refused}
use Rattle.slices.specs.Bits.{all_bits}
use Rattle.params.specs.declared.Parameters.{Parameters}
use Rattle.parity.specs.Word.{syndrome_of}
use Rattle.parity.specs.Columns.{roles_of, dimension, message_of, encoding_of}
use Rattle.columns.specs.Choice.{all_places, all_columns, choice_rules}
use Rattle.shortened.specs.Marks.{sent_dimension, mark_rules}
use Rattle.shortened.specs.Setting.{Setting, places, columns_of, is_marked, setting_rules}
use Rattle.messages.specs.MessageRules.{message_rules}

-- 8
unfoldable pub bit_rules : List ℕ → List Rule
bit_rules word = (8 unless all_bits word) ∷ []

module _ (c : Parameters) (h : List ℕ) (s : Setting) where
  -- ---- roles

  -- `out` has a byte for each place, hidden or sent, so that its length is tested with that of the marks
  unfoldable pub roles_rules : List ℕ → List Rule
  roles_rules out =
      choice_rules c h s.choice true (is_marked c s && eqb (length out) (all_places c s.choice))
      ++ mark_rules c h (all_columns c s.choice) s.hidden true

  unfoldable pub roles_fault : List ℕ → ℕ
  roles_fault out = fault (roles_rules out)

  -- "k counts sent message columns only"
  unfoldable pub roles_answer : List ℕ → Counted
  roles_answer out = unless_refused (roles_fault out) NotCounted (Count (sent_dimension c h (all_columns c s.choice) s.hidden))

  -- a role for each place, so that a fitter sees which may be hidden
  unfoldable pub roles_after : List ℕ → List ℕ
  roles_after out = unless_refused (roles_fault out) (λ k. out) (roles_of c h (all_columns c s.choice))

  -- ---- syndrome

  unfoldable pub syndrome_fault : List ℕ → List ℕ → ℕ
  syndrome_fault word out = fault (setting_rules c h s (eqb (length out) c.t) (eqb (length word) (places s)) ++ bit_rules word)

  unfoldable pub syndrome_answer : List ℕ → List ℕ → Outcome
  syndrome_answer word out = unless_refused (syndrome_fault word out) Refused Done

  unfoldable pub syndrome_after : List ℕ → List ℕ → List ℕ
  syndrome_after word out = unless_refused (syndrome_fault word out) (λ k. out) (syndrome_of c h (columns_of c s) word)

  -- ---- encoding and message

  unfoldable pub encode_fault : List ℕ → List ℕ → ℕ
  encode_fault message word =
      fault (setting_rules c h s true (eqb (length word) (places s))
      ++ message_rules (dimension c h (columns_of c s)) (length message) (all_bits message))

  unfoldable pub encode_answer : List ℕ → List ℕ → Outcome
  encode_answer message word = unless_refused (encode_fault message word) Refused Done

  unfoldable pub encode_after : List ℕ → List ℕ → List ℕ
  encode_after message word = unless_refused (encode_fault message word) (λ k. word) (encoding_of c h (columns_of c s) message)

  unfoldable pub message_fault : List ℕ → List ℕ → ℕ
  message_fault word message =
      fault (setting_rules c h s true (eqb (length word) (places s))
      ++ message_rules (dimension c h (columns_of c s)) (length message) (all_bits word))

  unfoldable pub message_answer : List ℕ → List ℕ → Outcome
  message_answer word message = unless_refused (message_fault word message) Refused Done

  unfoldable pub message_after : List ℕ → List ℕ → List ℕ
  message_after word message = unless_refused (message_fault word message) (λ k. message) (message_of c h (columns_of c s) word)
