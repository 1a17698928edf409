-- Short words: a mark for each place, "0 sent or 1 hidden" (01's "hidden"). In coding theory this is the shortened code.
use Rattle.std.specs.Prelude.{Bool, cond, ◌&&◌, ◌||◌, List, [], ◌∷◌, ℕ, eqb, length}
use Rattle.algebra.specs.All.{all}
use Rattle.algebra.specs.Lists.{entry_of}
use Rattle.algebra.specs.Places.{count, chosen}
use Rattle.algebra.specs.Tabulate.{tabulate}
use Rattle.refusals.specs.Rules.{Rule, ◌unless◌}
use Rattle.slices.specs.Bits.{all_bits}
use Rattle.params.specs.declared.Parameters.{Parameters}
use Rattle.parity.specs.Columns.{is_message_column}

abbrev pub is_sent : List ℕ → ℕ → Bool
is_sent hidden p = eqb (entry_of hidden p) 0

-- the places that are sent, counted
unfoldable pub sent_count : List ℕ → ℕ
sent_count hidden = count (length hidden) (is_sent hidden)

-- what is transmitted of a list with an entry for each place: a hidden place "isn't transmitted"
unfoldable pub sent_of : List ℕ → List ℕ → List ℕ
sent_of hidden x = chosen (length hidden) (is_sent hidden) (entry_of x)

-- the word of all places behind a word that is sent: a hidden place "always holds 0"
unfoldable pub full_word : List ℕ → List ℕ → List ℕ
full_word hidden w = tabulate (length hidden) (λ p. cond (is_sent hidden p) (entry_of w (count p (is_sent hidden))) 0)

-- every hidden place passes the test
unfoldable pub hidden_pass : List ℕ → (ℕ → Bool) → Bool
hidden_pass hidden test = all (length hidden) (λ p. is_sent hidden p || test p)

module _ (c : Parameters) (h cols hidden : List ℕ) where
  -- "A hidden place must be a message column": it is one among all columns `cols`, those that are hidden with them.
  unfoldable pub hides_messages : Bool
  hides_messages = hidden_pass hidden (is_message_column c h cols)

  -- "k counts sent message columns only"
  unfoldable pub sent_dimension : ℕ
  sent_dimension = count (length hidden) (λ p. is_sent hidden p && is_message_column c h cols p)

  -- 20, 01's "hidden": "such a mark other than 0 or 1, or a hidden check column". "A length that follows from these marks is tested right after it,
  -- as 2": `words` says that what has an entry for each sent place has its length.
  unfoldable pub mark_rules : Bool → List Rule
  mark_rules words = (20 unless all_bits hidden) ∷ (20 unless hides_messages) ∷ (2 unless words) ∷ []
